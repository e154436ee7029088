-- State variables without indices, and lists without items.
use Rattle.std.proofs.Common.{◌≡◌, ◌∙◌, ◌==◌, refl, sym, ap, Bool, true, false, ◌&&◌, List, [], ◌∷◌, ◌++◌, map, flat_map, length, arith}
use Rattle.std.specs.List.{list_all}
use Rattle.std.proofs.lemmas.Bool.Decides.{nat_tests}
use Rattle.pb_text_tree.specs.declared.name.Name as declared_name
use Rattle.pb_text_tree.specs.declared.variable.Variables.{Variables}
use Rattle.pb_text_tree.specs.declared.term.Argument.{Argument}
use Rattle.pb_text_tree.specs.Form.{argument_forms, variable_forms}
use Rattle.pb_protocol_tree.specs.declared.protocol.Definition.{Definition}
use Rattle.pb_protocol_tree.specs.declared.protocol.StateVariable.{StateVariable}
use Rattle.pb_protocol_tree.specs.declared.protocol.StateVariables.{StateVariables}
use Rattle.pb_protocol_tree.specs.Form.{StateVariableForm, state_variable_form, state_variables_form, definition_form}
use Rattle.pb_protocol_unfolder.specs.Plain.{is_plain_variable, has_no_variables, has_no_arguments, has_no_definitions}
use Rattle.pb_protocol_unfolder.specs.View.{has_no_indices, is_plain_group}

both-assoc : (a b c : Bool) → (a && (b && c)) ≡ ((a && b) && c)
both-assoc true b c = refl
both-assoc false b c = refl

all-appended : (xs ys : List StateVariableForm) → list_all is_plain_variable (xs ++ ys) ≡ (list_all is_plain_variable xs && list_all is_plain_variable ys)
all-appended [] ys = refl
all-appended (x ∷ xs) ys =
    ap (λ b. is_plain_variable x && b) (all-appended xs ys)
    ∙ both-assoc (is_plain_variable x) (list_all is_plain_variable xs) (list_all is_plain_variable ys)

variables-plain : (sort : declared_name.Name) (ys : List StateVariable) → list_all is_plain_variable (map (state_variable_form sort) ys) ≡ list_all has_no_indices ys
variables-plain sort [] = refl
variables-plain sort (y ∷ ys) = ap (λ b. has_no_indices y && b) (variables-plain sort ys)

pub state-plain : (gs : List StateVariables) → list_all is_plain_group gs ≡ list_all is_plain_variable (flat_map state_variables_form gs)
state-plain [] = refl
state-plain (g ∷ gs) =
    ap (λ b. b && list_all is_plain_group gs) (sym (variables-plain g.sort g.variables.items))
    ∙ ap (λ b. list_all is_plain_variable (state_variables_form g) && b) (state-plain gs)
    ∙ sym (all-appended (state_variables_form g) (flat_map state_variables_form gs))

pub empty-index : (xs : List Argument) → (length xs == 0) ≡ has_no_arguments (argument_forms xs)
empty-index [] = refl
empty-index (x ∷ xs) = grind (arith, nat_tests)

pub empty-definitions : (ds : List Definition) → (length ds == 0) ≡ has_no_definitions (map definition_form ds)
empty-definitions [] = refl
empty-definitions (d ∷ ds) = grind (arith, nat_tests)

-- a group with a name declares a variable
pub some-declared : (g : Variables) (gs : List Variables) → (length g.names.items ≡ 0 → ⊥) → has_no_variables (variable_forms (g ∷ gs)) ≡ false
some-declared g gs more = by g.names.items refl
  where
    by : (ns : List declared_name.Name) → g.names.items ≡ ns → has_no_variables (variable_forms (g ∷ gs)) ≡ false
    by [] e = absurd (more (ap (λ (xs : List declared_name.Name). length xs) e))
    by (n ∷ ns) e = simp e
