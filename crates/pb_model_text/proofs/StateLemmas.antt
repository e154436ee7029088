-- State variables, as they are read.
use Rattle.std.proofs.Common.{◌≡◌, List, [], ◌∷◌, ◌++◌, refl, ap, map, Ok, Err}
use Rattle.std.specs.Prelude.{flat_map}
use Rattle.pb_text_tree.specs.declared.name.Name.{Name}
use Rattle.pb_text_tree.specs.Form.{named}
use Rattle.pb_protocol_tree.specs.declared.protocol.StateVariable.{StateVariable}
use Rattle.pb_protocol_tree.specs.declared.protocol.StateVariables.{StateVariables}
use Rattle.pb_protocol_tree.specs.Form.{StateVariableForm, state_variable_form, state_variables_form}
use Rattle.pb_text_lexer.specs.declared.fault.Refusal.{Refusal}
use Rattle.pb_text_lexer.specs.Grammar.{State}
use Rattle.pb_model_text.specs.Models.{of_sort}
use Rattle.pb_model_text.specs.Links.{indexed}
use Rattle.pb_model_text.specs.ModelReading.{state_groups, state_variables}

pub variables-of-sort : (sort : Name) (xs : List StateVariable) → map (of_sort (named sort)) (map indexed xs) ≡ map (state_variable_form sort) xs
variables-of-sort sort [] = refl
variables-of-sort sort (x ∷ xs) = ap (λ (v : List StateVariableForm). state_variable_form sort x ∷ v) (variables-of-sort sort xs)

flattened : (gs : List StateVariables) → flat_map (λ g. g) (map state_variables_form gs) ≡ flat_map state_variables_form gs
flattened [] = refl
flattened (g ∷ gs) = ap (λ v. state_variables_form g ++ v) (flattened gs)

pub state-read : (s z : State) (gs : List StateVariables) → state_groups 64 s ≡ Ok (map state_variables_form gs, z) → state_variables 64 s ≡ Ok (flat_map state_variables_form gs, z)
unfolding state_variables
state-read s z gs reads = rw reads (ap (λ v. Ok (v, z)) (flattened gs))

pub state-fails : (s : State) (bad : Refusal) → state_groups 64 s ≡ Err bad → state_variables 64 s ≡ Err bad
unfolding state_variables
state-fails s bad reads = rw reads refl
