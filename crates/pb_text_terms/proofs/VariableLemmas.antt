-- Lists of names and of variables, as they are read.
use Rattle.std.proofs.Common.{◌≡◌, List, [], ◌∷◌, ◌++◌, refl, ap, map, Ok, Err}
use Rattle.std.specs.Prelude.{flat_map}
use Rattle.pb_text_tree.specs.declared.name.Name.{Name}
use Rattle.pb_text_tree.specs.declared.variable.Variables as declared
use Rattle.pb_text_tree.specs.Form.{Named, VariableForm, named, variables_form, variable_forms}
use Rattle.pb_text_lexer.specs.declared.fault.Refusal.{Refusal}
use Rattle.pb_text_lexer.specs.Grammar.{State}
use Rattle.pb_text_terms.specs.Reading.{groups, variables}

pub names-of-sort : (sort : Named) (ns : List Name)
    → map {B = VariableForm} (λ n. record { name = n; sort = sort }) (map named ns)
    ≡ map {B = VariableForm} (λ n. record { name = named n; sort = sort }) ns
names-of-sort sort [] = refl
names-of-sort sort (n ∷ ns) = ap (λ (v : List VariableForm). record { name = named n; sort = sort } ∷ v) (names-of-sort sort ns)

flattened : (gs : List declared.Variables) → flat_map (λ g. g) (map variables_form gs) ≡ variable_forms gs
flattened [] = refl
flattened (g ∷ gs) = ap (λ v. variables_form g ++ v) (flattened gs)

pub variables-read : (s z : State) (gs : List declared.Variables) → groups s ≡ Ok (map variables_form gs, z) → variables s ≡ Ok (variable_forms gs, z)
unfolding variables
variables-read s z gs reads = rw reads (ap (λ v. Ok (v, z)) (flattened gs))

pub variables-fail : (s : State) (bad : Refusal) → groups s ≡ Err bad → variables s ≡ Err bad
unfolding variables
variables-fail s bad reads = rw reads refl
