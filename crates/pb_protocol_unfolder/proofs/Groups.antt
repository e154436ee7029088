-- State variables of one sort, without their indices.
use Rattle.std.proofs.Common.{◌≡◌, ◌∙◌, refl, sym, ap, List, [], ◌∷◌, map}
use Rattle.pb_text_tree.specs.declared.name.Name.{Name}
use Rattle.pb_text_tree.specs.Form.{Named, VariableForm, named}
use Rattle.pb_protocol_tree.specs.declared.protocol.StateVariable.{StateVariable}
use Rattle.pb_protocol_tree.specs.Form.{state_variable_form}
use Rattle.pb_protocol_unfolder.specs.Plain.{flat_variable}
use Rattle.pb_protocol_unfolder.specs.View.{variable_name}

abbrev sorted : Named → Named → VariableForm
sorted sort name = record { name = name; sort = sort }

names-sorted : (sort : Named) (ns : List Name) → map (λ (n : Name). sorted sort (named n)) ns ≡ map (sorted sort) (map named ns)
names-sorted sort [] = refl
names-sorted sort (n ∷ ns) = ap (λ v. sorted sort (named n) ∷ v) (names-sorted sort ns)

variables-sorted : (sort : Name) (ys : List StateVariable) → map flat_variable (map (state_variable_form sort) ys) ≡ map (sorted (named sort)) (map variable_name ys)
variables-sorted sort [] = refl
variables-sorted sort (y ∷ ys) = ap (λ v. sorted (named sort) (variable_name y) ∷ v) (variables-sorted sort ys)

pub variables-flat : (sort : Name) (ns : List Name) (ys : List StateVariable) → map named ns ≡ map variable_name ys
    → map (λ (n : Name). sorted (named sort) (named n)) ns ≡ map flat_variable (map (state_variable_form sort) ys)
variables-flat sort ns ys same = names-sorted (named sort) ns ∙ ap (map (sorted (named sort))) same ∙ sym (variables-sorted sort ys)
