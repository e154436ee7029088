-- The negation that is known.
use Rattle.std.proofs.Common.{◌≡◌, ◌∙◌, ◌<◌, ℕ, List, true, Option, Some, length, ◌==◌, sym, subst, arith}
use Rattle.std.proofs.lemmas.Bool.Decides.{nat_tests}
use Rattle.std.proofs.lemmas.List.{length-map}
use Rattle.std.proofs.lemmas.Option.{slice_get_within}
use Rattle.pb_model_tree.specs.Form.{PropertyForm, model_form, property_form}
use Rattle.pb_model_properties.specs.Negations.{IsNegationOf}
use Rattle.pb_model_properties.specs.declared.solved.SolvedModel.{SolvedModel}
use Rattle.pb_command_models.specs.declared.negation.Negation.{Negation}
use Rattle.pb_command_faults.specs.declared.solve_fault.SolveFault.{SolveFault}
use Rattle.pb_command_models.specs.Outcomes.{IsNegation, IsUnexplainedAt, IsUnexplainedText, is_of}

-- its model has a property
pub first_within : (bytes : List ℕ) (place : ℕ) (solved : SolvedModel) → IsNegationOf bytes place solved → 0 < length solved.typed.model.properties.items
first_within bytes place solved of =
    let within = slice_get_within (model_form solved.typed.model).properties 0 of.negation of.first in
    let long = length-map solved.typed.model.properties.items property_form in
    omega (arith, within, long)

-- it is that of the property at the place
pub known_negation : (bytes : List ℕ) (place : ℕ) (known : Option Negation) (n : Negation) → known ≡ Some n → IsNegation bytes known → is_of place known ≡ true
    → IsNegationOf bytes place n.solved
known_negation bytes place known n is negation there =
    let here : IsNegationOf bytes n.place n.solved = subst (IsNegation bytes) is negation in
    let found : (n.place == place) ≡ true = subst (λ (k : Option Negation). is_of place k ≡ true) is there in
    let same : n.place ≡ place = grind (arith, nat_tests) in
    subst (λ (k : ℕ). IsNegationOf bytes k n.solved) same here

-- what a fault says of its text
pub first_unexplained : (bytes : List ℕ) (place : ℕ) (solved : SolvedModel) (of : IsNegationOf bytes place solved) (fault : SolveFault) → IsUnexplainedAt solved 0 fault
    → IsUnexplainedText solved of.negation fault
first_unexplained bytes place solved of fault (q, at, h) =
    let both : Some q ≡ Some of.negation = sym at ∙ of.first in
    let is : q ≡ of.negation = cc both in
    subst (λ (x : PropertyForm). IsUnexplainedText solved x fault) is h
