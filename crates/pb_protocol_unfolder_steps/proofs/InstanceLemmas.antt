-- Of a step that stays whole there is one instance, of any other one for each tuple of values.
use Rattle.std.proofs.Common.{◌≡◌, ◌∙◌, refl, sym, ap, Bool, true, false, if◌then◌else◌, List, [], ◌∷◌, map, length}
use Rattle.std.proofs.lemmas.List.{length-map}
use Rattle.pb_text_tree.specs.declared.name.Name as declared_name
use Rattle.pb_text_meaning.specs.Syntax.{Variable, Term}
use Rattle.pb_protocol_tree.specs.declared.step.Step as declared_step
use Rattle.pb_protocol_tree.specs.Form.{step_form}
use Rattle.pb_protocol_meaning.specs.Syntax.{Step, Protocol}
use Rattle.pb_protocol_meaning.specs.Erase.{erased_step}
use Rattle.pb_protocol_meaning.specs.Steps.{data_of}
use Rattle.pb_protocol_unfolding.specs.Written.{written_tuples}
use Rattle.pb_protocol_unfolding.specs.Unfolding.{Instance, is_whole, own_left, own_terms}
use Rattle.pb_protocol_unfolder_steps.specs.Elements.{instance_at, instances_of_step, own_variables, whole_at}
use Rattle.pb_protocol_unfolder_steps.specs.Refusals.{each_at, places_of_step}
use Rattle.pb_protocol_unfolder_steps.specs.StepFaults.{PlacedInstance, forms_of_step, placed_at, placed_whole}
use Rattle.pb_protocol_unfolder_steps.proofs.RefusalLemmas.{placed-along}

-- the tuples of values of a step's own variables
abbrev pub tuples_for : Protocol → declared_step.Step → List (List Term)
tuples_for m a = written_tuples (data_of m) (own_variables a)

module _ (m : Protocol) (a : declared_step.Step) where
  abbrev whole : Bool
  whole = is_whole m (erased_step (step_form a))

  abbrev instances_by : Bool → List Instance
  instances_by b = if b then whole_at a ∷ [] else map (instance_at a) (tuples_for m a)

  abbrev forms_by : Bool → List PlacedInstance
  forms_by b = if b then placed_whole (step_form a) ∷ [] else map (placed_at (step_form a)) (tuples_for m a)

  pub whole-instances : true ≡ whole → whole_at a ∷ [] ≡ instances_of_step m a
  whole-instances e = ap instances_by e

  pub whole-places : true ≡ whole → a.name.place ∷ [] ≡ places_of_step m a
  whole-places e = ap (λ b. each_at a.name.place (instances_by b)) e

  pub whole-forms : true ≡ whole → placed_whole (step_form a) ∷ [] ≡ forms_of_step m a
  whole-forms e = ap forms_by e

  pub written-instances : false ≡ whole → map (instance_at a) (tuples_for m a) ≡ instances_of_step m a
  written-instances e = ap instances_by e

  pub written-places : false ≡ whole → each_at a.name.place (tuples_for m a) ≡ places_of_step m a
  written-places e = sym (placed-along a.name.place (instance_at a) (tuples_for m a)) ∙ ap (λ b. each_at a.name.place (instances_by b)) e

  pub written-forms : false ≡ whole → map (placed_at (step_form a)) (tuples_for m a) ≡ forms_of_step m a
  written-forms e = ap forms_by e

  pub written-counted : false ≡ whole → length (tuples_for m a) ≡ length (instances_of_step m a)
  written-counted e = sym (length-map (tuples_for m a) (instance_at a)) ∙ ap (λ b. length (instances_by b)) e

  pub whole-counted : true ≡ whole → 1 ≡ length (instances_of_step m a)
  whole-counted e = ap (λ b. length (instances_by b)) e

-- ---- own variables

-- variables as terms are their names
pub named-terms : (xs : List Variable) (ks : List Term) → map Term.Named (map (λ (x : Variable). x.name) xs) ≡ own_terms true xs ks
named-terms [] ks = refl
named-terms (x ∷ xs) ks = ap (λ v. Term.Named x.name ∷ v) (named-terms xs ks)

pub themselves-own : (b : Bool) (xs : List Variable) (ks : List Term) → b ≡ true → own_terms true xs [] ≡ own_terms b xs ks
themselves-own true xs ks e = refl
themselves-own false xs ks e = cc

pub values-own : (b : Bool) (xs : List Variable) (ks : List Term) → b ≡ false → ks ≡ own_terms b xs ks
values-own true xs ks e = cc
values-own false xs ks e = refl

pub all-left : (b : Bool) (xs : List Variable) → b ≡ true → xs ≡ own_left b xs
all-left true xs e = refl
all-left false xs e = cc

pub none-left : (b : Bool) (xs : List Variable) → b ≡ false → [] ≡ own_left b xs
none-left true xs e = cc
none-left false xs e = refl
