-- The unfolded model, folded, does what the protocol does.
use Rattle.std.proofs.Common.{◌≡◌, Bool, true, false, cond, if◌then◌else◌, List, [], ◌∷◌, ◌++◌, map, flat_map, refl, sym, ap, ◌∙◌, subst}
use Rattle.pb_text_meaning.specs.Syntax.{Name, Variable, Term}
use Rattle.pb_model_meaning.specs.Syntax as flat
use Rattle.pb_model_translation.specs.Apart.{IsNew, AreApart, AreNew, StepsAreNew}
use Rattle.pb_model_translation.proofs.Answer.{translations_have_the_answer as answer-of}
use Rattle.pb_protocol_folding.specs.Names.{IsNot, AreDistinct, AreNot, names_of, enumerators_in, HaveNoneOf, AssignOnce}
use Rattle.pb_protocol_folding.specs.FoldedModels.{is_possible, folded_step, folded_steps}
use Rattle.pb_protocol_folding.specs.Laws.{HidesNoNames}
use Rattle.pb_protocol_folding.proofs.FoldedModels.{folding_keeps_initial_states, folding_keeps_steps, folding_keeps_formulas}
use Rattle.pb_protocol_folding.proofs.PositiveCalls.{folding_keeps_positive_calls}
use Rattle.pb_protocol_meaning.specs.Syntax.{Step, StepSet, Protocol}
use Rattle.pb_protocol_meaning.specs.Syntax as protocol
use Rattle.pb_protocol_meaning.specs.Steps.{data_of}
use Rattle.pb_protocol_unfolding.specs.Written.{written_tuples}
use Rattle.pb_protocol_unfolding.specs.PutIn.{TermScope}
use Rattle.pb_protocol_unfolding.specs.Unfolding.{Element, name_of, variable_of, all_elements, variables_of, is_whole, whole_step, with_own, own_left, own_scope, unfolded_assignment, Instance, instances_of, instances, unfolded_step, unfolded_formula, unfolded}
use Rattle.pb_protocol_unfolding.specs.Hygiene.{HidesNothing}
use Rattle.pb_protocol_unfolding.specs.ModelLaws.{flat_model, flat_formula, FlatModelsSatisfyTheSame, FlatModelsGoTheSame, FlatNamesAreApart, FlatTranslationsHaveTheAnswer}
use Rattle.pb_protocol_unfolding.specs.Positive.{PositiveCallsAreKept}
use Rattle.pb_protocol_unfolding.proofs.WholeSteps.{none-of-none, own-no-elements, own-no-enumerators}
use Rattle.pb_protocol_unfolding.proofs.Successors.{steps_are_unfolded}
use Rattle.pb_protocol_unfolding.proofs.Models.{models_are_unfolded}
use Rattle.pb_protocol_unfolding.proofs.PositiveCalls.{unfolded_calls_are_positive}

-- ---- names of the unfolded model

names-same : (es : List Element) → names_of (map variable_of es) ≡ map name_of es
names-same [] = refl
names-same (e ∷ es) = ap (λ xs. name_of e ∷ xs) (names-same es)

-- a flat model with other steps
abbrev pub with_steps : flat.Model → List flat.Step → flat.Model
with_steps m steps = record m { steps = steps }

module _ (m : Protocol) (hides : HidesNothing m) where
  assigned-same : (ρ : TermScope) (assignments : List protocol.Assignment) (es : List Element) →
      map (λ (b : flat.Assignment). b.variable) (map (unfolded_assignment m ρ assignments) es) ≡ map name_of es
  assigned-same ρ assignments [] = refl
  assigned-same ρ assignments (e ∷ es) = ap (λ xs. name_of e ∷ xs) (assigned-same ρ assignments es)

  all-assigned-once : (is : List Instance) → AssignOnce (map (unfolded_step m) is)
  all-assigned-once [] = tt
  all-assigned-once (i ∷ is) = (
    subst AreDistinct (sym (assigned-same (own_scope i) i.step.assignments (all_elements m))) hides.elements,
    all-assigned-once is,
  )

  -- no own variable that a step keeps has one of these names
  pub OwnAreNot : List Name → List Instance → Type 0
  OwnAreNot names [] = Unit {0}
  OwnAreNot names (i ∷ is) = AreNot names (names_of (own_left i.whole i.step.variables)) × OwnAreNot names is

  both-own : (names : List Name) (is js : List Instance) → OwnAreNot names is → OwnAreNot names js → OwnAreNot names (is ++ js)
  unfolding OwnAreNot
  both-own names [] js h k = k
  both-own names (i ∷ is) js h k = (h.0, both-own names is js h.1 k)

  tuples-own : (names : List Name) (a : Step) (all : List (List Term)) → OwnAreNot names (map (with_own a) all)
  unfolding OwnAreNot
  tuples-own names a [] = tt
  tuples-own names a (ks ∷ all) = (none-of-none names, tuples-own names a all)

  step-own : (names : List Name) → ((a : Step) → is_whole m a ≡ true → AreNot names (names_of a.variables)) → (a : Step) → OwnAreNot names (instances_of m a)
  unfolding OwnAreNot
  step-own names new a = by (is_whole m a) refl
    where
      by : (b : Bool) → is_whole m a ≡ b → OwnAreNot names (if b then whole_step a ∷ [] else map (with_own a) (written_tuples (data_of m) a.variables))
      by true e = (new a e, tt)
      by false e = tuples-own names a (written_tuples (data_of m) a.variables)

  pub steps-own : (names : List Name) → ((a : Step) → is_whole m a ≡ true → AreNot names (names_of a.variables)) → (steps : List Step) → OwnAreNot names (flat_map (instances_of m) steps)
  unfolding OwnAreNot
  steps-own names new [] = tt
  steps-own names new (a ∷ steps) = both-own names (instances_of m a) (flat_map (instances_of m) steps) (step-own names new a) (steps-own names new steps)

  none-of : (names : List Name) (is : List Instance) → OwnAreNot names is → HaveNoneOf names (map (unfolded_step m) is)
  unfolding OwnAreNot
  none-of names [] h = tt
  none-of names (i ∷ is) h = (h.0, none-of names is h.1)

  element-names : names_of (variables_of m) ≡ map name_of (all_elements m)
  element-names = names-same (all_elements m)

  pub flat-hides : HidesNoNames (unfolded m)
  flat-hides = record {
    variables = subst AreDistinct (sym (names-same (all_elements m))) hides.elements;
    values = subst (AreNot (enumerators_in m.sorts)) (sym (names-same (all_elements m))) hides.values;
    own = none-of (names_of (variables_of m)) (instances m)
        (subst (λ xs. OwnAreNot xs (instances m)) (sym element-names) (steps-own (map name_of (all_elements m)) (own-no-elements m) m.steps));
    own_values = none-of (enumerators_in m.sorts) (instances m) (steps-own (enumerators_in m.sorts) (own-no-enumerators m) m.steps);
    assignments = all-assigned-once (instances m);
  }

  -- so it is with the instances of one step alone
  pub step-hides : (a : Step) → HidesNoNames (with_steps (unfolded m) (map (unfolded_step m) (instances_of m a)))
  step-hides a = record {
    variables = subst AreDistinct (sym (names-same (all_elements m))) hides.elements;
    values = subst (AreNot (enumerators_in m.sorts)) (sym (names-same (all_elements m))) hides.values;
    own = none-of (names_of (variables_of m)) (instances_of m a)
        (subst (λ xs. OwnAreNot xs (instances_of m a)) (sym element-names) (step-own (map name_of (all_elements m)) (own-no-elements m) a));
    own_values = none-of (enumerators_in m.sorts) (instances_of m a) (step-own (enumerators_in m.sorts) (own-no-enumerators m) a);
    assignments = all-assigned-once (instances_of m a);
  }

  -- ---- and of the folded one

  names-new : (x : Name) (es : List Element) → IsNot x (map name_of es) → IsNew x (map variable_of es)
  names-new x [] h = tt
  names-new x (e ∷ es) h = (h.0, names-new x es h.1)

  names-apart : (es : List Element) → AreDistinct (map name_of es) → AreApart (map variable_of es)
  names-apart [] h = tt
  names-apart (e ∷ es) h = (names-new (name_of e) es h.0, names-apart es h.1)

  new-own : (x : Name) (xs : List Variable) → IsNot x (names_of xs) → IsNew x xs
  new-own x [] h = tt
  new-own x (y ∷ xs) h = (h.0, new-own x xs h.1)

  all-new : (es : List Element) (xs : List Variable) → AreNot (map name_of es) (names_of xs) → AreNew (map variable_of es) xs
  all-new [] xs h = tt
  all-new (e ∷ es) xs h = (new-own (name_of e) xs h.0, all-new es xs h.1)

  steps-new : (is : List Instance) → OwnAreNot (map name_of (all_elements m)) is → StepsAreNew (variables_of m) (folded_steps (data_of m) (map (unfolded_step m) is))
  unfolding OwnAreNot
  steps-new [] h = tt
  steps-new (i ∷ is) h = by (is_possible (folded_step (data_of m) (unfolded_step m i))) (steps-new is h.1)
    where
      by : (b : Bool) → StepsAreNew (variables_of m) (folded_steps (data_of m) (map (unfolded_step m) is)) →
          StepsAreNew (variables_of m)
          (cond b (folded_step (data_of m) (unfolded_step m i) ∷ folded_steps (data_of m) (map (unfolded_step m) is)) (folded_steps (data_of m) (map (unfolded_step m) is)))
      by true others = (all-new (all_elements m) (own_left i.whole i.step.variables) h.0, others)
      by false others = others

pub flat_names_are_apart : FlatNamesAreApart
flat_names_are_apart m hides = record {
  variables = names-apart m hides (all_elements m) hides.elements;
  steps = steps-new m hides (instances m) (steps-own m hides (map name_of (all_elements m)) (own-no-elements m) m.steps);
}

-- ---- laws

pub flat_models_satisfy_the_same : FlatModelsSatisfyTheSame
flat_models_satisfy_the_same m hides f names =
    (folding_keeps_formulas (unfolded m) (flat-hides m hides)).1 (unfolded_formula m [] f) ∙ (models_are_unfolded m hides).2 f names

pub flat_models_go_the_same : FlatModelsGoTheSame
flat_models_go_the_same m hides = (
  folding_keeps_initial_states (unfolded m) ∙ (models_are_unfolded m hides).0,
  (models_are_unfolded m hides).1,
  λ s. (folding_keeps_steps (unfolded m) (flat-hides m hides) flat.StepSet.All s).0 ∙ steps_are_unfolded m hides StepSet.All (λ a whole. refl) s,
)

pub flat_translations_have_the_answer : FlatTranslationsHaveTheAnswer
flat_translations_have_the_answer m hides f names =
    answer-of (flat_model m) (flat_formula m f) (flat_names_are_apart m hides) ∙ flat_models_satisfy_the_same m hides f names

pub positive_calls_are_kept : PositiveCallsAreKept
positive_calls_are_kept m f h =
    folding_keeps_positive_calls (unfolded m) true (unfolded_formula m [] f) (unfolded_calls_are_positive m f h)
