-- The unfolded model has the symmetries of the protocol.
use Rattle.std.proofs.Common.{◌≡◌, Bool, true, false, if◌then◌else◌, List, [], map, refl, sym, ap, ◌∙◌}
use Rattle.std.specs.List.{list_any, list_all}
use Rattle.std.proofs.lemmas.Bool.{cond-true}
use Rattle.pb_base_values.specs.Carrier.{Value, Carrier}
use Rattle.pb_text_tree.specs.declared.operator.Quantifier.TheVariants.{Forall, Exists}
use Rattle.pb_text_meaning.specs.Syntax.{Name}
use Rattle.pb_model_meaning.specs.Syntax as flat
use Rattle.pb_model_meaning.specs.Steps.{State}
use Rattle.pb_model_meaning.specs.Steps as flat_steps
use Rattle.pb_model_meaning.specs.Satisfaction.{States}
use Rattle.pb_model_meaning.proofs.Same.{all-same, any-same}
use Rattle.pb_model_translation.proofs.Lists.{of_list-map}
use Rattle.pb_model_symmetry.specs.Symmetry as flat_symmetry
use Rattle.pb_model_symmetry.specs.Symmetry.{HaveSameStates, KeepsSteps, Follow, IsKeptWhole, KeepsFormula, OfWhole, OfNot, OfAnd, OfOr, OfImplies, OfBox, OfDiamond, OfFixpoint, IsModelSymmetry}
use Rattle.pb_model_symmetry.specs.Laws.{TranslationsAreSymmetric}
use Rattle.pb_model_translation.specs.Translation.{equation_count}
use Rattle.pb_protocol_meaning.specs.Syntax.{StepSet, Formula, Protocol}
use Rattle.pb_protocol_meaning.specs.Steps.{data_of, is_state, successors}
use Rattle.pb_protocol_meaning.specs.Satisfaction.{satisfying}
use Rattle.pb_protocol_unfolding.specs.Unfolding.{unfolded, unfolded_set, unfolded_formula}
use Rattle.pb_protocol_unfolding.specs.Hygiene.{HidesNothing}
use Rattle.pb_protocol_unfolding.specs.Whole.{valued_in, valued_in_set}
use Rattle.pb_protocol_unfolding.specs.ModelLaws.{NamesNoWhole, StepsAreUnfolded, FormulasAreUnfolded, ModelsAreUnfolded}
use Rattle.pb_protocol_unfolding.proofs.Formulas.{front-names, behind-names}
use Rattle.pb_protocol_symmetry.specs.Permutation.{IsPermutation}
use Rattle.pb_protocol_symmetry.specs.Kinds.{Signatures}
use Rattle.pb_protocol_symmetry.specs.States.{permuted}
use Rattle.pb_protocol_symmetry.specs.Satisfaction.{IsSymmetric, SetHasKindsAt, FormulaHasKinds, seen, PermutedStatesAreStates, SuccessorsArePermuted, SatisfactionIsPermuted}
use Rattle.pb_protocol_symmetry_unfolded.specs.Laws.{IsQuantifiedAlone, permuted_states, UnfoldedModelsAreSymmetric, UnfoldedEquationsAreSymmetric}

by_truth : {P : Type 0} (b : Bool) → (b ≡ true → P) → (b ≡ false → P) → P
by_truth true h k = h refl
by_truth false h k = k refl

module _ (steps-unfolded : StepsAreUnfolded) (formulas-unfolded : FormulasAreUnfolded) (models-unfolded : ModelsAreUnfolded)
    (states-kept : PermutedStatesAreStates) (successors-permuted : SuccessorsArePermuted) (satisfaction-permuted : SatisfactionIsPermuted)
    (m : Protocol) (hides : HidesNothing m) (sort : Name) (M : Carrier) (signatures : Signatures) (known : IsSymmetric m sort M signatures)
    (p back : Value → Value) (permutes : IsPermutation M p back) where
  abbrev U : flat.Model
  U = unfolded m

  abbrev turn : State → State
  turn s = permuted (data_of m) sort p back m.variables s

  abbrev f : State → State
  f s = permuted_states m sort p back s

  same-states : (s : State) → flat_steps.is_state U s ≡ is_state m s
  same-states s = (models-unfolded m hides).1 s

  at-states : (s : State) → is_state m s ≡ true → f s ≡ turn s
  at-states s e = cond-true (is_state m s) (turn s) s e

  states : (s : State) → flat_steps.is_state U (f s) ≡ flat_steps.is_state U s
  states s =
      by_truth (is_state m s)
      (λ e. same-states (f s) ∙ (ap (is_state m) (at-states s e) ∙ (states-kept m sort M signatures known p back permutes s e ∙ (sym e ∙ sym (same-states s)))))
      (λ e. ap (λ b. flat_steps.is_state U (if b then turn s else s)) e)

  -- a set of states, at the images by f
  seen-there : (S : States) (b : Bool) (r : State) → seen m (λ t. S (turn t)) b r ≡ flat_symmetry.seen U S b (f r)
  seen-there S b r =
      by_truth (is_state m r)
      (λ e. ap (λ d. if d then S (turn r) else b) e ∙
      (sym (ap (λ d. if d then S (turn r) else b) (same-states (turn r) ∙ states-kept m sort M signatures known p back permutes r e)) ∙
      ap (flat_symmetry.seen U S b) (sym (at-states r e))))
      (λ e. ap (λ d. if d then S (turn r) else b) e ∙
      (sym (ap (λ d. if d then S r else b) (same-states r ∙ e)) ∙
      ap (λ d. flat_symmetry.seen U S b (if d then turn r else r)) (sym e)))

  seen-here : (S : States) (b : Bool) (r : State) → flat_symmetry.seen U S b r ≡ seen m S b r
  seen-here S b r = ap (λ d. if d then S r else b) (same-states r)

  steps-kept : (A : StepSet) → NamesNoWhole m (valued_in_set A) → SetHasKindsAt (data_of m) sort M signatures.at_start [] A m.steps → KeepsSteps U f (unfolded_set m [] A)
  steps-kept A names h s e S b =
      let e' : is_state m s ≡ true = sym (same-states s) ∙ e in
      let r = successors-permuted m sort M signatures known p back permutes [] [] [] tt A h s e' S b in
      let there : flat_steps.successors U (unfolded_set m [] A) (f s) ≡ successors m [] A (turn s) =
      ap (flat_steps.successors U (unfolded_set m [] A)) (at-states s e') ∙ steps-unfolded m hides A names (turn s) in
      let here : flat_steps.successors U (unfolded_set m [] A) s ≡ successors m [] A s = steps-unfolded m hides A names s in (
        ap (list_all (flat_symmetry.seen U S b)) there ∙ (all-same U _ _ (seen-here S b) (successors m [] A (turn s)) ∙ (r.0 ∙
            (all-same U _ _ (seen-there S b) (successors m [] A s) ∙ (sym (of_list-map Forall (flat_symmetry.seen U S b) f (successors m [] A s)) ∙
            ap (λ (l : List State). list_all (flat_symmetry.seen U S b) (map f l)) (sym here))))),
        ap (list_any (flat_symmetry.seen U S b)) there ∙ (any-same U _ _ (seen-here S b) (successors m [] A (turn s)) ∙ (r.1 ∙
            (any-same U _ _ (seen-there S b) (successors m [] A s) ∙ (sym (of_list-map Exists (flat_symmetry.seen U S b) f (successors m [] A s)) ∙
            ap (λ (l : List State). list_any (flat_symmetry.seen U S b) (map f l)) (sym here))))),
      )

  whole-kept : (g : Formula) → NamesNoWhole m (valued_in g) → FormulaHasKinds m sort M signatures [] g → equation_count (unfolded_formula m [] g) ≡ 0 → IsKeptWhole U f (unfolded_formula m [] g)
  whole-kept g names h alone = record {
    alone = alone;
    same = λ V W VW s e.
        let e' : is_state m s ≡ true = sym (same-states s) ∙ e in
        formulas-unfolded m hides W g names (f s) ∙
        (ap (satisfying m W [] g) (at-states s e') ∙
        (satisfaction-permuted m sort M signatures known p back permutes g [] h V W
        (λ X r k. ap (W X) (sym (at-states r k)) ∙ VW X r (same-states r ∙ k)) [] [] tt s e' ∙
        sym (formulas-unfolded m hides V g names s)));
  }

  kept : (g : Formula) → NamesNoWhole m (valued_in g) → FormulaHasKinds m sort M signatures [] g → IsQuantifiedAlone m g → KeepsFormula U f (unfolded_formula m [] g)
  kept (Formula.Truth b) names h alone = OfWhole _ (whole-kept (Formula.Truth b) names h refl)
  kept (Formula.Data x) names h alone = OfWhole _ (whole-kept (Formula.Data x) names h refl)
  kept (Formula.Named X) names h alone = OfWhole _ (whole-kept (Formula.Named X) names h refl)
  kept (Formula.Not g) names h alone = OfNot _ (kept g names h alone)
  kept (Formula.And g i) names h alone =
      OfAnd _ _ (kept g (front-names m (valued_in g) (valued_in i) names) h.0 alone.0) (kept i (behind-names m (valued_in g) (valued_in i) names) h.1 alone.1)
  kept (Formula.Or g i) names h alone =
      OfOr _ _ (kept g (front-names m (valued_in g) (valued_in i) names) h.0 alone.0) (kept i (behind-names m (valued_in g) (valued_in i) names) h.1 alone.1)
  kept (Formula.Implies g i) names h alone =
      OfImplies _ _ (kept g (front-names m (valued_in g) (valued_in i) names) h.0 alone.0) (kept i (behind-names m (valued_in g) (valued_in i) names) h.1 alone.1)
  kept (Formula.Box A g) names h alone =
      OfBox _ _ (steps-kept A (front-names m (valued_in_set A) (valued_in g) names) h.0) (kept g (behind-names m (valued_in_set A) (valued_in g) names) h.1 alone)
  kept (Formula.Diamond A g) names h alone =
      OfDiamond _ _ (steps-kept A (front-names m (valued_in_set A) (valued_in g) names) h.0) (kept g (behind-names m (valued_in_set A) (valued_in g) names) h.1 alone)
  kept (Formula.Fixpoint sign X g) names h alone = OfFixpoint sign X _ (kept g names h alone)
  kept (Formula.Quantified q xs g) names h alone = OfWhole _ (whole-kept (Formula.Quantified q xs g) names h alone)

  pub model-symmetric : (g : Formula) → NamesNoWhole m (valued_in g) → FormulaHasKinds m sort M signatures [] g → IsQuantifiedAlone m g →
      IsModelSymmetry U (unfolded_formula m [] g) f
  model-symmetric g names h alone = record { states = states; formula = kept g names h alone }

pub symmetric : StepsAreUnfolded → FormulasAreUnfolded → ModelsAreUnfolded → PermutedStatesAreStates → SuccessorsArePermuted → SatisfactionIsPermuted → UnfoldedModelsAreSymmetric
symmetric su fu mu sk sp sat m hides sort M signatures known p back permutes f none-whole h alone =
    model-symmetric su fu mu sk sp sat m hides sort M signatures known p back permutes f none-whole h alone

pub equations-symmetric : UnfoldedModelsAreSymmetric → TranslationsAreSymmetric → UnfoldedEquationsAreSymmetric
equations-symmetric models translations m hides sort M signatures known p back permutes f none-whole h alone names apart =
    translations (unfolded m) names (unfolded_formula m [] f) (permuted_states m sort p back) apart
    (models m hides sort M signatures known p back permutes f none-whole h alone)
