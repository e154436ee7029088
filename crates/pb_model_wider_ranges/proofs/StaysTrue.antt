-- What is true of a model stays true in wider ranges: at the states of the narrower one, its sets are within those of the wider one.
use Rattle.std.proofs.Common.{◌≡◌, Bool, true, false, true≢false, not, ◌&&◌, if◌then◌else◌, refl, sym, ap, ◌∙◌}
use Rattle.std.specs.List.{list_any, list_all}
use Rattle.std.proofs.lemmas.Bool.{and_parts, and_from}
use Rattle.pb_fixpoint.specs.declared.Sign.{Sign}
use Rattle.pb_fixpoint.specs.declared.Sign.TheVariants.{Mu, Nu}
use Rattle.pb_text_meaning.specs.Syntax.{Name, same_name}
use Rattle.pb_model_meaning.specs.Syntax.{StepSet, Formula, Model}
use Rattle.pb_model_meaning.specs.Steps.{State, is_state, initial_state, successors}
use Rattle.pb_model_meaning.specs.Satisfaction.{States, Valuation, with_set, no_sets, is_truth, holds_at, satisfying}
use Rattle.pb_model_meaning.specs.Positive.{IsPositive}
use Rattle.pb_model_meaning.specs.Laws.{WithinModel}
use Rattle.pb_model_meaning.proofs.Fixpoints.{fixpoints_are_extreme}
use Rattle.pb_model_translation.specs.Positive.{is_constant, HasPositiveCalls}
use Rattle.pb_model_translation.proofs.Positive.{positive_calls_suffice}
use Rattle.pb_model_wider_ranges.specs.Wider.{IsSameTest, EachTest}
use Rattle.pb_model_wider_ranges.specs.Laws.{TrueStaysTrueInWiderRanges}
use Rattle.pb_model_wider_ranges.proofs.Choices.{Below, same-choice, not-below, and-below, or-below, choice-below, all-below, any-below}

-- `true` is satisfied everywhere
truth-holds : (m : Model) (ρ : Valuation) (f : Formula) (s : State) → is_truth f ≡ true → satisfying m ρ f s ≡ true
truth-holds m ρ (Formula.Truth b) s e = e
truth-holds m ρ f s e = absurd (true≢false (sym e))

-- a constant is as true outside the ranges as within
constant-same : (m : Model) (ρ : Valuation) (f : Formula) → (is_constant f ≡ false → false ≡ true) → (s : State) → holds_at m f (satisfying m ρ f) s ≡ is_truth f
constant-same m ρ (Formula.Truth b) h s = same-choice (is_state m s) b
constant-same m ρ f h s = absurd (true≢false (sym (h refl)))

constant-below : (m w : Model) (ρ τ : Valuation) (f : Formula) → (is_constant f ≡ false → false ≡ true) → (s : State) →
    Below (holds_at w f (satisfying w τ f) s) (holds_at m f (satisfying m ρ f) s)
constant-below m w ρ τ f h s e = constant-same m ρ f h s ∙ sym (constant-same w τ f h s) ∙ e

module _ (m w : Model) (contained : (s : State) → is_state m s ≡ true → is_state w s ≡ true)
    (moves : (A : StepSet) (s : State) → is_state m s ≡ true → successors w A s ≡ successors m A s) where
  set-within : (b : Bool) (S T U V : States) → WithinModel m S T → WithinModel m U V → WithinModel m (if b then S else U) (if b then T else V)
  set-within true S T U V h k = h
  set-within false S T U V h k = k

  abbrev AreWithin : Valuation → Valuation → Type 0
  AreWithin ρ τ = (X : Name) → WithinModel m (ρ X) (τ X)

  with_set-within : (ρ τ : Valuation) → AreWithin ρ τ → (X : Name) (S T : States) → WithinModel m S T → AreWithin (with_set ρ X S) (with_set τ X T)
  with_set-within ρ τ h X S T ST Y = set-within (same_name X Y) S T (ρ Y) (τ Y) ST (h Y)

  holds-below : (f : Formula) (ρ τ : Valuation) → WithinModel m (satisfying m ρ f) (satisfying w τ f) → (s : State) →
      Below (holds_at m f (satisfying m ρ f) s) (holds_at w f (satisfying w τ f) s)
  holds-below f ρ τ h s =
      choice-below (is_state m s) (is_state w s) (satisfying m ρ f s) (satisfying w τ f s) (is_truth f) (contained s) (h s) (truth-holds w τ f s)

  module _ (ρ τ : Valuation) (X : Name) (f : Formula) (p : HasPositiveCalls true f)
      (step : (S T : States) → WithinModel m S T → WithinModel m (satisfying m (with_set ρ X S) f) (satisfying w (with_set τ X T) f)) where
    positive : (sign : Sign) → IsPositive (Formula.Fixpoint sign X f)
    positive sign = positive_calls_suffice (Formula.Fixpoint sign X f) (refl, p)

    abbrev narrow : Sign → States
    narrow sign = satisfying m ρ (Formula.Fixpoint sign X f)

    abbrev wide : Sign → States
    wide sign = satisfying w τ (Formula.Fixpoint sign X f)

    fixpoint-within : (sign : Sign) → WithinModel m (narrow sign) (wide sign)
    fixpoint-within Mu =
        let of_m = fixpoints_are_extreme m ρ Mu X f (positive Mu) in
        let of_w = fixpoints_are_extreme w τ Mu X f (positive Mu) in
        of_m.least (wide Mu) (λ s e x. sym (of_w.fixpoint s (contained s e)) ∙ step (wide Mu) (wide Mu) (λ i k y. y) s e x)
    fixpoint-within Nu =
        let of_m = fixpoints_are_extreme m ρ Nu X f (positive Nu) in
        let of_w = fixpoints_are_extreme w τ Nu X f (positive Nu) in
        let S : States = λ s. is_state m s && narrow Nu s in
        let closed : WithinModel w S (satisfying w (with_set τ X S) f) = λ s e x.
        let parts = and_parts (is_state m s) (narrow Nu s) x in
        step (narrow Nu) S (λ i k y. and_from (is_state m i) (narrow Nu i) k y) s parts.0 (of_m.fixpoint s parts.0 ∙ parts.1) in
        λ s e x. of_w.greatest S closed s (contained s e) (and_from (is_state m s) (narrow Nu s) e x)

  -- where the negations around are even, m's set is within w's; else w's within m's
  abbrev Ordered : Bool → States → States → Type 0
  Ordered true S T = WithinModel m S T
  Ordered false S T = WithinModel m T S

  ordered : (even : Bool) (f : Formula) → HasPositiveCalls even f → EachTest (IsSameTest m w) f → (ρ τ : Valuation) → AreWithin ρ τ → Ordered even (satisfying m ρ f) (satisfying w τ f)
  ordered true (Formula.Truth b) p t ρ τ h = λ s e x. x
  ordered false (Formula.Truth b) p t ρ τ h = λ s e x. x
  ordered true (Formula.Data d) p t ρ τ h = λ s e x. t s e ∙ x
  ordered false (Formula.Data d) p t ρ τ h = λ s e x. sym (t s e) ∙ x
  ordered true (Formula.Named X) p t ρ τ h = h X
  ordered false (Formula.Named X) p t ρ τ h = absurd (true≢false (sym p))
  ordered true (Formula.Not f) p t ρ τ h = λ s e. not-below (satisfying m ρ f s) (satisfying w τ f s) (ordered false f p t ρ τ h s e)
  ordered false (Formula.Not f) p t ρ τ h = λ s e. not-below (satisfying w τ f s) (satisfying m ρ f s) (ordered true f p t ρ τ h s e)
  ordered true (Formula.And f g) p t ρ τ h =
      λ s e. and-below (satisfying m ρ f s) (satisfying m ρ g s) (satisfying w τ f s) (satisfying w τ g s) (ordered true f p.0 t.0 ρ τ h s e) (ordered true g p.1 t.1 ρ τ h s e)
  ordered false (Formula.And f g) p t ρ τ h =
      λ s e. and-below (satisfying w τ f s) (satisfying w τ g s) (satisfying m ρ f s) (satisfying m ρ g s) (ordered false f p.0 t.0 ρ τ h s e) (ordered false g p.1 t.1 ρ τ h s e)
  ordered true (Formula.Or f g) p t ρ τ h =
      λ s e. or-below (satisfying m ρ f s) (satisfying m ρ g s) (satisfying w τ f s) (satisfying w τ g s) (ordered true f p.0 t.0 ρ τ h s e) (ordered true g p.1 t.1 ρ τ h s e)
  ordered false (Formula.Or f g) p t ρ τ h =
      λ s e. or-below (satisfying w τ f s) (satisfying w τ g s) (satisfying m ρ f s) (satisfying m ρ g s) (ordered false f p.0 t.0 ρ τ h s e) (ordered false g p.1 t.1 ρ τ h s e)
  ordered true (Formula.Implies f g) p t ρ τ h =
      λ s e. or-below (not (satisfying m ρ f s)) (satisfying m ρ g s) (not (satisfying w τ f s)) (satisfying w τ g s)
      (not-below (satisfying m ρ f s) (satisfying w τ f s) (ordered false f p.0 t.0 ρ τ h s e)) (ordered true g p.1 t.1 ρ τ h s e)
  ordered false (Formula.Implies f g) p t ρ τ h =
      λ s e. or-below (not (satisfying w τ f s)) (satisfying w τ g s) (not (satisfying m ρ f s)) (satisfying m ρ g s)
      (not-below (satisfying w τ f s) (satisfying m ρ f s) (ordered true f p.0 t.0 ρ τ h s e)) (ordered false g p.1 t.1 ρ τ h s e)
  ordered true (Formula.Box A f) p t ρ τ h =
      let below = holds-below f ρ τ (ordered true f p.1 t ρ τ h) in
      λ s e x. ap (list_all (holds_at w f (satisfying w τ f))) (moves A s e) ∙ all-below _ _ below (successors m A s) x
  ordered false (Formula.Box A f) p t ρ τ h =
      λ s e x. all-below (holds_at w f (satisfying w τ f)) (holds_at m f (satisfying m ρ f))
      (constant-below m w ρ τ f p.0) (successors m A s) (sym (ap (list_all (holds_at w f (satisfying w τ f))) (moves A s e)) ∙ x)
  ordered true (Formula.Diamond A f) p t ρ τ h =
      let below = holds-below f ρ τ (ordered true f p.1 t ρ τ h) in
      λ s e x. ap (list_any (holds_at w f (satisfying w τ f))) (moves A s e) ∙ any-below _ _ below (successors m A s) x
  ordered false (Formula.Diamond A f) p t ρ τ h =
      λ s e x. any-below (holds_at w f (satisfying w τ f)) (holds_at m f (satisfying m ρ f))
      (constant-below m w ρ τ f p.0) (successors m A s) (sym (ap (list_any (holds_at w f (satisfying w τ f))) (moves A s e)) ∙ x)
  ordered true (Formula.Fixpoint sign X f) p t ρ τ h =
      fixpoint-within ρ τ X f p.1 (λ S T ST. ordered true f p.1 t (with_set ρ X S) (with_set τ X T) (with_set-within ρ τ h X S T ST)) sign
  ordered false (Formula.Fixpoint sign X f) p t ρ τ h = absurd (true≢false (sym p.0))

pub stays-true : TrueStaysTrueInWiderRanges
stays-true m w f wider p e =
    let s = initial_state m in
    let parts = and_parts (is_state m s) (satisfying m no_sets f s) e in
    let truth = ordered m w wider.states wider.successors true f p wider.tests no_sets no_sets (λ X i k x. x) s parts.0 parts.1 in
    ap (λ i. is_state w i && satisfying w no_sets f i) wider.initial ∙ and_from (is_state w s) (satisfying w no_sets f s) (wider.states s parts.0) truth
