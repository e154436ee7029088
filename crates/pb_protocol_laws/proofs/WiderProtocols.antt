-- What a protocol satisfies it satisfies in wider ranges of its elements: at its states, its sets are within those of the wider one.
use Rattle.std.proofs.Common.{◌≡◌, Bool, true, false, true≢false, not, ◌&&◌, if◌then◌else◌, List, [], refl, sym, ap, ◌∙◌}
use Rattle.std.specs.List.{list_any, list_all}
use Rattle.std.proofs.lemmas.Bool.{and_parts, and_from, false_from_ne_true}
use Rattle.pb_fixpoint.specs.declared.Sign.{Sign}
use Rattle.pb_fixpoint.specs.declared.Sign.TheVariants.{Mu, Nu}
use Rattle.pb_text_tree.specs.declared.operator.Quantifier.TheVariants.{Forall, Exists}
use Rattle.pb_text_meaning.specs.Syntax.{Name, same_name, Range}
use Rattle.pb_text_meaning.specs.Value.{Assignment, is_true}
use Rattle.pb_model_meaning.specs.Steps.{State}
use Rattle.pb_model_meaning.specs.Satisfaction.{States, Valuation, with_set, no_sets}
use Rattle.pb_protocol_meaning.specs.Syntax.{StepSet, Formula, Protocol}
use Rattle.pb_protocol_meaning.specs.Steps.{is_state, initial_state, successors}
use Rattle.pb_protocol_meaning.specs.Satisfaction.{is_truth, holds_at, satisfying, satisfies}
use Rattle.pb_protocol_unfolding.specs.Positive.{is_constant, HasPositiveCalls}
use Rattle.pb_protocol_negation.specs.Laws.{NeverBoth, NegationsArePositive}
use Rattle.pb_protocol_negation.specs.Negation.{negation}
use Rattle.pb_protocol_laws.specs.Fixpoints.{WithinProtocol}
use Rattle.pb_protocol_laws.specs.PositiveFormulas.{IsPositive}
use Rattle.pb_protocol_laws.specs.WiderProtocols.{in_ranges, IsSetKept, IsFormulaKept, WidensElements, HoldsInWiderRanges, FailsInAllWiderRanges}
use Rattle.pb_protocol_laws.proofs.Fixpoints.{fixpoints_are_extreme}
use Rattle.pb_protocol_laws.proofs.KeptMeanings.{d, e, quantified-kept, states-wider, begins-kept, value-kept, successors-kept}
use Rattle.pb_protocol_laws.proofs.MonotoneSets.{and-within, not-within, of_list-within, or-within, quantified-within}
use Rattle.pb_protocol_laws.proofs.PositiveCalls.{calls-suffice}

-- `true` is satisfied everywhere
truth-everywhere : (m : Protocol) (V : Valuation) (c : Assignment) (f : Formula) (s : State) → is_truth f ≡ true → satisfying m V c f s ≡ true
truth-everywhere m V c (Formula.Truth b) s e = e
truth-everywhere m V c f s e = absurd (true≢false (sym e))

-- a constant is as true outside the ranges as within
constant-kept : (m n : Protocol) (V W : Valuation) (c : Assignment) (f : Formula) → (is_constant f ≡ false → false ≡ true) → (s : State)
    → holds_at n f (satisfying n W c f) s ≡ true → holds_at m f (satisfying m V c f) s ≡ true
constant-kept m n V W c (Formula.Truth b) h s e = to (is_state m s) (from (is_state n s) e)
  where
    to : (i : Bool) → b ≡ true → (if i then b else b) ≡ true
    to true e = e
    to false e = e

    from : (i : Bool) → (if i then b else b) ≡ true → b ≡ true
    from true e = e
    from false e = e
constant-kept m n V W c f h s e = absurd (true≢false (sym (h refl)))

module _ (m : Protocol) (ranges : List Range) (f₀ : Formula) (wider : WidensElements (d m ranges) (e m ranges) m f₀) where
  abbrev n : Protocol
  n = in_ranges ranges m

  contained : (s : State) → is_state m s ≡ true → is_state n s ≡ true
  contained = states-wider m ranges wider.variables

  moves : (c : Assignment) (A : StepSet) → IsSetKept (d m ranges) (e m ranges) A → (s : State) → successors n c A s ≡ successors m c A s
  moves c A k s = successors-kept m ranges wider.variables wider.definitions wider.steps c A k s

  abbrev AreWithin : Valuation → Valuation → Type 0
  AreWithin V W = (X : Name) → WithinProtocol m (V X) (W X)

  one-within : (b : Bool) (S T U V : States) → WithinProtocol m S T → WithinProtocol m U V → WithinProtocol m (if b then S else U) (if b then T else V)
  one-within true S T U V h k = h
  one-within false S T U V h k = k

  sets-within : (V W : Valuation) → AreWithin V W → (X : Name) (S T : States) → WithinProtocol m S T → AreWithin (with_set V X S) (with_set W X T)
  sets-within V W h X S T ST Y = one-within (same_name X Y) S T (V Y) (W Y) ST (h Y)

  holds-wider : (f : Formula) (V W : Valuation) (c : Assignment) → WithinProtocol m (satisfying m V c f) (satisfying n W c f) → (s : State)
      → holds_at m f (satisfying m V c f) s ≡ true → holds_at n f (satisfying n W c f) s ≡ true
  holds-wider f V W c h s x = by (is_state m s) (is_state n s) refl refl x
    where
      by : (i j : Bool) → is_state m s ≡ i → is_state n s ≡ j → (if i then satisfying m V c f s else is_truth f) ≡ true → (if j then satisfying n W c f s else is_truth f) ≡ true
      by true true k l x = h s k x
      by true false k l x = absurd (true≢false (sym (contained s k) ∙ l))
      by false true k l x = truth-everywhere n W c f s x
      by false false k l x = x

  module _ (V W : Valuation) (c : Assignment) (X : Name) (f : Formula) (p : HasPositiveCalls true f)
      (step : (S T : States) → WithinProtocol m S T → WithinProtocol m (satisfying m (with_set V X S) c f) (satisfying n (with_set W X T) c f)) where
    positive : (sign : Sign) → IsPositive (Formula.Fixpoint sign X f)
    positive sign = calls-suffice true (Formula.Fixpoint sign X f) (refl, p)

    abbrev narrow : Sign → States
    narrow sign = satisfying m V c (Formula.Fixpoint sign X f)

    abbrev wide : Sign → States
    wide sign = satisfying n W c (Formula.Fixpoint sign X f)

    fixpoint-wider : (sign : Sign) → WithinProtocol m (narrow sign) (wide sign)
    fixpoint-wider Mu =
        let of_m = fixpoints_are_extreme m V c Mu X f (positive Mu) in
        let of_n = fixpoints_are_extreme n W c Mu X f (positive Mu) in
        of_m.least (wide Mu) (λ s k x. sym (of_n.fixpoint s (contained s k)) ∙ step (wide Mu) (wide Mu) (λ i l y. y) s k x)
    fixpoint-wider Nu =
        let of_m = fixpoints_are_extreme m V c Nu X f (positive Nu) in
        let of_n = fixpoints_are_extreme n W c Nu X f (positive Nu) in
        let S : States = λ s. is_state m s && narrow Nu s in
        let closed : WithinProtocol n S (satisfying n (with_set W X S) c f) = λ s k x.
        let parts = and_parts (is_state m s) (narrow Nu s) x in
        step (narrow Nu) S (λ i l y. and_from (is_state m i) (narrow Nu i) l y) s parts.0 (of_m.fixpoint s parts.0 ∙ parts.1) in
        λ s k x. of_n.greatest S closed s (contained s k) (and_from (is_state m s) (narrow Nu s) k x)

  -- where the negations around are even, m's set is within n's; else n's within m's
  abbrev InOrder : Bool → States → States → Type 0
  InOrder true S T = WithinProtocol m S T
  InOrder false S T = WithinProtocol m T S

  ordered : (even : Bool) (f : Formula) → HasPositiveCalls even f → IsFormulaKept (d m ranges) (e m ranges) f → (c : Assignment) (V W : Valuation) → AreWithin V W
      → InOrder even (satisfying m V c f) (satisfying n W c f)
  ordered true (Formula.Truth b) p t c V W h = λ s k x. x
  ordered false (Formula.Truth b) p t c V W h = λ s k x. x
  ordered true (Formula.Data y) p t c V W h = λ s k x. ap is_true (value-kept m ranges wider.variables wider.definitions s c y t) ∙ x
  ordered false (Formula.Data y) p t c V W h = λ s k x. sym (ap is_true (value-kept m ranges wider.variables wider.definitions s c y t)) ∙ x
  ordered true (Formula.Named X) p t c V W h = h X
  ordered false (Formula.Named X) p t c V W h = absurd (true≢false (sym p))
  ordered true (Formula.Not f) p t c V W h = not-within m (satisfying m V c f) (satisfying n W c f) (ordered false f p t c V W h)
  ordered false (Formula.Not f) p t c V W h = not-within m (satisfying n W c f) (satisfying m V c f) (ordered true f p t c V W h)
  ordered true (Formula.And f g) p t c V W h =
      and-within m (satisfying m V c f) (satisfying m V c g) (satisfying n W c f) (satisfying n W c g) (ordered true f p.0 t.0 c V W h) (ordered true g p.1 t.1 c V W h)
  ordered false (Formula.And f g) p t c V W h =
      and-within m (satisfying n W c f) (satisfying n W c g) (satisfying m V c f) (satisfying m V c g) (ordered false f p.0 t.0 c V W h) (ordered false g p.1 t.1 c V W h)
  ordered true (Formula.Or f g) p t c V W h =
      or-within m (satisfying m V c f) (satisfying m V c g) (satisfying n W c f) (satisfying n W c g) (ordered true f p.0 t.0 c V W h) (ordered true g p.1 t.1 c V W h)
  ordered false (Formula.Or f g) p t c V W h =
      or-within m (satisfying n W c f) (satisfying n W c g) (satisfying m V c f) (satisfying m V c g) (ordered false f p.0 t.0 c V W h) (ordered false g p.1 t.1 c V W h)
  ordered true (Formula.Implies f g) p t c V W h =
      or-within m (λ s. not (satisfying m V c f s)) (satisfying m V c g) (λ s. not (satisfying n W c f s)) (satisfying n W c g)
      (not-within m (satisfying m V c f) (satisfying n W c f) (ordered false f p.0 t.0 c V W h)) (ordered true g p.1 t.1 c V W h)
  ordered false (Formula.Implies f g) p t c V W h =
      or-within m (λ s. not (satisfying n W c f s)) (satisfying n W c g) (λ s. not (satisfying m V c f s)) (satisfying m V c g)
      (not-within m (satisfying n W c f) (satisfying m V c f) (ordered true f p.0 t.0 c V W h)) (ordered false g p.1 t.1 c V W h)
  ordered true (Formula.Box A f) p t c V W h =
      let wide = holds-wider f V W c (ordered true f p.1 t.1 c V W h) in
      λ s k x. ap (list_all (holds_at n f (satisfying n W c f))) (moves c A t.0 s) ∙ of_list-within Forall _ _ wide (successors m c A s) x
  ordered false (Formula.Box A f) p t c V W h =
      λ s k x. of_list-within Forall (holds_at n f (satisfying n W c f)) (holds_at m f (satisfying m V c f)) (constant-kept m n V W c f p.0) (successors m c A s)
      (sym (ap (list_all (holds_at n f (satisfying n W c f))) (moves c A t.0 s)) ∙ x)
  ordered true (Formula.Diamond A f) p t c V W h =
      let wide = holds-wider f V W c (ordered true f p.1 t.1 c V W h) in
      λ s k x. ap (list_any (holds_at n f (satisfying n W c f))) (moves c A t.0 s) ∙ of_list-within Exists _ _ wide (successors m c A s) x
  ordered false (Formula.Diamond A f) p t c V W h =
      λ s k x. of_list-within Exists (holds_at n f (satisfying n W c f)) (holds_at m f (satisfying m V c f)) (constant-kept m n V W c f p.0) (successors m c A s)
      (sym (ap (list_any (holds_at n f (satisfying n W c f))) (moves c A t.0 s)) ∙ x)
  ordered true (Formula.Fixpoint sign X f) p t c V W h =
      fixpoint-wider V W c X f p.1 (λ S T ST. ordered true f p.1 t c (with_set V X S) (with_set W X T) (sets-within V W h X S T ST)) sign
  ordered false (Formula.Fixpoint sign X f) p t c V W h = absurd (true≢false (sym p.0))
  ordered true (Formula.Quantified q xs f) p t c V W h =
      λ s k x. quantified-kept m ranges q xs (λ b. satisfying n W b f s) t.0 c
      ∙ quantified-within m q xs (λ b. satisfying m V b f s) (λ b. satisfying n W b f s) (λ b y. ordered true f p t.1 b V W h s k y) c x
  ordered false (Formula.Quantified q xs f) p t c V W h =
      λ s k x. quantified-within m q xs (λ b. satisfying n W b f s) (λ b. satisfying m V b f s) (λ b y. ordered false f p t.1 b V W h s k y) c
      (sym (quantified-kept m ranges q xs (λ b. satisfying n W b f s) t.0 c) ∙ x)

pub holds-in-wider-ranges : HoldsInWiderRanges
holds-in-wider-ranges m ranges f wider p x =
    let s = initial_state m in
    let n = in_ranges ranges m in
    let parts = and_parts (is_state m s) (satisfying m no_sets [] f s) x in
    let truth = ordered m ranges f wider true f p wider.formula [] no_sets no_sets (λ X i k y. y) s parts.0 parts.1 in
    ap (λ i. is_state n i && satisfying n no_sets [] f i) (begins-kept m ranges wider.variables wider.definitions wider.initial)
    ∙ and_from (is_state n s) (satisfying n no_sets [] f s) (states-wider m ranges wider.variables s parts.0) truth

negation-kept : (m : Protocol) (ranges : List Range) (f : Formula) → IsFormulaKept (d m ranges) (e m ranges) f → IsFormulaKept (d m ranges) (e m ranges) (negation f)
negation-kept m ranges (Formula.Truth b) t = tt
negation-kept m ranges (Formula.Data y) t = t
negation-kept m ranges (Formula.Named X) t = tt
negation-kept m ranges (Formula.Not f) t = negation-kept m ranges f t
negation-kept m ranges (Formula.And f g) t = (negation-kept m ranges f t.0, negation-kept m ranges g t.1)
negation-kept m ranges (Formula.Or f g) t = (negation-kept m ranges f t.0, negation-kept m ranges g t.1)
negation-kept m ranges (Formula.Implies f g) t = (negation-kept m ranges f t.0, negation-kept m ranges g t.1)
negation-kept m ranges (Formula.Box A f) t = (t.0, negation-kept m ranges f t.1)
negation-kept m ranges (Formula.Diamond A f) t = (t.0, negation-kept m ranges f t.1)
negation-kept m ranges (Formula.Fixpoint sign X f) t = negation-kept m ranges f t
negation-kept m ranges (Formula.Quantified q xs f) t = (t.0, negation-kept m ranges f t.1)

pub fails-in-all-wider-ranges : NeverBoth → NegationsArePositive → FailsInAllWiderRanges
fails-in-all-wider-ranges never positive m ranges f wider p x =
    let n = in_ranges ranges m in
    let other : WidensElements (d m ranges) (e m ranges) m (negation f) = record {
      variables = wider.variables;
      definitions = wider.definitions;
      steps = wider.steps;
      initial = wider.initial;
      formula = negation-kept m ranges f wider.formula;
    } in
    let fails = holds-in-wider-ranges m ranges (negation f) other (positive f p) x in
    (fails, false_from_ne_true (satisfies n f) (λ y. true≢false (sym fails ∙ never n f p y)))
