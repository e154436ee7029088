-- No protocol satisfies both a property and its negation: where the negations around are even, no state satisfies both; where they are odd, each state satisfies one.
use Rattle.std.proofs.Common.{◌≡◌, ℕ, zero, suc, Bool, true, false, true≢false, not, ◌&&◌, if◌then◌else◌, [], refl, sym, ap, ◌∙◌}
use Rattle.std.proofs.lemmas.Bool.{and_parts}
use Rattle.pb_fixpoint.specs.declared.Sign.{Sign}
use Rattle.pb_fixpoint.specs.declared.Sign.TheVariants.{Mu, Nu}
use Rattle.pb_fixpoint.specs.Solution.{iterate, start}
use Rattle.pb_text_meaning.specs.Syntax.{Name, same_name}
use Rattle.pb_text_meaning.specs.Value.{Assignment}
use Rattle.pb_model_meaning.specs.Steps.{State}
use Rattle.pb_model_meaning.specs.Satisfaction.{States, Valuation, with_set, no_sets}
use Rattle.pb_protocol_meaning.specs.Syntax.{Formula, Protocol}
use Rattle.pb_protocol_meaning.specs.Steps.{data_of, is_state, initial_state, successors}
use Rattle.pb_protocol_meaning.specs.Satisfaction.{state_count, holds_at, satisfying}
use Rattle.pb_protocol_unfolding.specs.Positive.{is_constant, HasPositiveCalls}
use Rattle.pb_protocol_negation.specs.Dual.{dual_sign}
use Rattle.pb_protocol_negation.specs.Negation.{negation}
use Rattle.pb_protocol_negation.specs.Laws.{NeverBoth, NegationsArePositive}
use Rattle.pb_protocol_negation.proofs.Opposed.{Opposed, at-true, opposed-not, opposed-and, opposed-or, opposed-choice, opposed-all, opposed-any, opposed-quantified}

-- no state is in both sets
abbrev AreOpposed : States → States → Type 0
AreOpposed S T = (s : State) → Opposed true (S s) (T s)

abbrev AreOpposedSets : Valuation → Valuation → Type 0
AreOpposedSets V U = (X : Name) → AreOpposed (V X) (U X)

set-opposed : (b : Bool) (S T A B : States) → AreOpposed S T → AreOpposed A B → AreOpposed (if b then S else A) (if b then T else B)
set-opposed true S T A B h k = h
set-opposed false S T A B h k = k

with_set-opposed : (V U : Valuation) → AreOpposedSets V U → (X : Name) (S T : States) → AreOpposed S T → AreOpposedSets (with_set V X S) (with_set U X T)
with_set-opposed V U h X S T ST Y = set-opposed (same_name X Y) S T (V Y) (U Y) ST (h Y)

start-opposed : (sign : Sign) → AreOpposed (start sign) (start (dual_sign sign))
start-opposed Mu s e = absurd (true≢false (sym e))
start-opposed Nu s e = refl

iterates-opposed : (g h : States → States) → ((S T : States) → AreOpposed S T → AreOpposed (g S) (h T)) → (sign : Sign) (n : ℕ) →
    AreOpposed (iterate n g (start sign)) (iterate n h (start (dual_sign sign)))
iterates-opposed g h step sign zero = start-opposed sign
iterates-opposed g h step sign (suc n) = step (iterate n g (start sign)) (iterate n h (start (dual_sign sign))) (iterates-opposed g h step sign n)

-- outside the ranges neither holds but of a constant
holds-opposed : (m : Protocol) (even : Bool) (f : Formula) → (is_constant f ≡ false → even ≡ true) → (V U : Valuation) (c : Assignment) →
    AreOpposed (satisfying m V c f) (satisfying m U c (negation f)) → (t : State) →
    Opposed even (holds_at m f (satisfying m V c f) t) (holds_at m (negation f) (satisfying m U c (negation f)) t)
holds-opposed m even (Formula.Truth b) p V U c inner t = opposed-choice even (is_state m t) b b (not b) (not b) (ap not) (ap not)
holds-opposed m even f p V U c inner t =
    at-true even (holds_at m f (satisfying m V c f) t) (holds_at m (negation f) (satisfying m U c (negation f)) t) (p refl)
    (opposed-choice true (is_state m t) (satisfying m V c f t) false (satisfying m U c (negation f) t) false (inner t) (λ e. absurd (true≢false (sym e))))

module _ (m : Protocol) where
  pub opposed : (f : Formula) (even : Bool) → HasPositiveCalls even f → (V U : Valuation) → AreOpposedSets V U → (c : Assignment) (s : State) →
      Opposed even (satisfying m V c f s) (satisfying m U c (negation f) s)
  opposed (Formula.Truth b) even p V U h c s = ap not
  opposed (Formula.Data x) even p V U h c s = ap not
  opposed (Formula.Named X) even p V U h c s = at-true even (V X s) (U X s) p (h X s)
  opposed (Formula.Not f) even p V U h c s = opposed-not even (satisfying m V c f s) (satisfying m U c (negation f) s) (opposed f (not even) p V U h c s)
  opposed (Formula.And f g) even p V U h c s =
      opposed-and even (satisfying m V c f s) (satisfying m V c g s) (satisfying m U c (negation f) s) (satisfying m U c (negation g) s)
      (opposed f even p.0 V U h c s) (opposed g even p.1 V U h c s)
  opposed (Formula.Or f g) even p V U h c s =
      opposed-or even (satisfying m V c f s) (satisfying m V c g s) (satisfying m U c (negation f) s) (satisfying m U c (negation g) s)
      (opposed f even p.0 V U h c s) (opposed g even p.1 V U h c s)
  opposed (Formula.Implies f g) even p V U h c s =
      opposed-or even (not (satisfying m V c f s)) (satisfying m V c g s) (not (satisfying m U c (negation f) s)) (satisfying m U c (negation g) s)
      (opposed-not even (satisfying m V c f s) (satisfying m U c (negation f) s) (opposed f (not even) p.0 V U h c s)) (opposed g even p.1 V U h c s)
  opposed (Formula.Box A f) even p V U h c s =
      opposed-all even (holds_at m f (satisfying m V c f)) (holds_at m (negation f) (satisfying m U c (negation f)))
      (holds-opposed m even f p.0 V U c (opposed f true p.1 V U h c)) (successors m c A s)
  opposed (Formula.Diamond A f) even p V U h c s =
      opposed-any even (holds_at m f (satisfying m V c f)) (holds_at m (negation f) (satisfying m U c (negation f)))
      (holds-opposed m even f p.0 V U c (opposed f true p.1 V U h c)) (successors m c A s)
  opposed (Formula.Fixpoint sign X f) even p V U h c s =
      at-true even (satisfying m V c (Formula.Fixpoint sign X f) s) (satisfying m U c (negation (Formula.Fixpoint sign X f)) s) p.0
      (iterates-opposed (λ S. satisfying m (with_set V X S) c f) (λ T. satisfying m (with_set U X T) c (negation f))
      (λ S T ST. opposed f true p.1 (with_set V X S) (with_set U X T) (with_set-opposed V U h X S T ST) c) sign (state_count m) s)
  opposed (Formula.Quantified q xs f) even p V U h c s =
      opposed-quantified even (data_of m) q xs (λ d. satisfying m V d f s) (λ d. satisfying m U d (negation f) s) (λ d. opposed f even p V U h d s) c

pub never_both : NeverBoth
never_both m f p e =
    let s = initial_state m in
    let parts = and_parts (is_state m s) (satisfying m no_sets [] f s) e in
    ap (λ b. b && satisfying m no_sets [] (negation f) s) parts.0
    ∙ opposed m f true p no_sets no_sets (λ X i k. refl) [] s parts.1

-- ---- the negation is as positive

constant-kept : (f : Formula) → is_constant (negation f) ≡ is_constant f
constant-kept (Formula.Truth b) = refl
constant-kept (Formula.Data x) = refl
constant-kept (Formula.Named X) = refl
constant-kept (Formula.Not f) = refl
constant-kept (Formula.And f g) = refl
constant-kept (Formula.Or f g) = refl
constant-kept (Formula.Implies f g) = refl
constant-kept (Formula.Box A f) = refl
constant-kept (Formula.Diamond A f) = refl
constant-kept (Formula.Fixpoint sign X f) = refl
constant-kept (Formula.Quantified q xs f) = refl

negation-positive : (f : Formula) (even : Bool) → HasPositiveCalls even f → HasPositiveCalls even (negation f)
negation-positive (Formula.Truth b) even p = tt
negation-positive (Formula.Data x) even p = tt
negation-positive (Formula.Named X) even p = p
negation-positive (Formula.Not f) even p = negation-positive f (not even) p
negation-positive (Formula.And f g) even p = (negation-positive f even p.0, negation-positive g even p.1)
negation-positive (Formula.Or f g) even p = (negation-positive f even p.0, negation-positive g even p.1)
negation-positive (Formula.Implies f g) even p = (negation-positive f (not even) p.0, negation-positive g even p.1)
negation-positive (Formula.Box A f) even p = ((λ e. p.0 (sym (constant-kept f) ∙ e)), negation-positive f true p.1)
negation-positive (Formula.Diamond A f) even p = ((λ e. p.0 (sym (constant-kept f) ∙ e)), negation-positive f true p.1)
negation-positive (Formula.Fixpoint sign X f) even p = (p.0, negation-positive f true p.1)
negation-positive (Formula.Quantified q xs f) even p = negation-positive f even p

pub negations_are_positive : NegationsArePositive
negations_are_positive f p = negation-positive f true p
