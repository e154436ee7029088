-- The sets of a protocol's fixpoints are the least and the greatest ones, where formulas are positive.
use Rattle.std.proofs.Common.{◌≡◌, ℕ, zero, suc, Bool, true, false, true≢false, ◌&&◌, if◌then◌else◌, [], refl, sym, ◌∙◌}
use Rattle.std.proofs.lemmas.Bool.{and_parts, and_from}
use Rattle.pb_base_values.specs.Carrier.{tuples}
use Rattle.pb_base_values.proofs.Tuples.{length-tuples, within_is_among}
use Rattle.pb_fixpoint.specs.declared.Sign.{Sign}
use Rattle.pb_fixpoint.specs.declared.Sign.TheVariants.{Mu, Nu}
use Rattle.pb_fixpoint.specs.Solution.{Equation, assign, iterate, empty, start, operator, value_of}
use Rattle.pb_fixpoint.specs.Fixpoint as fixpoint
use Rattle.pb_fixpoint.proofs.Solved.{value_of-solved}
use Rattle.pb_text_meaning.specs.Syntax.{Name}
use Rattle.pb_text_meaning.specs.Value.{Assignment}
use Rattle.pb_model_meaning.specs.Steps.{State}
use Rattle.pb_model_meaning.specs.Satisfaction.{States, Valuation, with_set}
use Rattle.pb_protocol_meaning.specs.Syntax.{Formula, Protocol}
use Rattle.pb_protocol_meaning.specs.Steps.{state_carriers, is_state}
use Rattle.pb_protocol_meaning.specs.Satisfaction.{state_count, satisfying}
use Rattle.pb_protocol_laws.specs.PositiveFormulas.{IsPositive}
use Rattle.pb_protocol_laws.specs.Fixpoints.{WithinProtocol, IsExtremeFixpoint, FixpointsAreExtreme}
use Rattle.pb_protocol_laws.proofs.MonotoneSets.{operator-within}

module _ (m : Protocol) (V : Valuation) (c : Assignment) (sign : Sign) (X : Name) (f : Formula) (p : IsPositive (Formula.Fixpoint sign X f)) where
  -- the operator of which a fixpoint is meant, and its set
  abbrev g : States → States
  g S = satisfying m (with_set V X S) c f

  abbrev T : States
  T = satisfying m V c (Formula.Fixpoint sign X f)

  larger : (S U : States) → WithinProtocol m S U → WithinProtocol m (g S) (g U)
  larger = operator-within m V c X f p.0 p.1

  -- an equation whose solution is that set
  abbrev equation : Equation State
  equation = record { sign = sign; owns = is_state m; size = state_count m; holds = λ s S. is_state m s && g S s }

  monotone : fixpoint.IsMonotone equation
  monotone = record {
    keeps = λ S U w s e.
        let parts = and_parts (is_state m s) (g S s) e in
        and_from (is_state m s) (g U s) parts.0 (larger S U (λ i k. w i) s parts.0 parts.1);
  }

  instances : fixpoint.AreInstances equation (tuples (state_carriers m))
  instances = record { all = within_is_among (state_carriers m); count = length-tuples (state_carriers m) }

  solved : fixpoint.IsSolved equation [] empty
  solved = value_of-solved equation [] monotone tt empty (tuples (state_carriers m)) instances

  -- the equation's operator is g, in both directions
  abbrev h : States → States
  h = operator equation [] empty

  owned : (S : States) → WithinProtocol m (assign empty equation S) S
  owned S s e x = by (is_state m s) e x
    where
      by : (b : Bool) → b ≡ true → (if b then S s else false) ≡ true → S s ≡ true
      by true e x = x
      by false e x = absurd (true≢false (sym e))

  owning : (S : States) → WithinProtocol m S (assign empty equation S)
  owning S s e x = by (is_state m s) e
    where
      by : (b : Bool) → b ≡ true → (if b then S s else false) ≡ true
      by true e = x
      by false e = absurd (true≢false (sym e))

  from-operator : (S U : States) → WithinProtocol m S U → WithinProtocol m (h S) (g U)
  from-operator S U SU s e x =
      larger (assign empty equation S) U (λ i k y. SU i k (owned S i k y)) s e (and_parts (is_state m s) (g (assign empty equation S) s) x).1

  to-operator : (S U : States) → WithinProtocol m S U → WithinProtocol m (g S) (h U)
  to-operator S U SU s e x =
      and_from (is_state m s) (g (assign empty equation U) s) e (larger S (assign empty equation U) (λ i k y. owning U i k (SU i k y)) s e x)

  iterate-from : (n : ℕ) → WithinProtocol m (iterate n h (start sign)) (iterate n g (start sign))
  iterate-from zero = λ s e x. x
  iterate-from (suc n) = from-operator _ _ (iterate-from n)

  iterate-to : (n : ℕ) → WithinProtocol m (iterate n g (start sign)) (iterate n h (start sign))
  iterate-to zero = λ s e x. x
  iterate-to (suc n) = to-operator _ _ (iterate-to n)

  abbrev U : States
  U = value_of equation [] empty

  value-from : WithinProtocol m U T
  value-from = iterate-from (state_count m)

  value-to : WithinProtocol m T U
  value-to = iterate-to (state_count m)

  same : (s : State) → is_state m s ≡ true → g T s ≡ T s
  same s e =
      by (g T s) (T s)
      (λ x. value-from s e (sym (solved.fixpoint.same s e) ∙ to-operator T U value-to s e x))
      (λ x. from-operator U T value-from s e (solved.fixpoint.same s e ∙ value-to s e x))
    where
      by : (b d : Bool) → (b ≡ true → d ≡ true) → (d ≡ true → b ≡ true) → b ≡ d
      by true d there back = sym (there refl)
      by false true there back = back refl
      by false false there back = refl

  below : fixpoint.IsLeast equation h U → (S : States) → WithinProtocol m (g S) S → WithinProtocol m T S
  below least S closed s e x = least.below S (λ i k y. closed i k (from-operator S S (λ j l z. z) i k y)) s e (value-to s e x)

  above : fixpoint.IsGreatest equation h U → (S : States) → WithinProtocol m S (g S) → WithinProtocol m S T
  above greatest S closed s e x = value-from s e (greatest.above S (λ i k y. to-operator S S (λ j l z. z) i k (closed i k y)) s e x)

by_sign : (m : Protocol) (V : Valuation) (c : Assignment) (sign : Sign) (X : Name) (f : Formula) (p : IsPositive (Formula.Fixpoint sign X f)) →
    IsExtremeFixpoint sign m (g m V c sign X f p) (T m V c sign X f p)
by_sign m V c Mu X f p = record { fixpoint = same m V c Mu X f p; least = below m V c Mu X f p (solved m V c Mu X f p).extreme }
by_sign m V c Nu X f p = record { fixpoint = same m V c Nu X f p; greatest = above m V c Nu X f p (solved m V c Nu X f p).extreme }

pub fixpoints_are_extreme : FixpointsAreExtreme
fixpoints_are_extreme m V c sign X f p = by_sign m V c sign X f p
