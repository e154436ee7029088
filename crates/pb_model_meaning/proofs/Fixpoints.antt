-- The sets of fixpoints are the least and the greatest ones, where formulas are positive.
use Rattle.std.proofs.Common.{◌≡◌, ℕ, zero, suc, Bool, true, false, true≢false, ◌&&◌, [], refl, sym, ◌∙◌, inl}
use Rattle.std.proofs.lemmas.Bool.{and_parts, and_from}
use Rattle.pb_base_values.specs.Carrier.{tuples}
use Rattle.pb_base_values.proofs.Tuples.{in_contains, in_tuples, length-tuples}
use Rattle.pb_fixpoint.specs.declared.Sign.{Sign}
use Rattle.pb_fixpoint.specs.declared.Sign.TheVariants.{Mu, Nu}
use Rattle.pb_fixpoint.specs.Solution.{Equation, assign, iterate, empty, start, operator, value_of}
use Rattle.pb_fixpoint.specs.Fixpoint as fixpoint
use Rattle.pb_fixpoint.proofs.Solved.{value_of-solved}
use Rattle.pb_text_meaning.specs.Syntax.{Name, same_name}
use Rattle.pb_model_meaning.specs.Syntax.{Formula, Model}
use Rattle.pb_model_meaning.specs.Steps.{State, state_carriers, is_state, state_count}
use Rattle.pb_model_meaning.specs.Satisfaction.{States, Valuation, with_set, satisfying}
use Rattle.pb_model_meaning.specs.Positive.{IsPositive}
use Rattle.pb_model_meaning.specs.Laws.{WithinModel, IsExtremeFixpoint, FixpointsAreExtreme}
use Rattle.pb_model_meaning.proofs.Same.{Agree, chosen, with_set-same, satisfying-same}
use Rattle.pb_model_meaning.proofs.Monotone.{inner, set-related, satisfying-within}

module _ (m : Model) (ρ : Valuation) (sign : Sign) (X : Name) (f : Formula) (p : IsPositive (Formula.Fixpoint sign X f)) where
  -- the operator of which a fixpoint is meant, and its set
  abbrev g : States → States
  g S = satisfying m (with_set ρ X S) f

  abbrev T : States
  T = satisfying m ρ (Formula.Fixpoint sign X f)

  -- an equation whose solution is that set
  abbrev equation : Equation State
  equation = record { sign = sign; owns = is_state m; size = state_count m; holds = λ s S. is_state m s && g S s }

  monotone : fixpoint.IsMonotone equation
  monotone = record {
    keeps = λ S U w s e.
        let parts = and_parts (is_state m s) (g S s) e in
        let larger : WithinModel m (g S) (g U) = satisfying-within m f p.1 (with_set ρ X S) (with_set ρ X U)
        (λ Y. set-related m (same_name X Y) f Y S U (ρ Y) (ρ Y) (inner m f X Y S U p.0 (λ i k. w i))
        (λ apart. inl ((λ i k x. x), (λ i k x. x)))) in
        and_from (is_state m s) (g U s) parts.0 (larger s parts.0 parts.1);
  }

  instances : fixpoint.AreInstances equation (tuples (state_carriers m))
  instances = record {
    all = λ s e. in_contains s (tuples (state_carriers m)) (in_tuples (state_carriers m) s e);
    count = length-tuples (state_carriers m);
  }

  solved : fixpoint.IsSolved equation [] empty
  solved = value_of-solved equation [] monotone tt empty (tuples (state_carriers m)) instances

  here : (b x y : Bool) → b ≡ true → x ≡ y → (b && x) ≡ y
  here true x y e h = h
  here false x y e h = absurd (true≢false (sym e))

  -- the equation's operator is g
  operator-same : (S U : States) → Agree m S U → Agree m (operator equation [] empty S) (g U)
  operator-same S U SU s e =
      here (is_state m s) (g (assign empty equation S) s) (g U s) e
      (satisfying-same m f (with_set ρ X (assign empty equation S)) (with_set ρ X U)
      (with_set-same m ρ ρ (λ Y i k. refl) X (assign empty equation S) U (λ i k. chosen (is_state m i) (S i) false k ∙ SU i k)) s e)

  iterate-same : (n : ℕ) → Agree m (iterate n (operator equation [] empty) (start sign)) (iterate n g (start sign))
  iterate-same zero s e = refl
  iterate-same (suc n) s e = operator-same _ _ (iterate-same n) s e

  value-same : Agree m (value_of equation [] empty) T
  value-same = iterate-same (state_count m)

  same : (s : State) → is_state m s ≡ true → g T s ≡ T s
  same s e = sym (operator-same _ _ value-same s e) ∙ (solved.fixpoint.same s e ∙ value-same s e)

  below : fixpoint.IsLeast equation (operator equation [] empty) (value_of equation [] empty) → (S : States) → WithinModel m (g S) S → WithinModel m T S
  below least S closed s e x =
      least.below S (λ i k y. closed i k (sym (operator-same S S (λ j l. refl) i k) ∙ y)) s e (value-same s e ∙ x)

  above : fixpoint.IsGreatest equation (operator equation [] empty) (value_of equation [] empty) → (S : States) → WithinModel m S (g S) → WithinModel m S T
  above greatest S closed s e x =
      sym (value-same s e) ∙ greatest.above S (λ i k y. operator-same S S (λ j l. refl) i k ∙ closed i k y) s e x

by_sign : (m : Model) (ρ : Valuation) (sign : Sign) (X : Name) (f : Formula) (p : IsPositive (Formula.Fixpoint sign X f)) →
    IsExtremeFixpoint sign m (g m ρ sign X f p) (T m ρ sign X f p)
by_sign m ρ Mu X f p = record { fixpoint = same m ρ Mu X f p; least = below m ρ Mu X f p (solved m ρ Mu X f p).extreme }
by_sign m ρ Nu X f p = record { fixpoint = same m ρ Nu X f p; greatest = above m ρ Nu X f p (solved m ρ Nu X f p).extreme }

pub fixpoints_are_extreme : FixpointsAreExtreme
fixpoints_are_extreme m ρ sign X f p = by_sign m ρ sign X f p
