-- To exchange two elements is a permutation that is its own inverse.
use Rattle.std.proofs.Common.{◌≡◌, Bool, true, false, true≢false, if◌then◌else◌, int_eq, refl, sym, ap, ◌∙◌}
use Rattle.std.proofs.lemmas.Bool.Decides.{Decides-int_eq}
use Rattle.pb_base_values.specs.Carrier.{Value, Carrier, contains}
use Rattle.pb_protocol_unfolding.proofs.WrittenLaws.{value-self}
use Rattle.pb_protocol_symmetry.specs.Permutation.{IsPermutation}
use Rattle.pb_protocol_scalar_sets.specs.Numbers.{exchanged}

by_truth : {P : Type 0} (b : Bool) → (b ≡ true → P) → (b ≡ false → P) → P
by_truth true h k = h refl
by_truth false h k = k refl

module _ (a b : Value) where
  first : exchanged a b a ≡ b
  first = ap (λ c. if c then b else (if int_eq a b then a else a)) (value-self a)

  second : exchanged a b b ≡ a
  second =
      by_truth (int_eq b a)
      (λ e. ap (λ c. if c then b else (if int_eq b b then a else b)) e ∙ (Decides-int_eq b a).0 e)
      (λ e. ap (λ c. if c then b else (if int_eq b b then a else b)) e ∙ ap (λ c. if c then a else b) (value-self b))

  other : (v : Value) → int_eq v a ≡ false → int_eq v b ≡ false → exchanged a b v ≡ v
  other v e f = ap (λ c. if c then b else (if int_eq v b then a else v)) e ∙ ap (λ c. if c then a else v) f

  twice : (v : Value) → exchanged a b (exchanged a b v) ≡ v
  twice v =
      by_truth (int_eq v a)
      (λ e. let is = (Decides-int_eq v a).0 e in ap (λ (u : Value). exchanged a b (exchanged a b u)) is ∙ (ap (exchanged a b) first ∙ (second ∙ sym is)))
      (λ e. by_truth (int_eq v b)
      (λ f. let is = (Decides-int_eq v b).0 f in ap (λ (u : Value). exchanged a b (exchanged a b u)) is ∙ (ap (exchanged a b) second ∙ (first ∙ sym is)))
      (λ f. ap (exchanged a b) (other v e f) ∙ other v e f))

  pub permutes : (M : Carrier) → contains M a ≡ true → contains M b ≡ true → IsPermutation M (exchanged a b) (exchanged a b)
  permutes M in-a in-b = record {
    there = twice;
    here = twice;
    fixes = λ v out. other v (apart v a in-a out) (apart v b in-b out);
  }
    where
      apart : (v u : Value) → contains M u ≡ true → contains M v ≡ false → int_eq v u ≡ false
      apart v u inside out =
          by_truth (int_eq v u)
          (λ e. absurd (true≢false (sym inside ∙ (ap (contains M) (sym ((Decides-int_eq v u).0 e)) ∙ out))))
          (λ e. e)
