-- Instances of equations that all have the same carriers: a number's quotient by how many tuples there
-- are is the equation's place, and its rest the tuple's.
use Rattle.std.proofs.Common.{◌≡◌, ℕ, zero, suc, ◌+◌, ◌*◌, ◌/◌, ◌%◌, ◌<◌, ◌≤◌, true, List, [], ◌∷◌, length, take, Option, Some, sym, ap, ◌∙◌, subst, arith}
use Rattle.std.specs.List.{slice_get}
use Rattle.std.proofs.lemmas.Nat.{div-mul-add, mod-mul-add}
use Rattle.std.proofs.lemmas.Option.{none-some, same_Some, slice_get_within}
use Rattle.pb_base_values.specs.Carrier.{Carrier, Tuple, is_within, tuple_count, tuples}
use Rattle.pb_base_values.proofs.Tuples.{length-tuples}
use Rattle.pb_sorts.specs.Instance.{Instance, instances, instances_from, first_of, mixed_radix, mixed_radix_of, number_of}
use Rattle.pb_sorts.proofs.InstancePlaces.{IsPlaced, length-instances_from-cons, placed}
use Rattle.pb_sorts.proofs.TuplePlaces.{is_within-slice_get}

-- each equation has these carriers
abbrev pub AreAll : List Carrier → List (List Carrier) → Type 0
AreAll cs [] = Unit {0}
AreAll cs (ds ∷ css) = (ds ≡ cs) × AreAll cs css

module _ (cs : List Carrier) where
  all-at : (css : List (List Carrier)) → AreAll cs css → (k : ℕ) (ds : List Carrier) → slice_get css k ≡ Some ds → ds ≡ cs
  all-at [] all k ds e = absurd (none-some ds e)
  all-at (es ∷ css) all zero ds e = sym (same_Some es ds e) ∙ all.0
  all-at (es ∷ css) all (suc k) ds e = all-at css all.1 k ds e

  count-before : (m : ℕ) (css : List (List Carrier)) → AreAll cs css → (k : ℕ) → k ≤ length css → length (instances_from m (take k css)) ≡ k * tuple_count cs
  count-before m css all zero within = omega arith
  count-before m [] all (suc k) within = absurd (omega (arith, within))
  count-before m (ds ∷ css) all (suc k) within =
      length-instances_from-cons m ds (take k css)
      ∙ (ap (λ (es : List Carrier). tuple_count es + length (instances_from (suc m) (take k css))) all.0
      ∙ (ap (λ n. tuple_count cs + n) (count-before (suc m) css all.1 k (omega (arith, within))) ∙ omega arith))

  -- the instance of a number
  pub record IsAtNumber (css : List (List Carrier)) (n : ℕ) (i : Instance) : Type 0 where
    pub some : 0 < tuple_count cs
    pub equation : i.equation ≡ n / tuple_count cs
    pub carriers : slice_get css i.equation ≡ Some cs
    pub values : slice_get (tuples cs) (n % tuple_count cs) ≡ Some i.values
    pub within : is_within cs i.values ≡ true
    -- and the number of one of the same equation
    pub number : (vs : Tuple) → number_of css (record { equation = i.equation; values = vs }) ≡ n / tuple_count cs * tuple_count cs + mixed_radix cs vs

  pub at-number : (css : List (List Carrier)) → AreAll cs css → (n : ℕ) (i : Instance) → slice_get (instances css) n ≡ Some i → IsAtNumber css n i
  at-number css all n i at =
      let p : IsPlaced 0 css n i = placed 0 css n i at in
      let same : p.carriers ≡ cs = all-at css all p.place p.carriers p.carriers_at in
      let tuple : slice_get (tuples cs) p.tuple_place ≡ Some i.values = subst (λ (ds : List Carrier). slice_get (tuples ds) p.tuple_place ≡ Some i.values) same p.tuple_at in
      let T = tuple_count cs in
      let below : p.tuple_place < T = omega (arith, length-tuples cs, slice_get_within (tuples cs) p.tuple_place i.values tuple) in
      let inside : p.place < length css = slice_get_within css p.place p.carriers p.carriers_at in
      let before : first_of css p.place ≡ p.place * T = count-before 0 css all p.place (omega (arith, inside)) in
      let number : n ≡ p.place * T + p.tuple_place = p.number ∙ ap (λ k. k + p.tuple_place) before in
      let quotient : n / T ≡ p.place = ap (λ k. k / T) number ∙ div-mul-add p.place T p.tuple_place below in
      let rest : n % T ≡ p.tuple_place = ap (λ k. k % T) number ∙ mod-mul-add p.place T p.tuple_place below in
      let here : i.equation ≡ p.place = p.equation ∙ omega arith in
      record {
        some = omega (arith, below);
        equation = here ∙ sym quotient;
        carriers = ap (slice_get css) here ∙ (p.carriers_at ∙ ap Some same);
        values = ap (slice_get (tuples cs)) rest ∙ tuple;
        within = is_within-slice_get cs p.tuple_place i.values tuple;
        number = λ vs.
            ap (λ k. first_of css k + mixed_radix_of (slice_get css k) vs) here
            ∙ (ap (λ (o : Option (List Carrier)). first_of css p.place + mixed_radix_of o vs) p.carriers_at
            ∙ (ap (λ (ds : List Carrier). first_of css p.place + mixed_radix ds vs) same
            ∙ (ap (λ k. k + mixed_radix cs vs) before ∙ ap (λ k. k * T + mixed_radix cs vs) (sym quotient))));
      }
