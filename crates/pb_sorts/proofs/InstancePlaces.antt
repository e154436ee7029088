-- The instance at a place of the list of all instances: its equation, and where that equation's instances begin.
use Rattle.std.proofs.Common.{◌≡◌, ℕ, zero, suc, ◌+◌, List, [], ◌∷◌, map, length, take, Some, refl, sym, ◌∙◌, ap, arith, inl, inr, length-append}
use Rattle.std.specs.List.{slice_get}
use Rattle.std.proofs.lemmas.Option.{none-some, same_Some}
use Rattle.pb_base_values.specs.Carrier.{Carrier, Tuple, tuples, tuple_count}
use Rattle.pb_base_values.proofs.Tuples.{length-tuples}
use Rattle.pb_sorts.specs.Instance.{Instance, instances_from}
use Rattle.pb_sorts.proofs.Places.{slice_get-append_left, slice_get-append_right, append_cases, slice_get-mapped, IsImage, map_cases, map_length}

abbrev pub with_values : ℕ → Tuple → Instance
with_values n = λ vs. record { equation = n; values = vs }

-- one equation more in front
pub length-instances_from-cons : (m : ℕ) (cs : List Carrier) (css : List (List Carrier)) → length (instances_from m (cs ∷ css)) ≡ tuple_count cs + length (instances_from (suc m) css)
length-instances_from-cons m cs css =
    length-append (map (with_values m) (tuples cs)) (instances_from (suc m) css)
    ∙ omega (arith, map_length (with_values m) (tuples cs), length-tuples cs)

-- the place of an instance, from its tuple's place
pub slice_get-instances_from : (m : ℕ) (css : List (List Carrier)) (k r n : ℕ) (cs : List Carrier) (vs : Tuple)
    → slice_get css k ≡ Some cs → slice_get (tuples cs) r ≡ Some vs → n ≡ length (instances_from m (take k css)) + r
    → slice_get (instances_from m css) n ≡ Some (with_values (m + k) vs)
slice_get-instances_from m [] k r n cs vs at_k at_r e = absurd (none-some cs at_k)
slice_get-instances_from m (ds ∷ css) zero r n cs vs at_k at_r e =
    let same : ds ≡ cs = same_Some ds cs at_k in
    slice_get-append_left (map (with_values m) (tuples ds)) (instances_from (suc m) css) n (with_values (m + 0) vs)
    (ap (slice_get (map (with_values m) (tuples ds))) (omega (arith, e))
    ∙ (slice_get-mapped (with_values m) (tuples ds) r vs (ap (λ (c : List Carrier). slice_get (tuples c) r) same ∙ at_r)
    ∙ ap (λ (q : ℕ). Some (with_values q vs)) (omega arith)))
slice_get-instances_from m (ds ∷ css) (suc k) r n cs vs at_k at_r e =
    let count : length (instances_from m (ds ∷ take k css)) ≡ tuple_count ds + length (instances_from (suc m) (take k css)) = length-instances_from-cons m ds (take k css) in
    slice_get-append_right (map (with_values m) (tuples ds)) (instances_from (suc m) css) n (length (instances_from (suc m) (take k css)) + r)
    (omega (arith, e, count, map_length (with_values m) (tuples ds), length-tuples ds))
    ∙ (slice_get-instances_from (suc m) css k r (length (instances_from (suc m) (take k css)) + r) cs vs at_k at_r refl
    ∙ ap (λ (q : ℕ). Some (with_values q vs)) (omega arith))

-- an instance of the list is one of some equation's
pub record IsPlaced (m : ℕ) (css : List (List Carrier)) (n : ℕ) (i : Instance) : Type 0 where
  pub place : ℕ
  pub carriers : List Carrier
  pub tuple_place : ℕ
  pub equation : i.equation ≡ m + place
  pub carriers_at : slice_get css place ≡ Some carriers
  pub tuple_at : slice_get (tuples carriers) tuple_place ≡ Some i.values
  pub number : n ≡ length (instances_from m (take place css)) + tuple_place

pub placed : (m : ℕ) (css : List (List Carrier)) (n : ℕ) (i : Instance) → slice_get (instances_from m css) n ≡ Some i → IsPlaced m css n i
placed m [] n i e = absurd (none-some i e)
placed m (cs ∷ css) n i e =
    elim (append_cases (map (with_values m) (tuples cs)) (instances_from (suc m) css) n i e) [
      | inl h ↦
          (let image : IsImage (with_values m) (tuples cs) n i = map_cases (with_values m) (tuples cs) n i h in
          record {
            place = 0;
            carriers = cs;
            tuple_place = n;
            equation = ap (λ (j : Instance). j.equation) (sym image.image) ∙ omega arith;
            carriers_at = refl;
            tuple_at = image.at ∙ ap (λ (j : Instance). Some j.values) image.image;
            number = omega arith;
          })
      | inr h ↦
          (let deeper : IsPlaced (suc m) css h.place i = placed (suc m) css h.place i h.at in
          let count : length (instances_from m (cs ∷ take deeper.place css))
          ≡ tuple_count cs + length (instances_from (suc m) (take deeper.place css)) =
          length-instances_from-cons m cs (take deeper.place css) in
          record {
            place = suc deeper.place;
            carriers = deeper.carriers;
            tuple_place = deeper.tuple_place;
            equation = deeper.equation ∙ omega arith;
            carriers_at = deeper.carriers_at;
            tuple_at = deeper.tuple_at;
            number = omega (arith, h.after, deeper.number, count, map_length (with_values m) (tuples cs), length-tuples cs);
          })
    ]
