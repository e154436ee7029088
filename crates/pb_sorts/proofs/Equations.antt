-- The equations of a layout: what stands at a place of their carriers' lists, and how many instances end there.
use Rattle.std.proofs.Common.{◌≡◌, ℕ, suc, ◌+◌, ◌<◌, ◌≤◌, List, map, length, get_or, Some, Vec, refl, sym, ◌∙◌, ap, arith}
use Rattle.std.specs.List.{slice_get}
use Rattle.std.proofs.lemmas.Option.{slice_get_read, slice_get_within}
use Rattle.pb_base_values.specs.Carrier.{tuple_count}
use Rattle.pb_sorts.specs.declared.carrier.Carrier.{Carrier}
use Rattle.pb_sorts.specs.Carrier.{values_of}
use Rattle.pb_sorts.specs.Instance.{first_of, size_of, tuple_count_at}
use Rattle.pb_sorts.specs.Layout.{carriers_of, count_of, lists_of}
use Rattle.pb_sorts.proofs.Places.{slice_get-mapped, map_length}
use Rattle.pb_sorts.proofs.Numbers.{first_of-next, first_of-last, first_of-before}

-- the carriers of the equation at place k
pub slice_get-carriers_of : (equations : List (List Carrier)) (k : ℕ) (ps : List Carrier) → slice_get equations k ≡ Some ps → slice_get (carriers_of equations) k ≡ Some (map values_of ps)
slice_get-carriers_of equations k ps e = slice_get-mapped (λ (parameters : List Carrier). map values_of parameters) equations k ps e

pub size_of-at : (equations : List (List Carrier)) (k : ℕ) (ps : List Carrier) → slice_get equations k ≡ Some ps → size_of (carriers_of equations) k ≡ tuple_count (map values_of ps)
size_of-at equations k ps e = ap tuple_count_at (slice_get-carriers_of equations k ps e)

pub length-carriers_of : (equations : List (List Carrier)) → length (carriers_of equations) ≡ length equations
length-carriers_of equations = map_length (λ (parameters : List Carrier). map values_of parameters) equations

pub first_of-next_at : (equations : List (List Carrier)) (k : ℕ) (ps : List Carrier) → slice_get equations k ≡ Some ps
    → first_of (carriers_of equations) (k + 1) ≡ first_of (carriers_of equations) k + tuple_count (map values_of ps)
first_of-next_at equations k ps e =
    let next : suc k ≡ k + 1 = omega arith in
    ap (first_of (carriers_of equations)) (sym next)
    ∙ (first_of-next (carriers_of equations) k (omega (arith, slice_get_within equations k ps e, length-carriers_of equations))
    ∙ ap (λ (n : ℕ). first_of (carriers_of equations) k + n) (size_of-at equations k ps e))

-- no equation ends behind the last
pub ends_within : (equations : List (List Carrier)) (k : ℕ) (ps : List Carrier) → slice_get equations k ≡ Some ps
    → first_of (carriers_of equations) k + tuple_count (map values_of ps) ≤ count_of equations
ends_within equations k ps e =
    let css = carriers_of equations in
    let before : first_of css k + size_of css k ≤ first_of css (length css) =
    first_of-before css k (length css) (omega (arith, slice_get_within equations k ps e, length-carriers_of equations)) (omega arith) in
    omega (arith, before, first_of-last css, size_of-at equations k ps e)

-- ---- the equations as vectors

pub length-lists_of : {A : Type 0} (vs : List (Vec Carrier A)) → length (lists_of vs) ≡ length vs
length-lists_of {A} vs = map_length (λ (v : Vec Carrier A). v.items) vs

pub slice_get-lists_of : {A : Type 0} (vs : List (Vec Carrier A)) (k : ℕ) (v : Vec Carrier A) → k < length vs → v ≡ get_or vs k v → slice_get (lists_of vs) k ≡ Some v.items
slice_get-lists_of {A} vs k v below is = slice_get-mapped (λ (u : Vec Carrier A). u.items) vs k v (slice_get_read vs (length vs) k v refl below is)

-- the equation at place k, whose parameters are these: where it ends, and where the next one begins
pub record IsEquation {A : Type 0} (vs : List (Vec Carrier A)) (k : ℕ) (ps : List Carrier) : Type 0 where
  pub ends : first_of (carriers_of (lists_of vs)) k + tuple_count (map values_of ps) ≤ count_of (lists_of vs)
  pub next : first_of (carriers_of (lists_of vs)) (k + 1) ≡ first_of (carriers_of (lists_of vs)) k + tuple_count (map values_of ps)

pub equation_read : {A : Type 0} (vs : List (Vec Carrier A)) (k : ℕ) (v : Vec Carrier A) {ps : List Carrier} → k < length vs → v ≡ get_or vs k v → ps ≡ v.items → IsEquation vs k ps
equation_read {A} vs k v {ps} below is items =
    let at : slice_get (lists_of vs) k ≡ Some ps = slice_get-lists_of vs k v below is ∙ ap Some (sym items) in
    record { ends = ends_within (lists_of vs) k ps at; next = first_of-next_at (lists_of vs) k ps at }
