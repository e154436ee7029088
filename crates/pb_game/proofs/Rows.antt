-- Rows of a flat graph.
use Rattle.std.proofs.Common.{◌≡◌, ℕ, zero, suc, inl, inr, ◌+◌, ◌-◌, ◌<◌, ◌≤◌, List, length, get_or, arith, sym, subst}
use Rattle.std.proofs.lemmas.List.Edits.{length-between, get_or-between}
use Rattle.std.proofs.lemmas.Bool.{cases_eq, cases_lt}
use Rattle.pb_game.specs.Adjacency.{row}

pub row_length : (places items : List ℕ) (v : ℕ) → get_or places (v + 1) 0 ≤ length items →
    length (row places items v) ≡ get_or places (v + 1) 0 - get_or places v 0
row_length places items v h = length-between items _ _ h

-- the elements of a row are those of the list from the row's place on
pub row_at : (places items : List ℕ) (v k : ℕ) → get_or places (v + 1) 0 ≤ length items → k < length (row places items v) →
    get_or (row places items v) k 0 ≡ get_or items (get_or places v 0 + k) 0
row_at places items v k h l = get_or-between items _ _ k 0 (omega (arith, row_length places items v h))

-- rows of a closed list are closed
pub row_closed : (count : ℕ) (places items : List ℕ) → ((k : ℕ) → k < length items → get_or items k 0 < count) →
    (v : ℕ) → get_or places (v + 1) 0 ≤ length items →
    (k : ℕ) → k < length (row places items v) → get_or (row places items v) k 0 < count
row_closed count places items closed v h k l =
    let e = row_at places items v k h l in
    let e' = row_length places items v h in
    let at : get_or items (get_or places v 0 + k) 0 < count = closed _ (omega (arith, h, e')) in
    omega (arith, e, at)

-- places that don't fall
pub ordered_le : (places : List ℕ) (count : ℕ) → ((v : ℕ) → v < count → get_or places v 0 ≤ get_or places (v + 1) 0) →
    (i j : ℕ) → i ≤ j → j ≤ count → get_or places i 0 ≤ get_or places j 0
ordered_le places count ordered i zero h l = subst (λ (x : ℕ). get_or places x 0 ≤ get_or places 0 0) (let e : 0 ≡ i = omega arith in e) (omega arith)
ordered_le places count ordered i (suc j) h l = elim (cases_eq i (suc j)) [
  | inl e ↦ subst (λ (x : ℕ). get_or places x 0 ≤ get_or places (suc j) 0) (sym e) (omega arith)
  | inr ne ↦
      let e : j + 1 ≡ suc j = omega arith in
      let step : get_or places j 0 ≤ get_or places (suc j) 0 = subst (λ (x : ℕ). get_or places j 0 ≤ get_or places x 0) e (ordered j (omega arith)) in
      omega (arith, step, ordered_le places count ordered i j (omega arith) (omega arith))
]

-- the row of an item
pub record IsInRow (places : List ℕ) (count k v : ℕ) : Type 0 where
  pub vertex : v < count
  pub from : get_or places v 0 ≤ k
  pub below : k < get_or places (v + 1) 0

pub find_row : (places : List ℕ) (k count : ℕ) → get_or places 0 0 ≤ k → k < get_or places count 0 → (v : ℕ) × IsInRow places count k v
find_row places k zero h l = absurd (omega arith)
find_row places k (suc count) h l = elim (cases_lt k (get_or places count 0)) [
  | inl less ↦ let r = find_row places k count h less in
      (r.0, record { vertex = omega (arith, r.1.vertex); from = r.1.from; below = r.1.below })
  | inr more ↦
      let e : suc count ≡ count + 1 = omega arith in
      (count, record { vertex = omega arith; from = more; below = subst (λ (x : ℕ). k < get_or places x 0) e l })
]

pub row_order : (places : List ℕ) (count : ℕ) → ((v : ℕ) → v < count → get_or places v 0 ≤ get_or places (v + 1) 0) →
    (k l v w : ℕ) → IsInRow places count k v → IsInRow places count l w → k ≤ l → v ≤ w
row_order places count ordered k l v w a b h = elim (cases_lt w v) [
  | inl less ↦ absurd (omega (arith, ordered_le places count ordered (w + 1) v (omega arith) (omega (arith, a.vertex)), a.from, b.below, h))
  | inr more ↦ more
]

-- an item is in its row alone
pub row_unique : (places : List ℕ) (count : ℕ) → ((v : ℕ) → v < count → get_or places v 0 ≤ get_or places (v + 1) 0) →
    (k v w : ℕ) → IsInRow places count k v → IsInRow places count k w → v ≡ w
row_unique places count ordered k v w a b =
    omega (arith, row_order places count ordered k k v w a b (omega arith), row_order places count ordered k k w v b a (omega arith))
