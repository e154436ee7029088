-- The lines that come from a line.
use Rattle.std.proofs.Common.{◌≡◌, ℕ, ◌+◌, ◌<◌, ◌==◌, ◌||◌, Bool, true, false, List, length, get_or, inl, inr, refl, sym, ap, ◌∙◌, subst, arith}
use Rattle.std.proofs.Common.{take, if◌then◌else◌, nat_eq, unwrap_or}
use Rattle.std.specs.HashMap.{get, HashMap}
use Rattle.std.proofs.Math.ListN.{set}
use Rattle.std.proofs.lemmas.Bool.{cases_eq, cases_lt, eq-eqb, ne_eqb}
use Rattle.std.proofs.lemmas.List.{get_or-set_same, get_or-set_other}
use Rattle.std.proofs.lemmas.List.Folds.{list_any_more}
use Rattle.pb_game.specs.Adjacency.{row, is_among}
use Rattle.pb_evidence.specs.declared.Evidence.{Evidence}
use Rattle.pb_evidence.proofs.Finding.{IsAt, place_of, contains_at, contained}
use Rattle.pb_evidence_words.specs.Lines.{ArePlaces, HasLines}
use Rattle.std.specs.Prelude.{Contains}

abbrev pub numbers : Evidence → List ℕ
numbers e = e.instances.items

abbrev pub row_at : Evidence → ℕ → List ℕ
row_at e k = row e.places.items e.dependencies.items k

-- an instance that a line rests on has a line
pub child-is-at : (e : Evidence) → HasLines e → (k i : ℕ) → k < length (numbers e) → i < length (row_at e k)
    → IsAt (numbers e) (get_or (row_at e k) i 0)
child-is-at e have k i within less =
    let n = get_or (numbers e) k 0 in
    let m = get_or (row_at e k) i 0 in
    place_of (numbers e) m (contained (numbers e) m (have.closed n m
    (contains_at (numbers e) k within, subst (λ (xs : List ℕ). Contains xs m) (sym (have.each k within)) (contains_at (row_at e k) i less))))

-- two places of one instance are one
pub same-place : (e : Evidence) → HasLines e → (i j : ℕ) → i < length (numbers e) → j < length (numbers e)
    → get_or (numbers e) i 0 ≡ get_or (numbers e) j 0 → i ≡ j
same-place e have i j wi wj same = elim (cases_eq i j) [
  | inl is ↦ is
  | inr other ↦ elim (cases_lt i j) [
    | inl less ↦ absurd (have.once i j less wj same)
    | inr over ↦ absurd (have.once j i (omega (arith, other)) wi (sym same))
  ]
]

-- what a look-up finds
pub found-at : {S : Type 0} (numbers : List ℕ) (places : HashMap ℕ ℕ S) → ArePlaces numbers places → (n : ℕ) (at : IsAt numbers n)
    → unwrap_or (get nat_eq places n) 0 ≡ at.place
found-at numbers places are n at =
    ap (λ (m : ℕ). unwrap_or (get nat_eq places m) 0) (sym at.there) ∙ ap (λ o. unwrap_or o 0) (are at.place at.within)

-- one child more
pub child-taken : (e : Evidence) → HasLines e → (parents : List ℕ) (xs : List ℕ) (i line k p : ℕ) (old : ℕ) → i < length xs
    → p < length (numbers e) → length parents ≡ length (numbers e) → k < length (numbers e)
    → get_or (numbers e) p 0 ≡ get_or xs i 0
    → get_or parents k 0 ≡ (if is_among (take i xs) (get_or (numbers e) k 0) then line else old)
    → get_or (set parents p line) k 0 ≡ (if is_among (take (i + 1) xs) (get_or (numbers e) k 0) then line else old)
child-taken e have parents xs i line k p old less within sized here there before =
    elim (cases_eq k p) [
      | inl is ↦
          let same : (get_or xs i 0 == get_or (numbers e) k 0) ≡ true =
          eq-eqb _ _ (sym there ∙ ap (λ j. get_or (numbers e) j 0) (sym is)) in
          ap (λ j. get_or (set parents p line) j 0) is ∙ get_or-set_same parents p line 0 (omega (arith, sized))
          ∙ sym (ap (λ b. if b then line else old) (one-more ∙ last same))
      | inr other ↦
          let apart : (get_or xs i 0 == get_or (numbers e) k 0) ≡ false =
          ne_eqb _ _ (λ same. other (same-place e have k p here within (sym (there ∙ same)))) in
          get_or-set_other parents p k line 0 other ∙ before
          ∙ sym (ap (λ b. if b then line else old) (one-more ∙ last-not apart))
    ]
  where
    one-more : is_among (take (i + 1) xs) (get_or (numbers e) k 0)
        ≡ (is_among (take i xs) (get_or (numbers e) k 0) || (get_or xs i 0 == get_or (numbers e) k 0))
    one-more = list_any_more (λ y. y == get_or (numbers e) k 0) xs i 0 less

    or-true : (a b : Bool) → b ≡ true → (a || b) ≡ true
    or-true true b is = refl
    or-true false b is = is

    or-false : (a b : Bool) → b ≡ false → (a || b) ≡ a
    or-false true b is = refl
    or-false false b is = is

    last : (get_or xs i 0 == get_or (numbers e) k 0) ≡ true
        → (is_among (take i xs) (get_or (numbers e) k 0) || (get_or xs i 0 == get_or (numbers e) k 0)) ≡ true
    last is = or-true _ _ is

    last-not : (get_or xs i 0 == get_or (numbers e) k 0) ≡ false
        → (is_among (take i xs) (get_or (numbers e) k 0) || (get_or xs i 0 == get_or (numbers e) k 0))
        ≡ is_among (take i xs) (get_or (numbers e) k 0)
    last-not is = or-false _ _ is
