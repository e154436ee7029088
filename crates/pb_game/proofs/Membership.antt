-- Whether a number is in a list, as a test and by its place.
use Rattle.std.proofs.Common.{◌≡◌, ℕ, zero, suc, ◌<◌, true, false, List, [], ◌∷◌, length, get_or, arith, ◌∙◌, inl, inr}
use Rattle.std.specs.Prelude.{◌==◌, Contains}
use Rattle.std.proofs.lemmas.Bool.{cases_eq}
use Rattle.std.proofs.lemmas.Bool.Decides.{nat_tests}
use Rattle.std.proofs.lemmas.List.{get_or_default}
use Rattle.pb_game.specs.Adjacency.{is_among}

-- x stands at k
pub record IsAt (xs : List ℕ) (x k : ℕ) : Type 0 where
  pub within : k < length xs
  pub there : get_or xs k 0 ≡ x

pub among_at : (xs : List ℕ) (x k : ℕ) → IsAt xs x k → is_among xs x ≡ true
among_at [] x k h = absurd (omega (arith, h.within))
among_at (y ∷ ys) x zero h = let e : (y == x) ≡ true = grind (arith, nat_tests, h.there) in rw e
among_at (y ∷ ys) x (suc k) h =
    let rest : is_among ys x ≡ true = among_at ys x k (record { within = omega (arith, h.within); there = h.there }) in
    elim (cases_eq y x) [
      | inl e ↦ let e' : (y == x) ≡ true = grind (arith, nat_tests) in rw e'
      | inr ne ↦ let e' : (y == x) ≡ false = grind (arith, nat_tests) in rw (e', rest)
    ]

pub among_place : (xs : List ℕ) (x : ℕ) → is_among xs x ≡ true → (k : ℕ) × IsAt xs x k
among_place [] x h = let no : false ≡ true = h in absurd (cc no)
among_place (y ∷ ys) x h = elim (cases_eq y x) [
  | inl e ↦ (0, record { within = omega arith; there = e })
  | inr ne ↦
      let e' : (y == x) ≡ false = grind (arith, nat_tests) in
      let rest : is_among ys x ≡ true = rw e' at h in
      let r = among_place ys x rest in
      (suc r.0, record { within = omega (arith, r.1.within); there = r.1.there })
]

pub contains_at : (xs : List ℕ) (x k : ℕ) → IsAt xs x k → Contains xs x
contains_at xs x k h = (k, h.within, get_or_default xs k x 0 h.within ∙ h.there)

pub contains_place : (xs : List ℕ) (x : ℕ) → Contains xs x → (k : ℕ) × IsAt xs x k
contains_place xs x h = (h.0, record { within = h.1; there = get_or_default xs h.0 0 x h.1 ∙ h.2 })
