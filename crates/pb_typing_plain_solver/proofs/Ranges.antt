-- A list of truths that is another one within a range of numbers.
use Rattle.std.proofs.Common.{◌≡◌, ◌≢◌, ℕ, ◌+◌, ◌<◌, ◌≤◌, Bool, true, false, ◌&&◌, if◌then◌else◌, List, length, get_or, set, refl, sym, ◌∙◌, ap, subst, arith, get_or-set_other, get_or-set_same, inl, inr}
use Rattle.std.specs.Cmp.{both_ways}
use Rattle.std.specs.Prelude.{nat_le, nat_lt}
use Rattle.std.proofs.lemmas.Bool.{cond-false, cases_lt, false_from_ne_true, ltb-true, lt-ltb, leb-true, le-leb, and_parts, cond-true}

-- n is from `start` on and below `end`
abbrev pub is_between : ℕ → ℕ → ℕ → Bool
is_between start end n = nat_le start n && nat_lt n end

pub between_bounds : (start end n : ℕ) → is_between start end n ≡ true → (start ≤ n) × (n < end)
between_bounds start end n e = let p = and_parts (nat_le start n) (nat_lt n end) e in (leb-true start n p.0, ltb-true n end p.1)

pub between_yes : (start end n : ℕ) → start ≤ n → n < end → is_between start end n ≡ true
between_yes start end n le lt = ap (λ (b : Bool). b && nat_lt n end) (le-leb start n le) ∙ lt-ltb n end lt

pub between_none : (start n : ℕ) → is_between start start n ≡ false
between_none start n = false_from_ne_true (is_between start start n) (λ e. let p = between_bounds start start n e in omega (arith, p.0, p.1))

between_step : (start k n : ℕ) → n ≢ k → is_between start (k + 1) n ≡ is_between start k n
between_step start k n ne =
    both_ways (is_between start (k + 1) n) (is_between start k n)
    (λ e. let p = between_bounds start (k + 1) n e in between_yes start k n p.0 (omega (arith, p.1, ne)))
    (λ e. let p = between_bounds start k n e in between_yes start (k + 1) n p.0 (omega (arith, p.1)))

-- f from `start` on and below `end`, else the old truths
abbrev pub IsMixed : ℕ → ℕ → (ℕ → Bool) → List Bool → List Bool → Type 0
IsMixed start end f old new = (n : ℕ) → get_or new n false ≡ (if is_between start end n then f n else get_or old n false)

pub mixed_start : (start : ℕ) (f : ℕ → Bool) (old : List Bool) → IsMixed start start f old old
mixed_start start f old n = sym (cond-false (is_between start start n) (f n) (get_or old n false) (between_none start n))

-- one number more
mixed_step : (start k : ℕ) (f : ℕ → Bool) (old xs ys : List Bool) → start ≤ k → IsMixed start k f old xs
    → get_or ys k false ≡ f k → ((n : ℕ) → n ≢ k → get_or ys n false ≡ get_or xs n false) → IsMixed start (k + 1) f old ys
mixed_step start k f old xs ys le m here others n =
    elim (cases_lt n k) [
      | inl lt ↦ other (λ e. omega (arith, lt, e))
      | inr ge ↦ elim (cases_lt k n) [
        | inl lt ↦ other (λ e. omega (arith, lt, e))
        | inr le' ↦ same (omega (arith, ge, le'))
      ]
    ]
  where
    other : n ≢ k → get_or ys n false ≡ (if is_between start (k + 1) n then f n else get_or old n false)
    other ne = others n ne ∙ (m n ∙ ap (λ (b : Bool). if b then f n else get_or old n false) (sym (between_step start k n ne)))

    same : n ≡ k → get_or ys n false ≡ (if is_between start (k + 1) n then f n else get_or old n false)
    same e =
        ap (λ (j : ℕ). get_or ys j false) e ∙ (here ∙ (ap f (sym e)
        ∙ sym (cond-true (is_between start (k + 1) n) (f n) (get_or old n false) (between_yes start (k + 1) n (omega (arith, e, le)) (omega (arith, e))))))

-- a number that is written
pub mixed_set : (start k : ℕ) (f : ℕ → Bool) (old xs : List Bool) (v : Bool) → start ≤ k → k < length xs → v ≡ f k → IsMixed start k f old xs → IsMixed start (k + 1) f old (set xs k v)
mixed_set start k f old xs v le lt is m =
    mixed_step start k f old xs (set xs k v) le m (get_or-set_same xs k v false lt ∙ is) (λ n ne. get_or-set_other xs k n v false ne)

-- a number that stays as it is
pub mixed_keep : (start k : ℕ) (f : ℕ → Bool) (old xs : List Bool) → start ≤ k → get_or xs k false ≡ f k → IsMixed start k f old xs → IsMixed start (k + 1) f old xs
mixed_keep start k f old xs le is m = mixed_step start k f old xs xs le m is (λ n ne. refl)

-- a number that isn't reached yet
pub mixed_ahead : (start k : ℕ) (f : ℕ → Bool) (old xs : List Bool) → IsMixed start k f old xs → get_or xs k false ≡ get_or old k false
mixed_ahead start k f old xs m =
    m k ∙ cond-false (is_between start k k) (f k) (get_or old k false)
    (false_from_ne_true (is_between start k k) (λ e. let p = between_bounds start k k e in omega (arith, p.1)))

mixed_inside : (start end : ℕ) (f : ℕ → Bool) (old new : List Bool) (n : ℕ) → IsMixed start end f old new → is_between start end n ≡ true → get_or new n false ≡ f n
mixed_inside start end f old new n m e = m n ∙ cond-true (is_between start end n) (f n) (get_or old n false) e

mixed_outside : (start end : ℕ) (f : ℕ → Bool) (old new : List Bool) (n : ℕ) → IsMixed start end f old new → is_between start end n ≡ false → get_or new n false ≡ get_or old n false
mixed_outside start end f old new n m e = m n ∙ cond-false (is_between start end n) (f n) (get_or old n false) e

-- all numbers of a range are reached
pub record IsWritten (start end : ℕ) (f : ℕ → Bool) (old new : List Bool) : Type 0 where
  pub inside : (n : ℕ) → is_between start end n ≡ true → get_or new n false ≡ f n
  pub outside : (n : ℕ) → is_between start end n ≡ false → get_or new n false ≡ get_or old n false

pub written_all : (start k end : ℕ) (f : ℕ → Bool) (old new : List Bool) → k ≡ end → IsMixed start k f old new → IsWritten start end f old new
written_all start k end f old new last m =
    let all : IsMixed start end f old new = subst (λ (n : ℕ). IsMixed start n f old new) last m in
    record { inside = λ n. mixed_inside start end f old new n all; outside = λ n. mixed_outside start end f old new n all }

-- what holds within a range, and at the number behind it
pub between_grows : (start k : ℕ) (P : ℕ → Type 0) → ((n : ℕ) → is_between start k n ≡ true → P n) → P k → (n : ℕ) → is_between start (k + 1) n ≡ true → P n
between_grows start k P h here n e =
    elim (cases_lt n k) [
      | inl lt ↦ h n (between_yes start k n (between_bounds start (k + 1) n e).0 lt)
      | inr ge ↦ let same : k ≡ n = omega (arith, ge, (between_bounds start (k + 1) n e).1) in subst P same here
    ]
