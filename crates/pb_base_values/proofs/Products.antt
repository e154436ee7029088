-- Products of whole numbers: between the products of ends, and how they grow.
use Rattle.std.proofs.Common.{◌≡◌, ℕ, zero, suc, ◌∙◌, arith, ℤ, pos, ◌+ℤ◌, ◌-ℤ◌, ◌*ℤ◌, ◌≤ℤ◌}
use Rattle.std.specs.Prelude.{unsigned_abs}
use Rattle.std.specs.Int.{int_min, int_max}
use Rattle.std.proofs.lemmas.Int.{ints, clamps, by_lt_z}
use Rattle.std.proofs.Math.IntN.{suc_ℤ, suc_ℤ-*ℤ, *ℤ_comm, +ℤ_one}

-- z lies from the lesser of x and y to the greater
abbrev pub Between : ℤ → ℤ → ℤ → Type 0
Between x z y = (int_min x y ≤ℤ z) × (z ≤ℤ int_max x y)

pub between_rising : (x z y : ℤ) → x ≤ℤ z → z ≤ℤ y → Between x z y
between_rising x z y p q = (omega (arith, ints, clamps), omega (arith, ints, clamps))

pub between_falling : (x z y : ℤ) → y ≤ℤ z → z ≤ℤ x → Between x z y
between_falling x z y p q = (omega (arith, ints, clamps), omega (arith, ints, clamps))

apart : (l a : ℤ) → l ≤ℤ a → a ≡ l +ℤ pos (unsigned_abs (a -ℤ l))
apart l a h = omega (arith, ints)

next_of : (l : ℤ) (n : ℕ) → l +ℤ pos (suc n) ≡ suc_ℤ (l +ℤ pos n)
next_of l n = let e : l +ℤ pos (suc n) ≡ l +ℤ pos n +ℤ pos 1 = omega (arith, ints) in e ∙ +ℤ_one (l +ℤ pos n)

rises_by : (b l : ℤ) (n : ℕ) → pos 0 ≤ℤ b → (l *ℤ b) ≤ℤ ((l +ℤ pos n) *ℤ b)
rises_by b l zero h = let e : l +ℤ pos 0 ≡ l = omega (arith, ints) in rw e (omega (arith, ints))
rises_by b l (suc n) h = rw (next_of l n, suc_ℤ-*ℤ (l +ℤ pos n) b) (let i = rises_by b l n h in omega (arith, ints))

falls_by : (b l : ℤ) (n : ℕ) → b ≤ℤ pos 0 → ((l +ℤ pos n) *ℤ b) ≤ℤ (l *ℤ b)
falls_by b l zero h = let e : l +ℤ pos 0 ≡ l = omega (arith, ints) in rw e (omega (arith, ints))
falls_by b l (suc n) h = rw (next_of l n, suc_ℤ-*ℤ (l +ℤ pos n) b) (let i = falls_by b l n h in omega (arith, ints))

pub product_rises : (b x y : ℤ) → pos 0 ≤ℤ b → x ≤ℤ y → (x *ℤ b) ≤ℤ (y *ℤ b)
product_rises b x y h p = rw (apart x y p) (rises_by b x (unsigned_abs (y -ℤ x)) h)

product_falls : (b x y : ℤ) → b ≤ℤ pos 0 → x ≤ℤ y → (y *ℤ b) ≤ℤ (x *ℤ b)
product_falls b x y h p = rw (apart x y p) (falls_by b x (unsigned_abs (y -ℤ x)) h)

pub product-succ : (b x : ℤ) → (x +ℤ pos 1) *ℤ b ≡ x *ℤ b +ℤ b
product-succ b x = rw (+ℤ_one x, suc_ℤ-*ℤ x b) (omega (arith, ints))

pub product_between_left : (a b l h : ℤ) → l ≤ℤ a → a ≤ℤ h → Between (l *ℤ b) (a *ℤ b) (h *ℤ b)
product_between_left a b l h p q = by_lt_z {P = Between (l *ℤ b) (a *ℤ b) (h *ℤ b)} b (pos 0)
    (λ negative. between_falling (l *ℤ b) (a *ℤ b) (h *ℤ b) (product_falls b a h (omega (arith, ints)) q) (product_falls b l a (omega (arith, ints)) p))
    (λ rest. between_rising (l *ℤ b) (a *ℤ b) (h *ℤ b) (product_rises b l a rest p) (product_rises b a h rest q))

pub product_between_right : (x b m k : ℤ) → m ≤ℤ b → b ≤ℤ k → Between (x *ℤ m) (x *ℤ b) (x *ℤ k)
product_between_right x b m k p q = rw (*ℤ_comm x m, *ℤ_comm x b, *ℤ_comm x k) (product_between_left b x m k p q)
