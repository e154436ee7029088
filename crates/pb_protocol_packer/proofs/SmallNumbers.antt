-- The number of a whole number that is written.
use Rattle.std.proofs.Common.{◌≡◌, ℕ, ℤ, pos, ◌-ℤ◌, Bool, true, false, if◌then◌else◌, refl, ap, ◌∙◌, sym}
use Rattle.std.specs.Prelude.{Option, Some, None, nat_lt, ◌^◌}
use Rattle.std.specs.Option.{option_map}
use Rattle.pb_text_meaning.specs.Syntax.{Term}
use Rattle.pb_protocol_packing.specs.Numbers.{Boolean, Whole, number, constant_number, number_or, lowered, to_number}
use Rattle.pb_protocol_packer.specs.Written.{written_in, small_in}

constant-small : (low : ℤ) (x : Term) → constant_number Whole low x ≡ option_map (λ n. pos n -ℤ low) (small_in (written_in x))
constant-small low (Term.Number n) = by (nat_lt n (2 ^ 32))
  where
    by : (b : Bool) → (if b then Some (pos n -ℤ low) else None) ≡ option_map (λ m. pos m -ℤ low) (if b then Some n else None)
    by true = refl
    by false = refl
constant-small low (Term.Truth b) = refl
constant-small low (Term.Named x) = refl
constant-small low (Term.Not x) = refl
constant-small low (Term.Negative x) = refl
constant-small low (Term.Binary o x y) = refl
constant-small low (Term.Apply f xs) = refl
constant-small low (Term.Quantified q xs x) = refl

pub whole-small : (low : ℤ) (x : Term) (o : Option ℕ) → o ≡ small_in (written_in x) → to_number Whole low x ≡ number_or (option_map (λ n. pos n -ℤ low) o) (lowered x low)
whole-small low x o e =
    ap (λ (z : Option ℤ). number_or z (lowered x low)) (constant-small low x ∙ ap (option_map (λ n. pos n -ℤ low)) (sym e))

pub whole-some : (low : ℤ) (x : Term) (n : ℕ) → Some n ≡ small_in (written_in x) → to_number Whole low x ≡ number (pos n -ℤ low)
whole-some low x n e = whole-small low x (Some n) e

pub whole-none : (low : ℤ) (x : Term) → None ≡ small_in (written_in x) → to_number Whole low x ≡ lowered x low
whole-none low x e = whole-small low x None e

-- the number of a truth value, whatever the lowest value is
pub truth-from : (low : ℤ) (x : Term) → to_number Boolean (pos 0) x ≡ to_number Boolean low x
truth-from low (Term.Truth b) = refl
truth-from low (Term.Number n) = refl
truth-from low (Term.Named x) = refl
truth-from low (Term.Not x) = refl
truth-from low (Term.Negative x) = refl
truth-from low (Term.Binary o x y) = refl
truth-from low (Term.Apply f xs) = refl
truth-from low (Term.Quantified q xs x) = refl
