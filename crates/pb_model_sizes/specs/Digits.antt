-- Whole numbers in decimal, however large.
use Rattle.std.specs.Prelude.{ℕ, ◌+◌, ◌*◌, ◌==◌, ◌≡◌, if◌then◌else◌, List, [], ◌∷◌, codes, decimal}
use Rattle.std.specs.Prelude.{flat_map, reverse}
use Rattle.std.specs.Int.Digits.{digits_of}

-- what is written for a number: its digits, the greatest first
abbrev pub numeral : ℕ → List ℕ
numeral n = if n == 0 then codes "0" else flat_map decimal (digits_of 10 n)

-- ---- as the program holds them

-- the digits of a number, the least first; 0 has none
abbrev pub low_digits : ℕ → List ℕ
low_digits n = reverse (digits_of 10 n)

-- the number that has these digits, the least first
abbrev pub number_of_digits : List ℕ → ℕ
number_of_digits [] = 0
number_of_digits (d ∷ ds) = d + 10 * number_of_digits ds

-- these are the digits of a number
abbrev pub AreDigits : List ℕ → Type 0
AreDigits ds = ds ≡ low_digits (number_of_digits ds)
