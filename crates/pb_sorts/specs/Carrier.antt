-- Which values a carrier has, as the list of its values (Groote and Willemse 2005, section 2: data
-- domains).
use Rattle.std.specs.Prelude.{◌≡◌, ℤ, pos, negsuc, ◌≤ℤ◌, true, false, [], ◌∷◌}
use Rattle.pb_base_values.specs.Carrier as carriers
use Rattle.pb_base_values.specs.Carrier.{of_bool, numbers_from, interval}
use Rattle.pb_sorts.specs.declared.carrier.Carrier.{Carrier}
use Rattle.pb_sorts.specs.declared.carrier.Carrier.TheVariants.{Bool, Enum, Range}

-- false and true; an enumeration's places; the numbers of a range
abbrev pub values_of : Carrier → carriers.Carrier
values_of Bool = of_bool false ∷ of_bool true ∷ []
values_of (Enum e) = numbers_from (pos 0) e.count
values_of (Range r) = interval r.low r.high

-- the carrier of a range with these bounds
abbrev pub IsRange : Carrier → ℤ → ℤ → Type 0
IsRange Bool low high = ⊥
IsRange (Enum e) low high = ⊥
IsRange (Range r) low high = (r.low ≡ low) × (r.high ≡ high)

-- L01: bounds of a range: at least one number, and both within 32 bits
abbrev pub FitsRange : ℤ → ℤ → Type 0
FitsRange low high = (negsuc 2147483647 ≤ℤ low) × (low ≤ℤ high) × (high ≤ℤ pos 2147483647)
