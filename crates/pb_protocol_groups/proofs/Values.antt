-- The values of ranges and structs.
use Rattle.std.proofs.Common.{◌≡◌, ℕ, zero, suc, List, length, map, refl, sym, ap, ◌∙◌, arith, ℤ, pos, negsuc, ◌+ℤ◌, ◌-ℤ◌, ◌<ℤ◌, ◌≤ℤ◌}
use Rattle.std.proofs.lemmas.Int.{ints}
use Rattle.std.proofs.lemmas.List.{length-map}
use Rattle.pb_base_values.specs.Carrier.{numbers_from, at_least_none, interval}
use Rattle.pb_sorts.proofs.Intervals.{length-numbers_from}
use Rattle.pb_text_tree.specs.declared.sort.Enumerator as declared_enumerator
use Rattle.pb_text_tree.specs.Form.{enumerator_form}
use Rattle.pb_text_meaning.specs.Erase.{erased_enumerator}
use Rattle.pb_protocol_packing.specs.Groups.{lowest}
use Rattle.pb_protocol_groups.specs.Names.{enumerators_said}

some : (low z : ℤ) → pos 0 <ℤ z → low ≡ lowest (numbers_from low (at_least_none z))
some low (pos zero) h = absurd (omega (arith, ints, h))
some low (pos (suc n)) h = refl
some low (negsuc n) h = absurd (omega (arith, ints, h))

none : (z : ℤ) → z ≤ℤ pos 0 → at_least_none z ≡ 0
none (pos zero) h = refl
none (pos (suc n)) h = absurd (omega (arith, ints, h))
none (negsuc n) h = refl

pub lowest-interval : (low high : ℤ) → low ≤ℤ high → low ≡ lowest (interval low high)
lowest-interval low high h = some low (high -ℤ low +ℤ pos 1) (omega (arith, ints, h))

pub lowest-none : (low high : ℤ) → high <ℤ low → pos 0 ≡ lowest (interval low high)
lowest-none low high h = sym (ap (λ (n : ℕ). lowest (numbers_from low n)) (none (high -ℤ low +ℤ pos 1) (omega (arith, ints, h))))

pub length-none : (low high : ℤ) → high <ℤ low → 0 ≡ length (interval low high)
length-none low high h = sym (ap (λ (n : ℕ). length (numbers_from low n)) (none (high -ℤ low +ℤ pos 1) (omega (arith, ints, h))))

pub lowest-places : (n : ℕ) → pos 0 ≡ lowest (numbers_from (pos 0) n)
lowest-places zero = refl
lowest-places (suc n) = refl

pub length-enumerators : (es : List declared_enumerator.Enumerator) → length es ≡ length (numbers_from (pos 0) (length (enumerators_said es)))
length-enumerators es = sym (length-numbers_from (pos 0) (length (enumerators_said es)) ∙ length-map (map enumerator_form es) erased_enumerator ∙ length-map es enumerator_form)
