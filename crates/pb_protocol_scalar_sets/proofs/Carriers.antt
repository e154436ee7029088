-- Carriers as numbers from one on, and the sorts of a chain of aliases.
use Rattle.std.proofs.Common.{◌≡◌, ℕ, suc, ◌-◌, ◌≤◌, length, map, sym, ap, ◌∙◌, arith, ℤ, pos, ◌+ℤ◌, ◌<ℤ◌, ◌≤ℤ◌}
use Rattle.std.specs.Prelude.{codes}
use lib.Signed.{le_z, lt_z}
use Rattle.std.specs.Bool.{Decides}
use Rattle.std.proofs.lemmas.Int.{ints}
use Rattle.std.proofs.lemmas.List.{length-map}
use Rattle.std.proofs.lemmas.Bool.Decides.{same_from_decides}
use Rattle.pb_base_values.specs.Carrier.{Carrier, contains, numbers_from}
use Rattle.pb_sorts.proofs.Intervals.{contains-numbers_from}
use Rattle.pb_text_tree.specs.Form.{sort_declaration_form}
use Rattle.pb_text_meaning.specs.Syntax.{Name, same_name}
use Rattle.pb_text_meaning.specs.Erase.{erased_declaration}
use Rattle.pb_text_meaning.specs.Sorts as sorts
use Rattle.pb_protocol_tree.specs.declared.protocol.Protocol.{Protocol}
use Rattle.pb_protocol_scalar_sets.specs.declared.carrier.Link.{Link}
use Rattle.pb_protocol_scalar_sets.specs.Sorts.{spec_of, carrier_behind}

abbrev pub sort_count : Protocol → ℕ
sort_count m = length (spec_of m).sorts

pub sorts-many : (m : Protocol) → sort_count m ≡ length m.sorts.items
sorts-many m = length-map (map sort_declaration_form m.sorts.items) erased_declaration ∙ length-map m.sorts.items sort_declaration_form

-- one sort of a chain, where the sorts behind it have the values that are left
pub chain-link : (m : Protocol) (k : Link) (s : Name) (i : ℕ) → i ≤ sort_count m
    → ((target : Name → Carrier) → carrier_behind k target ≡ sorts.carrier_by (sorts.range_of (spec_of m).ranges s) (same_name s (codes "Bool")) (sorts.declared (spec_of m).sorts s) target)
    → carrier_behind k (sorts.carrier_within (sort_count m - i) (spec_of m)) ≡ sorts.carrier_within (suc (sort_count m) - i) (spec_of m) s
chain-link m k s i few says =
    let j = sort_count m - i in
    let next : suc (sort_count m) - i ≡ suc j = omega (arith, few) in
    says (sorts.carrier_within j (spec_of m)) ∙ sym (ap (λ (n : ℕ). sorts.carrier_within n (spec_of m) s) next)

-- ---- whether a number is among them, as the code compares it

-- where it isn't below them, it is where it is below their end
pub contains-not_below : (low : ℤ) (n : ℕ) (v a b : ℤ) → low ≤ℤ v → a ≡ v → b ≡ low +ℤ pos n → lt_z a b ≡ contains (numbers_from low n) v
contains-not_below low n v a b above a_is b_is =
    let test : Decides (lt_z a b) ((low ≤ℤ v) × (v <ℤ (low +ℤ pos n))) = (λ e. (above, grind (arith, ints, e, a_is, b_is)), λ p. grind (arith, ints, p.1, a_is, b_is)) in
    same_from_decides (lt_z a b) (contains (numbers_from low n) v) test (contains-numbers_from low n v)

-- below them it isn't
pub contains-below : (low : ℤ) (n : ℕ) (v a b : ℤ) → v <ℤ low → a ≡ low → b ≡ v → le_z a b ≡ contains (numbers_from low n) v
contains-below low n v a b below a_is b_is =
    let test : Decides (le_z a b) ((low ≤ℤ v) × (v <ℤ (low +ℤ pos n))) = (λ e. absurd (grind (arith, ints, e, a_is, b_is, below)), λ p. absurd (omega (arith, ints, p.0, below))) in
    same_from_decides (le_z a b) (contains (numbers_from low n) v) test (contains-numbers_from low n v)
