-- The groups of a model that may be packed have few values.
use Rattle.std.proofs.Common.{◌≡◌, ℕ, ◌≤◌, ◌^◌, Bool, true, false, ◌&&◌, List, [], ◌∷◌, refl, arith}
use Rattle.std.specs.Prelude.{nat_le, nat_lt}
use Rattle.std.specs.List.{list_all}
use Rattle.std.proofs.lemmas.Bool.{and_parts}
use Rattle.std.proofs.lemmas.Bool.Decides.{nat_tests}
use Rattle.pb_protocol_packing.specs.declared.limits.TheConstants.{MAX_GROUP_VALUES}
use Rattle.pb_text_tree.specs.declared.place.Place.{Place}
use Rattle.pb_text_printer.specs.Sayable.{Each}
use Rattle.pb_typing_declarations.specs.declared.fault.TypingRule.TheVariants.{Limit}
use Rattle.pb_typing_declarations.specs.Faults.{unless}
use Rattle.pb_model_tree.specs.Form.{ModelForm}
use Rattle.pb_model_meaning.specs.Erase.{erase}
use Rattle.pb_protocol_packing.specs.Packing.{Group, Alone, Joined, capacity}
use Rattle.pb_protocol_packing.specs.Groups.{groups_of}
use Rattle.pb_protocol_packing.specs.Sizes.{is_few, has_few}
use Rattle.pb_protocol_groups.specs.Sizes.{size_faults}
use Rattle.pb_protocol_laws.specs.FewValues.{HasFewValues}

within-range : (n : ℕ) → is_few n ≡ true → (1 ≤ n) × (n ≤ 2 ^ 31)
within-range n h =
    let both = and_parts (nat_lt 0 n) (nat_le n MAX_GROUP_VALUES) h in
    let low : nat_lt 0 n ≡ true = both.0 in
    let high : nat_le n 2147483647 ≡ true = both.1 in
    let some : 1 ≤ n = grind (arith, nat_tests) in
    let small : n ≤ 2147483647 = grind (arith, nat_tests) in
    (some, (let below : n ≤ 2 ^ 31 = omega arith in below))

each-few : (gs : List Group) → list_all has_few gs ≡ true → Each HasFewValues gs
each-few [] h = tt
each-few (Alone x ∷ gs) h = (tt, each-few gs h)
each-few (Joined x ps ∷ gs) h =
    let both = and_parts (is_few (capacity ps)) (list_all has_few gs) h in (within-range (capacity ps) both.0, each-few gs both.1)

-- the test holds where no fault is told
no-fault : (b : Bool) (p : Place) → unless b Limit p ≡ [] → b ≡ true
no-fault true p h = refl
no-fault false p h = cc

pub groups-few : (m : ModelForm) → size_faults m ≡ [] → Each HasFewValues (groups_of (erase m))
groups-few m h = each-few (groups_of (erase m)) (no-fault (list_all has_few (groups_of (erase m))) m.initial.place h)
