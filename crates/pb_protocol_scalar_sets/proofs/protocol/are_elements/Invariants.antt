use Rattle.std.proofs.Common.{◌≡◌, drop}
use Rattle.std.specs.List.{list_all}
use Rattle.pb_base_values.specs.Carrier.{contains}
use Rattle.pb_text_meaning.specs.Sorts.{carrier_of}
use Rattle.pb_protocol_scalar_sets.specs.Sorts.{spec_of}
use Rattle.pb_protocol_scalar_sets.proofs.protocol.are_elements.Given as goal

-- the elements that are left
abbrev pub invariant-loop-element : goal.invariant-loop-element
invariant-loop-element l =
    let all = list_all (contains (carrier_of (spec_of l.set.protocol.now) l.set.sort.now)) in all l.set.moved.now ≡ all (drop l.element-index l.set.moved.now)
