use Rattle.std.proofs.Common.{◌≡◌, true}
use Rattle.std.specs.List.{list_all}
use Rattle.pb_base_values.specs.Carrier.{contains}
use Rattle.pb_text_meaning.specs.Sorts.{carrier_of}
use Rattle.pb_protocol_scalar_sets.specs.Sorts.{spec_of}
use Rattle.pb_protocol_scalar_sets.proofs.movable.movable_elements.Given as goal

-- those that are there are elements of the sort
abbrev pub invariant-loop-place : goal.invariant-loop-place
invariant-loop-place l = list_all (contains (carrier_of (spec_of l.protocol) l.sort)) l.moved.items ≡ true
