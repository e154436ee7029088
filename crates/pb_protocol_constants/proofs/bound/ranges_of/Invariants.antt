use Rattle.std.proofs.Common.{◌≡◌, map}
use Rattle.pb_text_tree.specs.Form.{range_form}
use Rattle.pb_protocol_tree.specs.Form.{bounds_form, protocol_form}
use Rattle.pb_protocol_constants.specs.Rules.{AreAllBounds}
use Rattle.pb_protocol_constants.specs.Settled.{range_of, HasNoSorts}
use Rattle.pb_protocol_constants.proofs.bound.ranges_of.Given as goal

abbrev pub invariant-loop-its_bounds : goal.invariant-loop-its_bounds
invariant-loop-its_bounds l = record {
  ranges : HasNoSorts (protocol_form l.initial.constants) → map range_form l.ranges.items ≡ map (range_of (protocol_form l.initial.constants)) (map bounds_form l.yielded);
  bounds : HasNoSorts (protocol_form l.initial.constants) → AreAllBounds (protocol_form l.initial.constants) (map bounds_form l.yielded);
  kept : protocol_form l.constants ≡ protocol_form l.initial.constants;
}
