use Rattle.std.proofs.Common.{◌≡◌, drop, map}
use Rattle.pb_protocol_unfolding.specs.Whole as whole
use Rattle.pb_protocol_whole_steps.specs.View.{name_in}
use Rattle.pb_protocol_whole_steps.proofs.names.is_among.Given as goal

abbrev pub invariant-loop-other : goal.invariant-loop-other
invariant-loop-other l = whole.is_among (map name_in (drop l.other-index l.names)) l.name ≡ whole.is_among (map name_in l.names) l.name
