use Rattle.std.proofs.Common.{◌≡◌, drop, map}
use Rattle.pb_protocol_unfolding.specs.Whole as whole
use Rattle.pb_protocol_whole_steps.specs.View.{name_bytes, name_in}
use Rattle.pb_protocol_whole_steps.proofs.names.are_fresh.Given as goal

abbrev pub invariant-loop-place : goal.invariant-loop-place
invariant-loop-place l = whole.are_fresh (map name_bytes l.others) (map name_in (drop l.place l.names)) ≡ whole.are_fresh (map name_bytes l.others) (map name_in l.names)
