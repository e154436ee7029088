use Rattle.std.proofs.Common.{◌≡◌, take}
use Rattle.pb_protocol_unfolder.specs.Apart.{name_bytes}
use Rattle.pb_protocol_unfolder.specs.Defined.{definitions_said, stands_for}
use Rattle.pb_protocol_unfolder.proofs.defined.resolve.Given as goal

-- by those before the place
abbrev pub invariant-loop-place : goal.invariant-loop-place
invariant-loop-place l =
    stands_for (definitions_said (take l.place l.definitions)) (name_bytes l.found) ≡ stands_for (definitions_said l.definitions) (name_bytes l.name)
