use Rattle.std.proofs.Common.{◌≡◌, drop}
use Rattle.pb_protocol_packing.specs.Apart.{is_among}
use Rattle.pb_protocol_packer.specs.View.{texts_of}
use Rattle.pb_protocol_packer.proofs.scope.is_among.Given as goal

abbrev pub invariant-loop-other : goal.invariant-loop-other
invariant-loop-other l = is_among (texts_of (drop l.other-index l.names)) l.name ≡ is_among (texts_of l.names) l.name
