use Rattle.std.proofs.Common.{◌≡◌, drop}
use Rattle.pb_protocol_packing.specs.Numbers.{place_among}
use Rattle.pb_protocol_packer.specs.View.{texts_of}
use Rattle.pb_protocol_packer.proofs.enumerators.place_among.Given as goal

abbrev pub invariant-loop-index : goal.invariant-loop-index
invariant-loop-index l = place_among l.index (texts_of (drop l.index l.enumerators)) l.name ≡ place_among 0 (texts_of l.enumerators) l.name
