use Rattle.std.proofs.Common.{◌≡◌, drop}
use Rattle.std.specs.Prelude.{flat_map}
use Rattle.pb_protocol_typing.specs.Faults.{blank_faults}
use Rattle.pb_protocol_typing.specs.View.{names_in}
use Rattle.pb_protocol_typing.proofs.names.check_blank.Given as goal

-- all faults are those of the names that are left
abbrev pub invariant-loop-name : goal.invariant-loop-name
invariant-loop-name l = flat_map blank_faults (names_in l.names) ≡ flat_map blank_faults (names_in (drop l.name-index l.names))
