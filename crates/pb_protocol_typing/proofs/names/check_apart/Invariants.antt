use Rattle.std.proofs.Common.{◌≡◌, drop}
use Rattle.pb_typing_declarations.specs.Faults.{repeated}
use Rattle.pb_typing_declarations.proofs.Filling.{seen_repeated}
use Rattle.pb_protocol_typing.specs.View.{names_in}
use Rattle.pb_protocol_typing.proofs.Seen.{in_set}
use Rattle.pb_protocol_typing.proofs.names.check_apart.Given as goal

-- all faults are those of the names that are left
abbrev pub invariant-loop-name : goal.invariant-loop-name
invariant-loop-name l = repeated (names_in l.names) ≡ seen_repeated (in_set l.seen) (names_in (drop l.name-index l.names))
