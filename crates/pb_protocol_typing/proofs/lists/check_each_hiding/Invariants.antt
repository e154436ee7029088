use Rattle.std.proofs.Common.{◌≡◌, drop}
use Rattle.std.specs.Prelude.{flat_map}
use Rattle.pb_protocol_typing.specs.Faults.{names_hiding}
use Rattle.pb_protocol_typing.specs.View.{list_forms, signatures_in}
use Rattle.pb_protocol_typing.proofs.lists.check_each_hiding.Given as goal

-- all faults are those of the lists that are left
abbrev pub invariant-loop-groups : goal.invariant-loop-groups
invariant-loop-groups l =
    let faults = names_hiding (signatures_in l.known) in flat_map faults (list_forms l.lists) ≡ flat_map faults (list_forms (drop l.groups-index l.lists))
