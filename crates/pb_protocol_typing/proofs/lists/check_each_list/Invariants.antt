use Rattle.std.proofs.Common.{◌≡◌, drop}
use Rattle.std.specs.Prelude.{flat_map}
use Rattle.pb_typing_declarations.specs.Declarations.{variables_faults}
use Rattle.pb_typing_declarations.specs.View.{spec_of}
use Rattle.pb_protocol_typing.specs.View.{list_forms}
use Rattle.pb_protocol_typing.proofs.lists.check_each_list.Given as goal

-- all faults are those of the lists that are left
abbrev pub invariant-loop-groups : goal.invariant-loop-groups
invariant-loop-groups l =
    let faults = variables_faults (spec_of l.declarations) in flat_map faults (list_forms l.lists) ≡ flat_map faults (list_forms (drop l.groups-index l.lists))
