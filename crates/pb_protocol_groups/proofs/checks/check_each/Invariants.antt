use Rattle.std.proofs.Common.{◌≡◌, drop}
use Rattle.std.specs.Prelude.{flat_map}
use Rattle.pb_protocol_typing.specs.View.{names_in}
use Rattle.pb_protocol_groups.specs.Checks.{taken_faults_by}
use Rattle.pb_protocol_groups.specs.NameSets.{is_name_in}
use Rattle.pb_protocol_groups.proofs.checks.check_each.Given as goal

-- all faults are those of the names that are left
abbrev pub invariant-loop-name : goal.invariant-loop-name
invariant-loop-name l =
    let faults = taken_faults_by (is_name_in l.taken) in flat_map faults (names_in l.names) ≡ flat_map faults (names_in (drop l.name-index l.names))
