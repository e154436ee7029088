use Rattle.std.proofs.Common.{◌+◌, List, ap, drop}
use Rattle.pb_protocol_packing.specs.Said.{Scope}
use Rattle.pb_protocol_packing.specs.Packing.{with_groups}
use Rattle.pb_protocol_packer.specs.declared.group.Group.{Group}
use Rattle.pb_protocol_packer.specs.Groups.{groups_in}
use Rattle.pb_protocol_packer.specs.Scopes.{table_of}
use Rattle.pb_protocol_packer.proofs.LoopRows.{loop-goes}
use Rattle.pb_protocol_packer.proofs.table.known_variables.Goals as goal

pub loop-group-preserved : goal.loop-group-preserved
loop-group-preserved c =
    let rest = groups_in (drop (c.loop-group.group-index + 1) c.args.groups.now) in
    loop-goes (λ (gs : List Group). with_groups (groups_in gs) (table_of c.loop-group.table.items)) c.args.groups.now c.loop-group.group-index c.group-item.result _ _
    c.loop-group-test.true c.group-item.is (ap (λ (σ : Scope). with_groups rest σ) c.in_ok-put_group.ensures) c.loop-group.invariant
