use Rattle.std.proofs.Common.{rules}
use Rattle.std.specs.Prelude.{flat_map}
use Rattle.pb_typing_declarations.specs.Faults.{IsAmong}
use Rattle.pb_typing_declarations.proofs.Loops.{among_item}
use Rattle.pb_protocol_typing.specs.Faults.{names_hiding}
use Rattle.pb_protocol_typing.specs.View.{list_form, list_forms, signatures_in}
use Rattle.pb_protocol_typing.proofs.lists.check_each_hiding.Goals as goal

pub returns-in_err-check_hiding : goal.returns-in_err-check_hiding
returns-in_err-check_hiding c =
    let faults = names_hiding (signatures_in c.args.known.now) in
    let lists = c.args.lists.now in
    let error = c.in_err-check_hiding.field-0.0 in
    let h : IsAmong (flat_map faults (list_forms lists)) error =
    among_item faults list_form lists c.loop-groups.groups-index c.groups-item.result error c.loop-groups-test.true c.groups-item.is c.loop-groups.invariant c.in_err-check_hiding.ensures in
    search rules
