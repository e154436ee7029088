use Rattle.std.proofs.Common.{rules}
use Rattle.std.specs.Prelude.{flat_map}
use Rattle.pb_typing_declarations.specs.Declarations.{variables_faults}
use Rattle.pb_typing_declarations.specs.Faults.{IsAmong}
use Rattle.pb_typing_declarations.specs.View.{spec_of}
use Rattle.pb_typing_declarations.proofs.Loops.{among_item}
use Rattle.pb_protocol_typing.specs.View.{list_form, list_forms}
use Rattle.pb_protocol_typing.proofs.lists.check_each_list.Goals as goal

pub returns-in_err-check_variables : goal.returns-in_err-check_variables
returns-in_err-check_variables c =
    let faults = variables_faults (spec_of c.args.declarations.now) in
    let lists = c.args.lists.now in
    let error = c.in_err-check_variables.field-0.0 in
    let h : IsAmong (flat_map faults (list_forms lists)) error =
    among_item faults list_form lists c.loop-groups.groups-index c.groups-item.result error c.loop-groups-test.true c.groups-item.is c.loop-groups.invariant c.in_err-check_variables.ensures.checked in
    search rules
