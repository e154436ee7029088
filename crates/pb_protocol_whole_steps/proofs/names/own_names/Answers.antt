use Rattle.std.proofs.Common.{map}
use Rattle.pb_text_tree.specs.Form.{variable_forms}
use Rattle.pb_text_meaning.specs.Erase.{erased_variables}
use Rattle.pb_protocol_folding.specs.Names.{names_of}
use Rattle.pb_protocol_whole_steps.specs.View.{name_in}
use Rattle.pb_protocol_whole_steps.proofs.Chains.{group-named}
use Rattle.pb_protocol_whole_steps.proofs.names.own_names.Goals as goal

pub loop-group-preserved : goal.loop-group-preserved
loop-group-preserved c =
    group-named c.args.groups.now c.loop-group.group-index c.group-item.result (map name_in c.loop-group.names.items) (map name_in c.push_group.new.names.items)
    (names_of (erased_variables (variable_forms c.args.groups.now))) c.loop-group-test.true c.group-item.is c.in_ok-push_group.ensures c.loop-group.invariant
