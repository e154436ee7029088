use Rattle.pb_protocol_tree.specs.Form.{formula_form}
use Rattle.pb_protocol_typing.specs.ListLinks.{operands_lists}
use Rattle.pb_protocol_typing.specs.Lists.{formula_lists}
use Rattle.pb_protocol_typing.specs.View.{list_forms}
use Rattle.pb_protocol_typing.proofs.ListRows.{operands-said, then_parts}
use Rattle.pb_protocol_typing.proofs.lists.+formulas.Goals as goal

pub push_formula-returns-in_ok-push_formula-in-Chain : goal.push_formula-returns-in_ok-push_formula-in-Chain
push_formula-returns-in_ok-push_formula-in-Chain t c =
    let n = c.in-Chain in
    then_parts c.push_operands.result (list_forms c.args.lists.now.items) (list_forms c.push_formula.new.lists.items) (list_forms c.push_operands.new.lists.items)
    (formula_lists (formula_form c.deref.result.now)) (operands_lists c.deref-in-Chain.result.now) _
    c.in_ok-push_formula-in-Chain.ensures c.push_operands.ensures
    (operands-said c.args.formula.now c.deref.result.now n.connective n.first n.links c.deref-in-Chain.result.now n.is c.deref.ensures c.deref-in-Chain.ensures.value)
