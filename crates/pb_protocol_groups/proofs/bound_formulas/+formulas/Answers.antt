use Rattle.pb_model_tree.specs.Form.{formula_form}
use Rattle.pb_protocol_typing.specs.View.{names_in}
use Rattle.pb_protocol_groups.specs.Bound.{formula_bound_names}
use Rattle.pb_protocol_groups.specs.BoundLinks.{operands_bound_names}
use Rattle.pb_protocol_groups.proofs.Bound.{operands-said, then-parts}
use Rattle.pb_protocol_groups.proofs.bound_formulas.+formulas.Goals as goal

pub push_formula-returns-in_ok-push_formula-in-Chain : goal.push_formula-returns-in_ok-push_formula-in-Chain
push_formula-returns-in_ok-push_formula-in-Chain t c =
    let n = c.in-Chain in
    then-parts c.push_operands.result (names_in c.args.names.now.items) _ (names_in c.push_operands.new.names.items)
    (formula_bound_names (formula_form c.deref-in-Chain.result.now)) (operands_bound_names c.deref-in-Chain-2.result.now) _
    c.in_ok-push_formula-in-Chain.ensures c.push_operands.ensures
    (operands-said c.args.formula.now c.deref-in-Chain.result.now n.connective n.first n.links c.deref-in-Chain-2.result.now n.is c.deref-in-Chain.ensures c.deref-in-Chain-2.ensures.value)
