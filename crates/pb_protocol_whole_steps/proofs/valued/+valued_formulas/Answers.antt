use Rattle.std.proofs.Common.{map}
use Rattle.pb_protocol_whole_steps.specs.View.{name_in}
use Rattle.pb_protocol_whole_steps.proofs.Chains.{on-ok, formula-chained}
use Rattle.pb_protocol_whole_steps.proofs.valued.+valued_formulas.Goals as goal

pub push_formula-returns-in_ok-push_formula-in-Chain : goal.push_formula-returns-in_ok-push_formula-in-Chain
push_formula-returns-in_ok-push_formula-in-Chain t c =
    on-ok c.push_links.result
    (formula-chained (map name_in c.args.names.now.items) (map name_in c.push_formula-in-Chain.new.names.items) (map name_in c.push_links.new.names.items) c.in-Chain.connective c.in-Chain.first
    c.in-Chain.links c.deref-in-Chain.result.now c.deref-in-Chain-2.result.now c.args.formula.now c.in-Chain.is c.deref-in-Chain.ensures c.deref-in-Chain-2.ensures.value
    c.in_ok-push_formula-in-Chain.ensures)
    c.push_links.ensures
