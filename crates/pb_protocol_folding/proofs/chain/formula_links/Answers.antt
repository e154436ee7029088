use Rattle.std.proofs.Common.{rules, Vec, Global}
use Rattle.std.proofs.lemmas.Result.{IfOk-weaker}
use Rattle.pb_model_tree.specs.declared.formula.Link.{Link}
use Rattle.pb_protocol_folding.proofs.Chains.{longer-formula}
use Rattle.pb_protocol_folding.proofs.chain.formula_links.Goals as goal

pub returns-then-eq : goal.returns-then-eq
returns-then-eq c =
    IfOk-weaker c.with_first.result _ _
    (λ (more : Vec Link Global) here. longer-formula c.args.connective c.in-Chain.inner c.args.place c.in-Chain.first c.in-Chain.links
    more.items c.into_inner-operand.result c.args.formula c.in-Chain.is (search rules) c.into_inner-operand.ensures here)
    c.with_first.ensures
