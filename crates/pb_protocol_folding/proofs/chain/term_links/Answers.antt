use Rattle.std.proofs.Common.{rules, Vec, Global}
use Rattle.std.proofs.lemmas.Result.{IfOk-weaker}
use Rattle.pb_text_tree.specs.declared.term.TermLink.{TermLink}
use Rattle.pb_protocol_folding.proofs.Chains.{longer-term}
use Rattle.pb_protocol_folding.proofs.chain.term_links.Goals as goal

pub returns-then-eq : goal.returns-then-eq
returns-then-eq c =
    IfOk-weaker c.with_first.result _ _
    (λ (more : Vec TermLink Global) here. longer-term c.args.connective c.in-Chain.inner c.args.place c.in-Chain.first c.in-Chain.links
    more.items c.into_inner-operand.result c.args.term c.in-Chain.is (search rules) c.into_inner-operand.ensures here)
    c.with_first.ensures
