use Rattle.pb_protocol_folding.proofs.Chains.{chained-term}
use Rattle.pb_protocol_folding.proofs.chain.chained_terms.Goals as goal

pub returns : goal.returns
returns c =
    chained-term c.args.connective c.args.place c.in_ok-first.first c.in_ok-first.links c.args.left c.args.right c.in_ok-first.ensures.0 (rw c.in_ok-first.ensures.1 at c.term_links-links.ensures)
