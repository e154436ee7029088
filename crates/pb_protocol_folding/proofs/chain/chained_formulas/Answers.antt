use Rattle.pb_protocol_folding.proofs.Chains.{chained-formula}
use Rattle.pb_protocol_folding.proofs.Places.{chained-places}
use Rattle.pb_protocol_folding.proofs.chain.chained_formulas.Goals as goal

pub returns-clause-formula : goal.returns-clause-formula
returns-clause-formula c =
    chained-formula c.args.connective c.args.place c.in_ok-first.first c.in_ok-first.links c.args.left c.args.right c.in_ok-first.ensures.0
    (rw c.in_ok-first.ensures.1 at c.formula_links-links.ensures)

pub returns-clause-places : goal.returns-clause-places
returns-clause-places c =
    chained-places c.args.connective c.args.place c.in_ok-first.first c.in_ok-first.links c.args.left c.args.right c.in_ok-first.ensures.0 (rw c.in_ok-first.ensures.1 at c.formula_links-links.ensures)
