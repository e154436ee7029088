use Rattle.pb_protocol_folding.proofs.Chains.{operated-term}
use Rattle.pb_protocol_folding.proofs.operation.operated_term.Goals as goal

pub returns : goal.returns
returns c =
    operated-term c.args.operator c.args.place c.in_ok-first.first c.in_ok-first.links c.args.left c.args.right
    c.in_ok-first.ensures.0 (rw c.in_ok-first.ensures.1 at c.alone.ensures)
