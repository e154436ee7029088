use Rattle.std.proofs.Common.{◌∙◌, arith, map}
use Rattle.pb_protocol_unfolder_terms.specs.AssignmentCopies.{copy_behind}
use Rattle.pb_protocol_unfolder_terms.proofs.SpreadLemmas.{all-behind, spreads-copied}
use Rattle.pb_protocol_unfolder_terms.proofs.copies.all_copies.Goals as goal

pub returns-clause-all : goal.returns-clause-all
returns-clause-all c = λ S bs are.
    all-behind (map copy_behind c.loop-spread.copies.items) c.args.spreads.now c.loop-spread.spread-index (λ h. omega (arith, h, c.loop-spread-test.false)) c.loop-spread.invariant
    ∙ spreads-copied S bs c.args.spreads.now are
