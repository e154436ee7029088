use Rattle.std.proofs.Common.{List, sym, ap, ◌∙◌}
use Rattle.pb_fixpoint_trees.specs.declared.Token.{Token}
use Rattle.pb_evidence.specs.ProofGraphs.{exactly}
use Rattle.pb_report.specs.Reading.{read_on}
use Rattle.pb_report.proofs.Reading.{read_to_end}
use Rattle.pb_report.proofs.tree_truth.uncut_truth.Goals as goal

pub loop-token-preserved : goal.loop-token-preserved
loop-token-preserved c =
    let t = exactly c.args.named.now.value c.args.named.now.numbers.items in
    c.in_ok-read.ensures c.take_first.new.self
    ∙ (ap (λ (tokens : List Token). read_on t c.loop-token.reading tokens) (sym c.in-Some.ensures.taken) ∙ c.loop-token.invariant)

pub returns : goal.returns
returns c = λ tree spelled.
    read_to_end (exactly c.args.named.now.value c.args.named.now.numbers.items) c.loop-token.reading c.args.tokens c.loop-token.tokens
    c.new.result.items c.truth.result c.in_default.ensures.taken c.new.ensures.items c.loop-token.invariant c.truth.ensures tree spelled
