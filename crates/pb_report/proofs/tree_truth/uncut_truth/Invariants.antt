use Rattle.std.proofs.Common.{◌≡◌, length}
use Rattle.pb_evidence.specs.ProofGraphs.{exactly}
use Rattle.pb_report.specs.Reading.{read_on}
use Rattle.pb_report.proofs.tree_truth.uncut_truth.Given as goal

-- what is still to be read gives the truth of all tokens
abbrev pub invariant-loop-token : goal.invariant-loop-token
invariant-loop-token l =
    read_on (exactly l.named.value l.named.numbers.items) l.reading l.tokens
    ≡ read_on (exactly l.named.value l.named.numbers.items) l.initial.reading l.initial.tokens

abbrev pub decreases-loop-token : goal.decreases-loop-token
decreases-loop-token l = length l.tokens
