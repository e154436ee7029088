-- The line that a line comes from, as it is kept.
use Rattle.std.proofs.Common.{◌≡◌, ℕ, ◌<◌, length, get_or, ◌∙◌, arith}
use Rattle.std.proofs.lemmas.List.{get_or_read}
use Rattle.pb_evidence.specs.Evidence.{graph_of}
use Rattle.pb_evidence_words.specs.Order.{parent_at}
use Rattle.pb_evidence_words.specs.Ready.{numbers_of}
use Rattle.pb_evidence_words.specs.declared.telling.Telling.{Telling}

pub parent-read : (t : Telling) (k : ℕ) → k < length (numbers_of t.shown.now) → (x : ℕ) → x ≡ get_or t.lines.parents.items k x
    → x ≡ parent_at (graph_of t.shown.now.explanation.now.evidence) k
parent-read t k inside x is =
    let parents = t.lines.parents.items in
    let within : k < length parents = omega (arith, t.ready.ordered.parents_sized, inside) in
    get_or_read parents k x within is 0 ∙ t.ready.ordered.parents k inside
