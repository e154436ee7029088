use Rattle.std.proofs.Common.{◌≤◌, ℕ, length, sym, ap, ◌∙◌, subst}
use Rattle.std.specs.Prelude.{if◌then◌else◌}
use Rattle.std.proofs.lemmas.List.Sums.{prefix_len-le-length}
use Rattle.pb_evidence.specs.Evidence.{graph_of}
use Rattle.pb_evidence_words.specs.Order.{rests_on_one}
use Rattle.pb_evidence_words.proofs.lines.sole_parent.Goals as goal

pub if_sole-requires-clause-parent : goal.if_sole-requires-clause-parent
if_sole-requires-clause-parent c =
    let n = length c.args.evidence.now.instances.items in
    subst (λ (p : ℕ). p ≤ n) (sym (c.requires.parents c.args.line c.requires.line)) (prefix_len-le-length _ c.args.evidence.now.instances.items)

pub returns : goal.returns
returns c =
    let e = c.args.evidence.now in
    c.if_sole.ensures
    ∙ ap (λ (p : ℕ). if rests_on_one (graph_of e) c.args.cuts.now p then p else length e.instances.items) (c.requires.parents c.args.line c.requires.line)
