use Rattle.std.proofs.Common.{sym, ap, ◌∙◌, arith}
use Rattle.pb_evidence_words.specs.Callers.{told_by}
use Rattle.pb_evidence_words.specs.Order.{leads_on}
use Rattle.pb_evidence_words.proofs.LeftOut.{one-leads}
use Rattle.pb_evidence_words.proofs.Reached.{child-contained}
use Rattle.pb_evidence_words.proofs.line.Line.leads_on.Goals as goal

pub is_next-requires : goal.is_next-requires
is_next-requires c =
    let line = c.args.self.now in
    let telling = line.telling.now in
    child-contained telling.shown.now.explanation.now.evidence telling.ready.evidence line.number line.inside
    c.dependencies-numbers.result.now c.dependencies-numbers.ensures 0 (omega (arith, c.if-numbers-eq1.true))

pub returns-then-numbers-eq1 : goal.returns-then-numbers-eq1
returns-then-numbers-eq1 c =
    let line = c.args.self.now in
    let graph = (told_by line).graph in
    c.is_next.ensures
    ∙ (one-leads graph line.number c.dependencies-numbers.result.now (omega (arith, c.if-numbers-eq1.true))
    ∙ ap (leads_on graph line.number) (c.dependencies-numbers.ensures ∙ sym (line.telling.now.ready.evidence.each line.number line.inside)))
