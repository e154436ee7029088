use Rattle.std.proofs.Common.{refl, ap, arith}
use Rattle.std.proofs.lemmas.List.{drop_all}
use Rattle.pb_report.proofs.Sending.{sends_err}
use Rattle.pb_report.proofs.Underway.{begun, went_on, gave_up, ended}
use Rattle.pb_report.specs.ModuleLines.{evidence_lines_of}
use Rattle.pb_report.proofs.Lines.{next_line}
use Rattle.pb_report.proofs.evidence_text.write_evidence.Goals as goal

pub returns-in_err-write_answer : goal.returns-in_err-write_answer
returns-in_err-write_answer g c = λ trees have place are.
    sends_err _ c.from_residual.ensures.0 c.in_err-write_answer.ensures

pub loop-k-init : goal.loop-k-init
loop-k-init g c = λ trees have place are. went_on refl begun c.in_ok-write_answer.ensures

pub returns-in_err-write_line : goal.returns-in_err-write_line
returns-in_err-write_line g c = λ trees have place are.
    gave_up _ (next_line c.args.verified.now trees place c.args.placed.now.explanation.now.evidence _ c.loop-k.k (omega arith)) (c.loop-k.invariant trees have place are)
    c.from_residual-in_err-write_line.ensures.0 (c.in_err-write_line.ensures trees have place are)

pub loop-k-preserved : goal.loop-k-preserved
loop-k-preserved g c = λ trees have place are.
    went_on (next_line c.args.verified.now trees place c.args.placed.now.explanation.now.evidence _ c.loop-k.k (omega arith)) (c.loop-k.invariant trees have place are)
    (c.in_ok-write_line.ensures trees have place are)

pub returns : goal.returns
returns g c = λ trees have place are.
    let e = c.args.placed.now.explanation.now.evidence in
    let none = ap (evidence_lines_of c.args.verified.now trees place e) (drop_all c.loop-k.k e.instances.items (omega arith)) in
    ended none (c.loop-k.invariant trees have place are)
