use Rattle.std.proofs.Common.{◌≡◌, ◌-◌, sym, ◌∙◌, slice_index, arith, ap}
use Rattle.pb_evidence_words.proofs.Runs.{run_goes_on, run_begins}
use Rattle.pb_evidence_words.proofs.lines.start_of.Goals as goal
use Rattle.pb_evidence_words.proofs.lines.start_of.Goals.{else-line-gt0-via-then-line-gt0+else-parents-line, else-line-gt0-via-else-line-gt0}
use Rattle.pb_evidence_words.specs.Order.{run_start}

pub returns-then-parents-line : goal.returns-then-parents-line
returns-then-parents-line c =
    c.requires.starts (c.args.line - 1) (omega arith)
    ∙ sym (run_goes_on (slice_index c.args.parents.now) c.args.line c.if-line-gt0.true c.if-parents-line.true)

pub returns-else-line-gt0 : goal.returns-else-line-gt0
returns-else-line-gt0 c =
    elim c.else-line-gt0.branch [
      | else-line-gt0-via-then-line-gt0+else-parents-line w ↦ sym (run_begins (slice_index c.args.parents.now) c.args.line w.if-line-gt0.true w.if-parents-line.false)
      | else-line-gt0-via-else-line-gt0 w ↦
          let none : c.args.line ≡ 0 = omega (arith, w.if-line-gt0.false) in
          none ∙ sym (ap (run_start (slice_index c.args.parents.now)) none)
    ]
