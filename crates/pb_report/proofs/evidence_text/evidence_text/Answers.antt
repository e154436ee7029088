use Rattle.std.proofs.Common.{ℕ, List, Option, refl, rules}
use Rattle.pb_text_tree.specs.declared.place.Place.{Place}
use Rattle.pb_fixpoint_trees.specs.Tree.{Tree}
use Rattle.pb_report.specs.ModuleEvidence.{module_evidence_text}
use Rattle.pb_report.specs.ModuleTexts.{IsTextOfTrees}
use Rattle.pb_report.specs.Delivery.{was_not_written}
use Rattle.pb_report.proofs.Lines.{one_text}
use Rattle.pb_report.proofs.Buffered.{part_written, end_unwritten, all_written}
use Rattle.pb_report.proofs.Delivery.{left_nothing}
use Rattle.pb_report.proofs.evidence_text.evidence_text.Given.{Over}
use Rattle.pb_report.proofs.evidence_text.evidence_text.Goals.{Start}
use Rattle.pb_report.proofs.evidence_text.evidence_text.Goals as goal

abbrev text : (g : Over) → Start g → (ℕ → ℕ → Option Place) → (ℕ → Tree) → List ℕ
text g c place trees = module_evidence_text c.args.verified.now trees place c.args.placed.now.explanation.now.evidence

is_text : (g : Over) (c : Start g) (place : ℕ → ℕ → Option Place) → IsTextOfTrees c.args.verified.now (text g c place) (text g c place c.requires.trees.0)
is_text g c place = one_text c.args.verified.now c.requires.trees c.args.placed.now.explanation.now c.requires.explanation place

pub returns-in_err-buffer : goal.returns-in_err-buffer
returns-in_err-buffer g c = λ place are.
    let at = (goal.at.returns-in_err-buffer g c).Start in
    left_nothing was_not_written g.S.Sink (IsTextOfTrees c.args.verified.now (text g at place)) c.args.sink.now c.from_residual.result _ c.from_residual.ensures.1 refl

pub returns-in_err-write_evidence : goal.returns-in_err-write_evidence
returns-in_err-write_evidence g c = λ place are.
    let sent = c.in_err-write_evidence.ensures c.requires.trees.0 c.requires.trees.1 place are in
    part_written _ (is_text g (goal.at.returns-in_err-write_evidence g c).Start place) _ _ sent c.in_ok-buffer.ensures c.from_residual-in_err-write_evidence.ensures.1 refl (search rules)

pub returns-in_err-finish : goal.returns-in_err-finish
returns-in_err-finish g c = λ place are.
    let sent = c.in_ok-write_evidence.ensures c.requires.trees.0 c.requires.trees.1 place are in
    end_unwritten _ (is_text g (goal.at.returns-in_err-finish g c).Start place) _ _ sent c.in_ok-buffer.ensures c.in_err-finish.ensures.written
    c.from_residual-in_err-finish.ensures.1 refl (search rules)

pub returns : goal.returns
returns g c = λ place are.
    let sent = c.in_ok-write_evidence.ensures c.requires.trees.0 c.requires.trees.1 place are in
    all_written _ (is_text g (goal.at.returns g c).Start place) sent c.in_ok-buffer.ensures c.in_ok-finish.ensures.written (search rules)
