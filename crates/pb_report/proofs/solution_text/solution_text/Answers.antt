use Rattle.std.proofs.Common.{ℕ, List, refl, rules}
use Rattle.pb_fixpoint_trees.specs.Tree.{Tree}
use Rattle.pb_report.specs.ModuleTexts.{module_solution_text, IsTextOfTrees}
use Rattle.pb_report.specs.Delivery.{was_not_written}
use Rattle.pb_report.proofs.OneSolution.{one_solution}
use Rattle.pb_report.proofs.Buffered.{part_written, end_unwritten, all_written}
use Rattle.pb_report.proofs.Delivery.{left_nothing}
use Rattle.pb_report.proofs.solution_text.solution_text.Given.{Over}
use Rattle.pb_report.proofs.solution_text.solution_text.Goals.{Start}
use Rattle.pb_report.proofs.solution_text.solution_text.Goals as goal

abbrev text : (g : Over) → Start g → (ℕ → Tree) → List ℕ
text g c trees = module_solution_text c.args.verified.now trees c.args.rows.now

is_text : (g : Over) (c : Start g) → IsTextOfTrees c.args.verified.now (text g c) (text g c c.requires.trees.0)
is_text g c = one_solution c.args.verified.now c.args.rows.now c.args.solved.now c.requires.game c.requires.trees

pub returns-in_err-buffer : goal.returns-in_err-buffer
returns-in_err-buffer g c =
    let at = (goal.at.returns-in_err-buffer g c).Start in
    left_nothing was_not_written g.S.Sink (IsTextOfTrees c.args.verified.now (text g at)) c.args.sink.now c.from_residual.result _ c.from_residual.ensures.1 refl

pub returns-in_err-write_lines : goal.returns-in_err-write_lines
returns-in_err-write_lines g c =
    let sent = c.in_err-write_lines.ensures c.requires.trees.0 c.requires.trees.1 in
    part_written _ (is_text g (goal.at.returns-in_err-write_lines g c).Start) _ _ sent c.in_ok-buffer.ensures c.from_residual-in_err-write_lines.ensures.1 refl (search rules)

pub returns-in_err-finish : goal.returns-in_err-finish
returns-in_err-finish g c =
    let sent = c.in_ok-write_lines.ensures c.requires.trees.0 c.requires.trees.1 in
    end_unwritten _ (is_text g (goal.at.returns-in_err-finish g c).Start) _ _ sent c.in_ok-buffer.ensures c.in_err-finish.ensures.written c.from_residual-in_err-finish.ensures.1 refl (search rules)

pub returns : goal.returns
returns g c =
    let sent = c.in_ok-write_lines.ensures c.requires.trees.0 c.requires.trees.1 in
    all_written _ (is_text g (goal.at.returns g c).Start) sent c.in_ok-buffer.ensures c.in_ok-finish.ensures.written (search rules)
