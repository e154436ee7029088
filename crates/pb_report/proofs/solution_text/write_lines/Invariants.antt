use Rattle.std.proofs.Common.{ℕ, drop, map}
use Rattle.pb_fixpoint_trees.specs.Tree.{Tree}
use Rattle.pb_fixpoint_trees.specs.Equations.{solved}
use Rattle.pb_fixpoint_trees.specs.Reached.{rows_of}
use Rattle.pb_bytecode.specs.Meaning.{AreTrees, signature_of}
use Rattle.pb_report.specs.InstanceName.{instance_name}
use Rattle.pb_report.specs.SolutionText.{solution_text}
use Rattle.pb_report.specs.ModuleTexts.{module_solution_text}
use Rattle.pb_report.proofs.Underway.{IsUnderway}
use Rattle.pb_report.proofs.solution_text.write_lines.Given as goal

abbrev pub invariant-loop-k : goal.invariant-loop-k
invariant-loop-k g l =
    (trees : ℕ → Tree) → AreTrees l.verified trees →
    IsUnderway g.S.Sink l.fn.writer l.writer (module_solution_text l.verified trees l.rows)
    (solution_text (instance_name l.verified) (solved (map signature_of l.verified.equations) trees) (drop l.k (rows_of trees l.rows)))
