use Rattle.std.proofs.Common.{◌≡◌, ℕ, ◌+◌, ◌++◌, drop, map, arith}
use Rattle.pb_fixpoint_trees.specs.Tree.{Tree}
use Rattle.pb_fixpoint_trees.specs.Equations.{solved}
use Rattle.pb_fixpoint_trees.specs.Reached.{rows_of}
use Rattle.pb_bytecode.specs.Meaning.{AreTrees, signature_of, initial_of}
use Rattle.pb_report.specs.InstanceName.{instance_name}
use Rattle.pb_report.specs.SolutionText.{solution_line, solution_text}
use Rattle.pb_report.proofs.Underway.{begun, went_on, gave_up, ended}
use Rattle.pb_report.proofs.Solutions.{as_many, number_below, next_line, no_line}
use Rattle.pb_report.proofs.solution_text.write_lines.Given.{Over}
use Rattle.pb_report.proofs.solution_text.write_lines.Goals.{After-number}
use Rattle.pb_report.proofs.solution_text.write_lines.Goals as goal

pub row_truth-truth-requires : goal.row_truth-truth-requires
row_truth-truth-requires g c =
    let m = c.args.verified.now in
    let trees = c.requires.trees.0 in
    let have = c.requires.trees.1 in
    let count = as_many m c.args.rows.now c.requires.rows trees have in
    (map signature_of m.equations, trees, rows_of trees c.args.rows.now, initial_of m, c.requires.game trees have, omega (arith, count))

pub invariant_of-instance : goal.invariant_of-instance
invariant_of-instance g c =
    let below = number_below c.args.verified.now c.args.rows.now c.requires.rows c.requires.trees.0 c.requires.trees.1 c.loop-k.k (omega arith) in
    record { inside = omega (arith, below, c.number.ensures) }

pub loop-k-init : goal.loop-k-init
loop-k-init g c = λ trees have. begun

-- the line at the loop's place, and those behind it
line : (g : Over) (c : After-number g) (trees : ℕ → Tree) → AreTrees c.args.verified.now trees
    → solution_text (instance_name c.args.verified.now) (solved (map signature_of c.args.verified.now.equations) trees) (drop c.loop-k.k (rows_of trees c.args.rows.now))
    ≡ solution_line (instance_name c.args.verified.now c.number.result) c.row_truth-truth.result
    ++ solution_text (instance_name c.args.verified.now) (solved (map signature_of c.args.verified.now.equations) trees) (drop (c.loop-k.k + 1) (rows_of trees c.args.rows.now))
line g c trees have =
    let m = c.args.verified.now in
    let rows = c.args.rows.now in
    next_line m rows c.requires.rows trees have c.loop-k.k (omega arith) c.number.result c.row_truth-truth.result c.number.ensures
    (λ row at. c.row_truth-truth.ensures (map signature_of m.equations) trees (rows_of trees rows) (initial_of m) row (c.requires.game trees have) at)

pub returns-in_err-write_line : goal.returns-in_err-write_line
returns-in_err-write_line g c = λ trees have.
    gave_up _ (line g (goal.at.returns-in_err-write_line g c).After-number trees have) (c.loop-k.invariant trees have) c.from_residual.ensures.0 c.in_err-write_line.ensures

pub loop-k-preserved : goal.loop-k-preserved
loop-k-preserved g c = λ trees have.
    went_on (line g (goal.at.loop-k-preserved g c).After-number trees have) (c.loop-k.invariant trees have) c.in_ok-write_line.ensures

pub returns : goal.returns
returns g c = λ trees have.
    ended (no_line c.args.verified.now c.args.rows.now c.requires.rows trees have c.loop-k.k (omega arith)) (c.loop-k.invariant trees have)
