use Rattle.std.proofs.Common.{◌≡◌, ℕ, List, map, take}
use Rattle.pb_fixpoint_trees.specs.Tree.{Tree}
use Rattle.pb_fixpoint_trees.specs.Equations.{Signature}
use Rattle.pb_game_of_trees.specs.TreeGame.{AreRowsFrom}
use Rattle.pb_evidence.specs.Evidence.{Shows}
use Rattle.pb_report.specs.Cuts.{is_cut}
use Rattle.pb_report.proofs.cuts.cuts_of.Given as goal

-- those of the instances so far
abbrev pub invariant-loop-place : goal.invariant-loop-place
invariant-loop-place l =
    (signatures : List Signature) (trees : ℕ → Tree) (initial : ℕ) → AreRowsFrom signatures trees l.rows initial →
    Shows signatures trees initial l.evidence → l.cuts.items ≡ map (is_cut trees l.evidence) (take l.place l.evidence.instances.items)
