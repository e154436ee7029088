-- Evidence from a game of the nearest instances is evidence of the module.
use Rattle.std.proofs.Common.{◌≡◌, ℕ, Bool, true, false, not, List, map, inl, inr, refl, sym, ◌∙◌, subst}
use Rattle.std.specs.Bool.{beq}
use Rattle.pb_fixpoint_trees.specs.Tree.{Tree}
use Rattle.pb_fixpoint_trees.specs.Equations.{Signature}
use Rattle.pb_fixpoint_trees.specs.Row.{TokenRow}
use Rattle.pb_fixpoint_trees.specs.Reached.{rows_of}
use Rattle.pb_bytecode.specs.Contents.{Contents}
use Rattle.pb_bytecode.specs.Meaning.{signature_of, initial_of}
use Rattle.pb_game_of_trees.specs.declared.tree_game.TreeGame.{TreeGame}
use Rattle.pb_game_of_trees.specs.TreeGame.{RowsHaveTrees, AreRowsFrom, IsTreeGame, IsGameOf}
use Rattle.pb_game_of_trees.proofs.Reached.{found_row}
use Rattle.pb_game_of_trees.specs.Explored.{ModuleHasTrees, IsModuleGame}
use Rattle.pb_evidence.specs.AssumedGraphs.{IsAssumed}
use Rattle.pb_evidence.specs.Assumed.{AssumedIsShown}
use Rattle.pb_report.specs.declared.module_evidence.Explanation.{Explanation}
use Rattle.pb_report.specs.ModuleEvidence.{Explains, IsExplanation}
use Rattle.pb_report.proofs.Assumed.{assumed_is_explained}
use Rattle.pb_exploration_reached.specs.Rows.{AreExploredRows}
use Rattle.pb_evidence_nearby.specs.Around.{AreAssumedRows}
use Rattle.pb_command_solver.specs.declared.part.SolvedPart.{SolvedPart}
use Rattle.pb_command_solver.specs.Parts.{IsSolvedPart, IsTruthIn}
use Rattle.pb_command_solver.proofs.Rows.{module_rows}

pub same_of : (a b : Bool) → not (beq a b) ≡ false → a ≡ b
same_of true true h = refl
same_of true false h = cc
same_of false true h = cc
same_of false false h = refl

-- what evidence of rows says
abbrev pub ExplainsRows : List TokenRow → TreeGame → Explanation → Type 0
ExplainsRows rows built x =
    (signatures : List Signature) (trees : ℕ → Tree) (initial : ℕ) → AreRowsFrom signatures trees rows initial
    → IsTreeGame signatures trees (rows_of trees rows) initial built → Explains signatures trees initial x

module _ (m : Contents) (rows : List TokenRow) (some : ModuleHasTrees m) (b : Bool) (assumed : AreAssumedRows m b rows) where
  -- some trees that are assumed
  pub some_rows : RowsHaveTrees (map signature_of m.equations) rows (initial_of m)
  some_rows = let a = assumed some.0 some.1 in (a.0, a.2)

  module _ (built : TreeGame) (game : IsGameOf (map signature_of m.equations) rows (initial_of m) built) where
    pub shown_by_part : AssumedIsShown → IsTruthIn built b → (x : Explanation) → ExplainsRows rows built x → IsExplanation m x
    shown_by_part law is_truth x explains trees have =
        let sigs = map signature_of m.equations in
        let a = assumed trees have in
        let is = game a.0 a.2 in
        let s = explains sigs a.0 (initial_of m) a.2 is in
        let truth : x.evidence.truth ≡ b = s.shown.truth ∙ sym (is_truth sigs a.0 (rows_of a.0 rows) (initial_of m) is (found_row a.0 rows (initial_of m) a.2.found)) in
        assumed_is_explained law sigs trees a.0 (initial_of m) x s (λ k _. subst (λ (v : Bool). IsAssumed trees a.0 v k) (sym truth) (a.1 k))

    -- the game of all rows is the module's
    pub game_of_all : AreExploredRows m rows → IsModuleGame m rows built
    game_of_all explored trees have = game trees (module_rows m rows rows refl explored trees have)

    pub shown_by_all : AreExploredRows m rows → (x : Explanation) → ExplainsRows rows built x → IsExplanation m x
    shown_by_all explored x explains trees have =
        explains (map signature_of m.equations) trees (initial_of m) (module_rows m rows rows refl explored trees have) (game_of_all explored trees have)

-- evidence of a part that is enough is evidence of the module
pub part_explains : (m : Contents) (s : SolvedPart) → IsSolvedPart m s → AssumedIsShown → (x : Explanation) → ExplainsRows s.part.rows s.solved.built x
    → IsExplanation m x
part_explains m s is law x explains = elim is.enough [
  | inl whole ↦ shown_by_all m s.part.rows is.trees s.part.truth is.part.assumed s.solved.built is.game (is.part.whole whole) x explains
  | inr truth ↦ shown_by_part m s.part.rows is.trees s.part.truth is.part.assumed s.solved.built is.game law truth x explains
]
