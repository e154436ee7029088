-- The answer to a module whose game is solved, from what was counted of its rows.
use Rattle.std.proofs.Common.{◌≡◌, ℕ, ◌≤◌, Bool, List, length, map, refl, ap, ◌∙◌}
use Rattle.std.proofs.lemmas.List.{length-map}
use Rattle.pb_fixpoint_trees.specs.Tree.{Tree}
use Rattle.pb_fixpoint_trees.specs.Rows as plain
use Rattle.pb_fixpoint_trees.specs.Row.{TokenRow}
use Rattle.pb_fixpoint_trees.specs.Equations.{Signature}
use Rattle.pb_fixpoint_trees.specs.Game.{vertex_of}
use Rattle.pb_fixpoint_trees.specs.Reached.{row_of, rows_of}
use Rattle.pb_sorts.specs.declared.counting.Counting.{Counting}
use Rattle.pb_bytecode.specs.Contents.{Contents}
use Rattle.pb_bytecode.specs.Meaning.{AreTrees, signature_of, initial_of, answer}
use Rattle.pb_exploration_reached.specs.Rows.{AreExploredRows}
use Rattle.pb_game.specs.Games.{vertex_count}
use Rattle.pb_game_of_trees.specs.Explored.{IsModuleGame}
use Rattle.pb_game_of_trees.specs.Drafted.{IsDraftedGame, IsModuleDraft}
use Rattle.pb_game_of_trees.specs.declared.drafted.DraftedGame.{DraftedGame}
use Rattle.pb_game_of_trees.specs.declared.tree_game.TreeGame.{TreeGame}
use Rattle.pb_game_of_trees.specs.VertexLimit.{vertex_limit}
use Rattle.pb_game_of_trees.specs.TreeGame.{AreRowsFrom, IsTreeGame}
use Rattle.pb_game_of_trees.specs.Held.{Hold}
use Rattle.pb_game_of_trees.proofs.Reached.{AreReached, found_row, reached_of}
use Rattle.pb_report.specs.declared.answer.Answer.{Answer}
use Rattle.pb_report.specs.CutCalls.{cut_count}
use Rattle.pb_report.proofs.ReachedGames.{same_length}
use Rattle.pb_command_solver.specs.Answers.{IsAnswerOf}
use Rattle.pb_command_solver.specs.Parts.{IsTruthIn}
use Rattle.pb_command_solver.proofs.Rows.{module_rows}

-- a draft has a vertex for each row
pub drafted_rows : (m : Contents) (rows : List TokenRow) (drafted : DraftedGame) → IsModuleDraft m rows drafted
    → (trees : ℕ → Tree) → AreTrees m trees → length drafted.vertices.items ≡ length rows
drafted_rows m rows drafted draft trees have =
    ap length (draft trees have).vertices
    ∙ (length-map (rows_of trees rows) (λ (row : plain.Row). vertex_of (rows_of trees rows) row.number) ∙ length-map rows (row_of trees))

-- the game that is made of a module's draft is the module's
pub game_of_draft : (m : Contents) (rows : List TokenRow) (drafted : DraftedGame) (built : TreeGame) → IsModuleDraft m rows drafted
    → ((signatures : List Signature) (trees : ℕ → Tree) (reached : List plain.Row) (initial : ℕ)
    → IsDraftedGame signatures trees reached initial drafted → IsTreeGame signatures trees reached initial built)
    → IsModuleGame m rows built
game_of_draft m rows drafted built draft finished trees have = finished _ _ _ _ (draft trees have)

module _ (m : Contents) (rows : List TokenRow) (built : TreeGame) (explored : AreExploredRows m rows) (game : IsModuleGame m rows built) where
  from : (trees : ℕ → Tree) → AreTrees m trees → AreRowsFrom (map signature_of m.equations) trees rows (initial_of m)
  from trees have = module_rows m rows rows refl explored trees have

  are : (trees : ℕ → Tree) → AreTrees m trees → AreReached (map signature_of m.equations) trees rows (rows_of trees rows)
  are trees have = reached_of trees (map signature_of m.equations) rows (from trees have).are

  found : (trees : ℕ → Tree) → AreTrees m trees → plain.IsReached (rows_of trees rows) (initial_of m)
  found trees have = found_row trees rows (initial_of m) (from trees have).found

  pub count : (trees : ℕ → Tree) → AreTrees m trees → length built.vertices.items ≡ length rows
  count trees have = same_length m rows built trees (rows_of trees rows) (initial_of m) (are trees have) (game trees have)

  pub answer_is : (counting : Counting) (truth : Bool) (instances cut vertices : ℕ) → IsTruthIn built truth → instances ≡ length built.vertices.items
      → ((reached : List plain.Row) → Hold rows reached → cut ≡ cut_count reached)
      → vertices ≡ vertex_count built.game → vertices ≤ vertex_limit counting
      → IsAnswerOf counting m (record { truth = truth; instances = instances; cut = cut; vertices = vertices })
  answer_is counting t n c v is_truth is_count is_cut is_size few trees have =
      let reached = rows_of trees rows in
      let is = game trees have in
      let truth = is_truth (map signature_of m.equations) trees reached (initial_of m) is (found trees have) in
      let instances : n ≡ length rows = is_count ∙ count trees have in
      let cut = is_cut reached (are trees have).held in
      let vertices = is_size ∙ is.game.vertices.count in
      record {
        rows = rows;
        reached = explored trees have;
        exact = ap (λ (x : Bool). let a : Answer = record { truth = x; instances = n; cut = c; vertices = v } in a) truth
            ∙ (ap (λ (x : ℕ). let a : Answer = record { truth = answer m trees; instances = x; cut = c; vertices = v } in a) instances
            ∙ (ap (λ (x : ℕ). let a : Answer = record { truth = answer m trees; instances = length rows; cut = x; vertices = v } in a) cut
            ∙ ap (λ (x : ℕ). let a : Answer = record { truth = answer m trees; instances = length rows; cut = cut_count reached; vertices = x } in a) vertices));
        few = few;
      }
