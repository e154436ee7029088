-- Parts of the instances from which a truth value may be shown.
use Rattle.std.specs.Prelude.{◌≡◌, ◌⊎◌, ℕ, Bool, true, List, map}
use Rattle.pb_fixpoint_trees.specs.Tree.{Tree}
use Rattle.pb_fixpoint_trees.specs.Equations.{Signature, solved}
use Rattle.pb_fixpoint_trees.specs.Rows.{Row, IsReached}
use Rattle.pb_sorts.specs.declared.counting.Counting.{Counting}
use Rattle.pb_bytecode.specs.Contents.{Contents}
use Rattle.pb_bytecode.specs.Meaning.{signature_of, initial_of}
use Rattle.pb_exploration_reached.specs.Nearby.{IsNearby}
use Rattle.pb_exploration_reached.specs.Rows.{AreExploredRows}
use Rattle.pb_game_of_trees.specs.declared.tree_game.TreeGame.{TreeGame}
use Rattle.pb_game_of_trees.specs.Explored.{ModuleHasTrees}
use Rattle.pb_game_of_trees.specs.TreeGame.{KeepsVertexLimit, IsGameOf, IsTreeGame}
use Rattle.pb_evidence_nearby.specs.Around.{AreAssumedRows}
use Rattle.pb_command_solver.specs.declared.part.Part.{Part}
use Rattle.pb_command_solver.specs.declared.part.Rounds.{Rounds}
use Rattle.pb_command_solver.specs.declared.part.Rounds.TheVariants.{Enough, TooFew}
use Rattle.pb_command_solver.specs.declared.part.SolvedPart.{SolvedPart}

-- The rows are those of a part, where instances whose trees are not known have the leaf that hasn't
-- the part's truth value; or all that are reached.
pub record IsPart (m : Contents) (p : Part) : Type 0 where
  pub assumed : AreAssumedRows m p.truth p.rows
  pub whole : p.is_whole ≡ true → AreExploredRows m p.rows

-- whichever reached instances' game it is, that is the truth of the initial one
abbrev pub IsTruthIn : TreeGame → Bool → Type 0
IsTruthIn built truth =
    (signatures : List Signature) (trees : ℕ → Tree) (reached : List Row) (initial : ℕ)
    → IsTreeGame signatures trees reached initial built → IsReached reached initial
    → truth ≡ solved signatures trees initial

-- the game is that of the part's rows; these are all that are reached, or the initial instance has
-- the part's truth value in it
pub record IsSolvedPart (m : Contents) (s : SolvedPart) : Type 0 where
  pub trees : ModuleHasTrees m
  pub part : IsPart m s.part
  pub game : IsGameOf (map signature_of m.equations) s.part.rows (initial_of m) s.solved.built
  pub enough : (s.part.is_whole ≡ true) ⊎ IsTruthIn s.solved.built s.part.truth

-- a part that is enough, whose game has no more vertices than it may have, or instances nearby that
-- none of the parts was larger than
abbrev pub IsOfRounds : Counting → Contents → Rounds → Type 0
IsOfRounds counting m (Enough s) = IsSolvedPart m s × KeepsVertexLimit counting s.solved.built
IsOfRounds counting m (TooFew nearby) = IsNearby m nearby
