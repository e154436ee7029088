-- What the answer to a module is. The trees that its instances have are determined by the module,
-- and there are such trees (`meaning_is_unique` and `instances_have_trees` of pb_machine); a fact
-- about them is said of whichever trees they have. What is made of a module says that it has trees.
use Rattle.std.specs.Prelude.{◌≡◌, ⊤, ℕ, Bool, ◌<◌, ◌≤◌, List, Option, Some, None}
use Rattle.pb_fixpoint_trees.specs.Tree.{Tree}
use Rattle.pb_fixpoint_trees.specs.Row.{TokenRow}
use Rattle.pb_sorts.specs.declared.counting.Counting.{Counting}
use Rattle.pb_bytecode.specs.Contents.{Contents}
use Rattle.pb_bytecode.specs.Meaning.{AreTrees, answer}
use Rattle.pb_exploration_reached.specs.ManyReached.{HasManyReached}
use Rattle.pb_exploration_reached.specs.Rows.{AreReached, AreExploredRows}
use Rattle.pb_game.specs.declared.solver.Solver.{Solver}
use Rattle.pb_game_of_trees.specs.Explored.{ModuleHasTrees, IsModuleGame}
use Rattle.pb_game_of_trees.specs.TreeGame.{KeepsVertexLimit}
use Rattle.pb_game_of_trees.specs.VertexLimit.{vertex_limit}
use Rattle.pb_game_of_trees.specs.declared.tree_game.TooManyVertices.{TooManyVertices}
use Rattle.pb_report.specs.declared.answer.Answer.{Answer}
use Rattle.pb_report.specs.ModuleTexts.{answer_for}
use Rattle.pb_command_solver.specs.Solving.{IsSolutionBy}
use Rattle.pb_command_solver.specs.declared.built_module.BuiltModule.{BuiltModule}
use Rattle.pb_command_solver.specs.declared.early.Early.{Early}
use Rattle.pb_command_solver.specs.declared.early.Early.TheVariants.{Unknown, Shown, Whole}
use Rattle.pb_command_solver.specs.declared.solved_module.SolvedModule.{SolvedModule}
use Rattle.pb_base.specs.OrMemory.{IfFault}
use Rattle.pb_base.specs.declared.or_memory.OrMemory.{OrMemory}

-- the truth of the initial instance in the solution of the module's equations
abbrev pub IsTruthOf : Contents → Bool → Type 0
IsTruthOf m truth = (trees : ℕ → Tree) → AreTrees m trees → truth ≡ answer m trees

-- The truth of the initial instance in the solution of the module's equations, and the counts of
-- its reached instances, of those whose tree has a Cut, and of their game's vertices, which are at
-- most as many as a game may have, by which instances count.
pub record IsAnswerUnder (counting : Counting) (m : Contents) (trees : ℕ → Tree) (a : Answer)
    : Type 0 where
  pub rows : List TokenRow
  pub reached : AreReached m trees rows
  pub exact : a ≡ answer_for m trees rows
  pub few : a.vertices ≤ vertex_limit counting

abbrev pub IsAnswerOf : Counting → Contents → Answer → Type 0
IsAnswerOf counting m a =
    (trees : ℕ → Tree) → AreTrees m trees → IsAnswerUnder counting m trees a

-- what is told by the nearest instances: nothing, that truth, or the answer
abbrev pub IsEarly : Counting → Contents → Early → Type 0
IsEarly counting m Unknown = ⊤
IsEarly counting m (Shown truth) = IsTruthOf m truth
IsEarly counting m (Whole answer) = IsAnswerOf counting m answer

-- the truth of the initial instance, where it is told
abbrev pub truth_in : Early → Option Bool
truth_in Unknown = None
truth_in (Shown truth) = Some truth
truth_in (Whole answer) = Some answer.truth

-- the game of the reached instances has more vertices than it may have
pub record HasLargeGameUnder (counting : Counting) (m : Contents) (trees : ℕ → Tree) : Type 0 where
  pub rows : List TokenRow
  pub reached : AreReached m trees rows
  pub large : vertex_limit counting < (answer_for m trees rows).vertices

-- More instances are reached than a game may have vertices, or the vertices of their game are more
-- than that. An instance has at least one vertex there.
pub data IsTooLarge (counting : Counting) (m : Contents) : Type 0 where
  ManyReached : HasManyReached m (vertex_limit counting) → IsTooLarge counting m
  LargeGame : ((trees : ℕ → Tree) → AreTrees m trees → HasLargeGameUnder counting m trees)
      → IsTooLarge counting m

-- what an error says of the module: of want of memory nothing, and of a fault that it is too large
abbrev pub SaysTooLarge : Counting → Contents → OrMemory TooManyVertices → Type 0
SaysTooLarge counting m error = IfFault error (λ _. IsTooLarge counting m)

-- the rows are the module's reached instances, and the game is that of these, with no more vertices
-- than it may have
pub record IsBuiltModule (counting : Counting) (m : Contents) (b : BuiltModule) : Type 0 where
  pub trees : ModuleHasTrees m
  pub explored : AreExploredRows m b.explored
  pub game : IsModuleGame m b.explored b.built
  pub few : KeepsVertexLimit counting b.built

-- the same, where the game is solved by the solver that is asked for
pub record IsSolutionOf (counting : Counting) (m : Contents) (solver : Solver) (s : SolvedModule)
    : Type 0 where
  pub trees : ModuleHasTrees m
  pub explored : AreExploredRows m s.explored
  pub game : IsModuleGame m s.explored s.solved.built
  pub few : KeepsVertexLimit counting s.solved.built
  pub winners : IsSolutionBy solver s.solved.built.game s.solved.certified
