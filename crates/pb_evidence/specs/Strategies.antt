-- The graphs that a certificate's strategies give: an instance rests on those whose vertices its
-- winner's play comes to next, over vertices of brackets alone.
use Rattle.std.specs.Prelude.{◌≡◌, ◌≢◌, ℕ, Bool, true, false, List, [], ◌∷◌, Contains}
use Rattle.pb_fixpoint_trees.specs.declared.player.Player.TheVariants.{Even, Odd}
use Rattle.pb_fixpoint_trees.specs.declared.player.Player.{Player}
use Rattle.pb_game.specs.declared.Game.{Game}
use Rattle.pb_game.specs.Games.{priority_of}
use Rattle.pb_game.specs.declared.certificate.Solution.{Solution}
use Rattle.pb_game.specs.Solutions.{winner_of}
use Rattle.pb_game.specs.Certificates.{IsKept, IsCertificate}
use Rattle.pb_fixpoint_trees.specs.Tree.{Tree}
use Rattle.pb_fixpoint_trees.specs.Equations.{Signature}
use Rattle.pb_fixpoint_trees.specs.Game.{vertex_of}
use Rattle.pb_fixpoint_trees.specs.Rows.{Row, IsReached}
use Rattle.pb_strategy.specs.Meaning.{IsGameOfRows}
use Rattle.pb_evidence.specs.ProofGraphs.{Graph, RestsOn, IsProofGraph}
use Rattle.pb_evidence.specs.Supports.{RestsOnChoices}

-- the player who wants b: Even wants true, and Odd false
abbrev pub player_for : Bool → Player
player_for true = Even
player_for false = Odd

-- v has priority 0, and is no instance's: a bracket's, or the true sink, which leads to itself
pub record IsInner (g : Game) (rows : List Row) (v : ℕ) : Type 0 where
  pub priority : priority_of g v ≡ 0
  pub bracket : (n : ℕ) → IsReached rows n → vertex_of rows n ≢ v

-- kept edges lead from v over these vertices, each of which is Inner, to u
abbrev pub IsKeptPath : Game → Solution → (ℕ → Type 0) → ℕ → List ℕ → ℕ → Type 0
IsKeptPath g s Inner v [] u = IsKept g s v u
IsKeptPath g s Inner v (x ∷ xs) u = IsKept g s v x × Inner x × IsKeptPath g s Inner x xs u

-- the play from n's vertex can come to m's before it comes to another instance's
abbrev pub ComesTo : Game → Solution → List Row → ℕ → ℕ → Type 0
ComesTo g s rows n m =
    (over : List ℕ) × IsKeptPath g s (IsInner g rows) (vertex_of rows n) over (vertex_of rows m)

-- instances whose vertices the player wins, each with those that the play comes to next
pub record IsStrategyGraph (g : Game) (s : Solution) (rows : List Row) (player : Player)
    (graph : Graph) : Type 0 where
  pub reached : (n : ℕ) → Contains graph.instances n → IsReached rows n
  pub won : (n : ℕ) → Contains graph.instances n → winner_of s (vertex_of rows n) ≡ player
  pub closed : (n m : ℕ) → RestsOn graph n m → Contains graph.instances m
  pub some : (n m : ℕ) → RestsOn graph n m → ComesTo g s rows n m
  pub all : (n m : ℕ) → Contains graph.instances n → IsReached rows m → ComesTo g s rows n m
      → Contains (graph.dependencies n) m

-- such a graph is a proof graph for the truth value that its player wants
abbrev pub StrategiesProve : Type 0
StrategiesProve =
    (g : Game) (s : Solution) → IsCertificate g s →
    (signatures : List Signature) (trees : ℕ → Tree) (rows : List Row) →
    IsGameOfRows signatures trees rows g →
    (b : Bool) (graph : Graph) → IsStrategyGraph g s rows (player_for b) graph
    → IsProofGraph signatures trees b graph

-- and in it each instance rests on what one choice through its tree names: the winner's strategy
abbrev pub StrategiesChoose : Type 0
StrategiesChoose =
    (g : Game) (s : Solution) → IsCertificate g s →
    (signatures : List Signature) (trees : ℕ → Tree) (rows : List Row) →
    IsGameOfRows signatures trees rows g →
    (b : Bool) (graph : Graph) → IsStrategyGraph g s rows (player_for b) graph
    → RestsOnChoices trees b graph
