-- The cycles of a proof graph in the words of games.
use Rattle.std.specs.Prelude.{◌≡◌, ℕ, ◌%◌, Bool, List, ◌∷◌, map}
use Rattle.pb_fixpoint_trees.specs.Players.{parity_of}
use Rattle.pb_game.specs.Adjacency.{greatest_of}
use Rattle.pb_fixpoint_trees.specs.Tree.{Tree}
use Rattle.pb_fixpoint_trees.specs.Equations.{Signature}
use Rattle.pb_fixpoint_trees.specs.Game.{priority_from}
use Rattle.pb_evidence.specs.ProofGraphs.{Graph, RestsThrough, IsProofGraph}
use Rattle.pb_evidence.specs.Strategies.{player_for}

-- the greatest priority of these instances
abbrev pub dominating_priority : List Signature → List ℕ → ℕ
dominating_priority signatures instances = greatest_of (map (priority_from 0 signatures) instances)

-- around each cycle of a proof graph for b the greatest priority is won by the player who wants b
abbrev pub PrioritiesSupport : Type 0
PrioritiesSupport =
    (signatures : List Signature) (trees : ℕ → Tree) (b : Bool) (graph : Graph) →
    IsProofGraph signatures trees b graph →
    (n : ℕ) (over : List ℕ) → RestsThrough graph n over n
    → dominating_priority signatures (n ∷ over) % 2 ≡ parity_of (player_for b)
