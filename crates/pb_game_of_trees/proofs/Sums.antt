-- The numbers of edges from each vertex on.
use Rattle.std.proofs.Common.{◌≡◌, ℕ, zero, suc, ◌+◌, ◌<◌, ◌≤◌, List, [], ◌∷◌, ◌++◌, length, get_or, length-append, arith}
use Rattle.pb_fixpoint_trees.specs.Game.{Vertex}
use Rattle.pb_game_of_trees.specs.Draft.{all_successors, edge_sums}

pub edge_sums-le : (vs : List Vertex) (k d : ℕ) → k < length (edge_sums vs) → get_or (edge_sums vs) k d ≤ length (all_successors vs)
edge_sums-le [] zero d l = omega arith
edge_sums-le [] (suc k) d l = absurd (omega arith)
edge_sums-le (x ∷ vs) zero d l = omega arith
edge_sums-le (x ∷ vs) (suc k) d l =
    let later = edge_sums-le vs k d (omega arith) in
    let all : length (x.successors ++ all_successors vs) ≡ length x.successors + length (all_successors vs) = length-append x.successors (all_successors vs) in
    omega arith
