use Rattle.std.proofs.Common.{◌≡◌, ℕ, ◌-◌, ◌<◌, ◌++◌, List, [], length}
use Rattle.pb_fixpoint_trees.specs.declared.Token.{Token}
use Rattle.pb_fixpoint_trees.specs.Tree.{Tree}
use Rattle.pb_fixpoint_trees.specs.Tokens.{tree_tokens}
use Rattle.pb_fixpoint_trees.specs.Game.{Vertex}
use Rattle.pb_game_of_trees.specs.Builder.{rest_at, opened, IsAt}
use Rattle.pb_game_of_trees.specs.Numbering.{numbered_vertex}
use Rattle.pb_game_of_trees.proofs.builder.Builder.put_tree.Given as goal

abbrev pub decreases-loop-tokens : goal.decreases-loop-tokens
decreases-loop-tokens l = length l.tokens

abbrev pub invariant-loop-tokens : goal.invariant-loop-tokens
invariant-loop-tokens l = record {
  some : 0 < length l.tokens;
  left : (taken : List Token) × (l.fn.tokens ≡ l.tokens ++ taken);
  read : (tree : Tree) (behind : List Vertex) (limit : ℕ) → l.fn.tokens ≡ tree_tokens tree →
      IsAt (numbered_vertex l.vertices) l.fn.self [] behind limit → IsAt (numbered_vertex l.vertices) l.self (rest_at (length l.tokens - 1) (opened tree)) behind limit;
}
