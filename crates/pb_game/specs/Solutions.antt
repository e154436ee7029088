-- Solutions of a parity game: a winner, a positional strategy and a progress measure (Jurdzinski
-- 2000) for each vertex.
use Rattle.std.specs.Prelude.{◌≡◌, ℕ, ◌+◌, ◌*◌, length, slice_index, slice_index_or}
use Rattle.pb_game.specs.declared.Game.{Game}
use Rattle.pb_game.specs.Games.{vertex_count, priority_count}
use Rattle.pb_fixpoint_trees.specs.declared.player.Player.{Player}
use Rattle.pb_fixpoint_trees.specs.declared.player.Player.TheVariants.{Even}
use Rattle.pb_game.specs.declared.certificate.Solution.{Solution}

-- who wins v
unfoldable pub winner_of : Solution → ℕ → Player
winner_of s v = slice_index_or s.winner.items v Even

-- the winner's choice at v, where the winner moves
unfoldable pub choice_of : Solution → ℕ → ℕ
choice_of s v = slice_index s.choice.items v

-- v's count at a priority; each vertex has one for each priority from 0 to the greatest
unfoldable pub count_of : Game → Solution → ℕ → ℕ → ℕ
count_of g s v priority = slice_index s.counts.items (v * priority_count g + priority)

-- one winner and one choice for each vertex, and one count for each vertex and priority
pub record HasLengths (g : Game) (s : Solution) : Type 0 where
  pub winner : length s.winner.items ≡ vertex_count g
  pub choice : length s.choice.items ≡ vertex_count g
  pub counts : length s.counts.items ≡ vertex_count g * priority_count g
