-- How great the numbers of a solution are.
use Rattle.std.specs.Prelude.{ℕ, ◌*◌}
use Rattle.pb_game.specs.declared.limits.TheConstants.{MAX_GAME_VERTICES}

-- no attractor has more rounds
abbrev pub most_rounds : ℕ
most_rounds = 2 * MAX_GAME_VERTICES

-- no count is greater: a level's opponent has no more attractors than the game has vertices
abbrev pub greatest_count : ℕ
greatest_count = most_rounds * MAX_GAME_VERTICES
