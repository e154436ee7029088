-- How many vertices a game may have (G01), by which instances count.
use Rattle.std.specs.Prelude.{ℕ}
use Rattle.pb_base.specs.declared.limits.TheConstants.{MAX_VERTICES}
use Rattle.pb_game.specs.declared.limits.TheConstants.{MAX_GAME_VERTICES}
use Rattle.pb_sorts.specs.declared.counting.Counting.{Counting}
use Rattle.pb_sorts.specs.declared.counting.Counting.TheVariants.{Declared, Reached}

abbrev pub vertex_limit : Counting → ℕ
vertex_limit Declared = MAX_VERTICES
vertex_limit Reached = MAX_GAME_VERTICES
