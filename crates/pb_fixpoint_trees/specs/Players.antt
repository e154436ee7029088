-- The two players of a parity game, by the parity of the priorities that they win with (Zielonka
-- 1998).
use Rattle.std.specs.Prelude.{ℕ, Bool, true, false}
use Rattle.pb_fixpoint_trees.specs.declared.player.Player.{Player}
use Rattle.pb_fixpoint_trees.specs.declared.player.Player.TheVariants.{Even, Odd}

-- the parity of the priorities that a player wins with; in print it stands for the player
abbrev pub parity_of : Player → ℕ
parity_of Even = 0
parity_of Odd = 1

abbrev pub opponent_of : Player → Player
opponent_of Even = Odd
opponent_of Odd = Even

abbrev pub is_even : Player → Bool
is_even Even = true
is_even Odd = false

-- whether they are one player
abbrev pub is_same : Player → Player → Bool
is_same Even Even = true
is_same Even Odd = false
is_same Odd Even = false
is_same Odd Odd = true
