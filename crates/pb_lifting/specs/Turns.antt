-- The tables of both players, which are lifted in turn.
use Rattle.pb_fixpoint_trees.specs.Players.{opponent_of}
use Rattle.pb_fixpoint_trees.specs.declared.player.Player.{Player}
use Rattle.pb_game.specs.declared.Game.{Game}
use Rattle.pb_lifting.specs.declared.measured.Measured.{Measured}
use Rattle.pb_lifting.specs.declared.open_table.OpenTable.{OpenTable}
use Rattle.pb_lifting.specs.declared.open_table.Job.{Job}
use Rattle.pb_lifting.specs.declared.open_table.Job.TheVariants.{Lift, Concede}
use Rattle.pb_lifting.specs.declared.lifting.InTurn.{InTurn}
use Rattle.pb_lifting.specs.declared.lifting.Measures.{Measures}
use Rattle.pb_lifting.specs.Measures.{IsMeasure, IsLeastMeasure}
use Rattle.pb_lifting.specs.Seats.{IsTableOf, AreLiftSeats}
use Rattle.pb_lifting.specs.Solutions.{AreMeasured}
use Rattle.pb_fixpoint_trees.specs.declared.player.Player.TheVariants.{Even, Odd}

-- the table is laid for this game and this player, and these are its seats
pub record IsOpenFor (g : Game) (player : Player) (t : OpenTable) : Type 0 where
  pub table : IsTableOf g player t.ranks
  pub seats : AreLiftSeats t.ranks t.seats.items

-- a measure of the player's opponent
pub record IsOpponents (g : Game) (player : Player) (m : Measured) : Type 0 where
  pub measured : AreMeasured g (opponent_of player) m
  pub measure : IsMeasure g (opponent_of player) m.words.items

-- a job for a player's table: what a worker concedes there is by a measure of the opponent
abbrev pub IsJobAt : Game → Player → Job → Type 0
IsJobAt g player (Lift turn) = Unit {0}
IsJobAt g player (Concede m) = IsOpponents g player m.now

-- the two tables are those of a player and of its opponent
pub record AreInTurn (g : Game) (t : InTurn) : Type 0 where
  pub first : IsOpenFor g t.player t.first
  pub second : IsOpenFor g (opponent_of t.player) t.second

-- a player's least measure
pub record IsLeastMeasured (g : Game) (player : Player) (m : Measured) : Type 0 where
  pub measured : AreMeasured g player m
  pub least : IsLeastMeasure g player m.words.items

-- the least measures of both players
pub record AreLeastMeasured (g : Game) (m : Measures) : Type 0 where
  pub even : IsLeastMeasured g Even m.even
  pub odd : IsLeastMeasured g Odd m.odd
