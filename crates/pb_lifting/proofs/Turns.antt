-- The tables of both players, in turn.
use Rattle.std.proofs.Common.{◌≡◌, ◌∙◌, refl, ap, sym, subst}
use Rattle.pb_fixpoint_trees.specs.Players.{opponent_of}
use Rattle.pb_fixpoint_trees.specs.declared.player.Player.{Player}
use Rattle.pb_fixpoint_trees.specs.declared.player.Player.TheVariants.{Even, Odd}
use Rattle.pb_game.specs.declared.Game.{Game}
use Rattle.pb_lifting.specs.declared.lifting.InTurn.{InTurn}
use Rattle.pb_lifting.specs.Turns.{IsOpenFor, AreInTurn}

twice : (player : Player) → opponent_of (opponent_of player) ≡ player
twice Even = refl
twice Odd = refl

-- the tables of a player and of its opponent are those of the opponent and of its own
pub other_first : (g : Game) (t : InTurn) (other : Player) → other ≡ opponent_of t.player → AreInTurn g t → AreInTurn g (record { player = other; first = t.second; second = t.first })
other_first g t other is both = record {
  first = subst (λ p. IsOpenFor g p t.second) (sym is) both.second;
  second = subst (λ p. IsOpenFor g p t.first) (sym (ap opponent_of is ∙ twice t.player)) both.first;
}
