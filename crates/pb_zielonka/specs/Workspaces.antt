-- The workspace, the list and the solution between two attractors.
use Rattle.std.specs.Prelude.{◌≡◌, ℕ, ◌≤◌, List, length, take, IsPermutation}
use Rattle.pb_game.specs.declared.Game.{Game}
use Rattle.pb_game.specs.Games.{vertex_count}
use Rattle.pb_game.specs.declared.certificate.Solution.{Solution}
use Rattle.pb_game.specs.Solutions.{HasLengths}
use Rattle.pb_zielonka.specs.declared.scopes.Turn.{Turn}
use Rattle.pb_zielonka.specs.declared.scopes.Workspace.{Workspace}
use Rattle.pb_zielonka.specs.Regions.{IsSubgame, ListsRegion}
use Rattle.pb_zielonka.specs.Attractors.{IsBlank}
use Rattle.pb_zielonka.specs.Kept.{AreWonOn}

-- An attractor can be looked for and written: the region is a subgame and listed, none is under
-- way, and the marks of what is kept and the solution have the game's lengths.
pub record IsReadyToAttract (g : Game) (space : Workspace) (list : List ℕ)
    (s : Solution) : Type 0 where
  pub subgame : IsSubgame g space.region.items
  pub listed : ListsRegion space.region.items list
  pub blank : IsBlank (vertex_count g) space.attractor
  pub sized : length space.kept.items ≡ vertex_count g
  pub lengths : HasLengths g s

-- A turn can be played: besides, its player has won what is kept of the region.
pub record IsReadyForTurn (turn : Turn) (space : Workspace) (list : List ℕ)
    (s : Solution) : Type 0 where
  pub ready : IsReadyToAttract turn.game.now space list s
  pub won : AreWonOn turn.game.now space.region.items space.kept.items s turn.player turn.top

-- after an attractor: what it left stands first in the list, and is ready for the next one
pub record LeavesFirst (g : Game) (before : List ℕ) (space : Workspace) (list : List ℕ) (left : ℕ)
    (s : Solution) : Type 0 where
  pub permuted : IsPermutation before list
  pub within : left ≤ length list
  pub ready : IsReadyToAttract g space (take left list) s

-- after a whole turn or level: the region is as before, and listed in another order at most
pub record IsReadyAgain (g : Game) (old : Workspace) (before : List ℕ) (new : Workspace)
    (list : List ℕ) (s : Solution) : Type 0 where
  pub region : new.region.items ≡ old.region.items
  pub permuted : IsPermutation before list
  pub ready : IsReadyToAttract g new list s
