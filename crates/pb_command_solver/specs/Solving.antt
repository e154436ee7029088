-- What a solver answers, whichever is asked for.
use Rattle.std.specs.Prelude.{◌≡◌}
use Rattle.pb_game.specs.declared.Game.{Game}
use Rattle.pb_game.specs.declared.solver.Solver.{Solver}
use Rattle.pb_game.specs.declared.solver.Solver.TheVariants.{Lift}
use Rattle.pb_game.specs.declared.certificate.Solution.{Solution}
use Rattle.pb_game.specs.Certificates.{IsCertificate}
use Rattle.pb_game_of_trees.specs.declared.tree_game.TreeGame.{TreeGame}
use Rattle.pb_game_of_trees.specs.declared.solved.Solved.{Solved}
use Rattle.pb_command_solver.specs.Lifting.{IsLiftedOrNone}
use Rattle.pb_command_solver.specs.Winners.{NamesTheWinners}

-- a certificate of the game, with the winners on which all agree; of lifting, its own if it has one
pub record IsSolutionBy (solver : Solver) (g : Game) (s : Solution) : Type 0 where
  pub certificate : IsCertificate g s
  pub winners : NamesTheWinners g s
  pub lifted : solver ≡ Lift → IsLiftedOrNone g s

-- the game that is given, with winners by the solver that is asked for
pub record IsSolvedBy (solver : Solver) (given : TreeGame) (s : Solved) : Type 0 where
  pub built : s.built ≡ given
  pub winners : IsSolutionBy solver s.built.game s.certified
