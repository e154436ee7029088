-- What holds of a solution where there is one.
use Rattle.std.proofs.Common.{◌≡◌, Result, Ok, Err, IfOk, inr}
use Rattle.pb_game.specs.declared.Game.{Game}
use Rattle.pb_game.specs.declared.solver.Solver.{Solver}
use Rattle.pb_game.specs.declared.solver.Solver.TheVariants.{Lift}
use Rattle.pb_game.specs.declared.certificate.Solution.{Solution}
use Rattle.pb_game.specs.Certificates.{IsCertificate}
use Rattle.pb_lifting.proofs.Winners.{same_winner}
use Rattle.pb_command_solver.specs.Lifting.{IsLiftedOrNone, LiftingHasNone}
use Rattle.pb_command_solver.specs.Solving.{IsSolutionBy}

-- a certificate names the winners
pub solution_by : (solver : Solver) (g : Game) (s : Solution) → IsCertificate g s → (solver ≡ Lift → IsLiftedOrNone g s) → IsSolutionBy solver g s
solution_by solver g s certified lifted = record {
  certificate = certified;
  winners = λ t h v within. same_winner g s t certified h v within;
  lifted = lifted;
}

-- where lifting isn't asked for or has none, any certificate may stand
pub certified_by : {E : Type 0} (solver : Solver) (g : Game) → (solver ≡ Lift → LiftingHasNone g) → (r : Result Solution E) → IfOk r (λ s. IsCertificate g s)
    → IfOk r (IsSolutionBy solver g)
certified_by solver g none (Ok s) certified = solution_by solver g s certified (λ asked. inr (none asked))
certified_by solver g none (Err e) certified = certified
