-- When lifting answers.
use Rattle.std.specs.Prelude.{◌⊎◌}
use Rattle.pb_game.specs.declared.Game.{Game}
use Rattle.pb_game.specs.declared.certificate.Solution.{Solution}
use Rattle.pb_game.specs.Certificates.{IsCertificate}
use Rattle.pb_lifting.specs.Measures.{SomeHasTooManyRanks}
use Rattle.pb_lifting.specs.Solutions.{IsLiftedSolution}

-- a solution by the least measures, which the checker refuses
abbrev pub IsRefusedSolution : Game → Type 0
IsRefusedSolution g = (t : Solution) × IsLiftedSolution g t × ¬ IsCertificate g t

-- lifting has no answer: for a player the ranks are more than a word has, or the checker refuses
abbrev pub LiftingHasNone : Game → Type 0
LiftingHasNone g = SomeHasTooManyRanks g ⊎ IsRefusedSolution g

-- the solution is that of the least measures, unless lifting has none
abbrev pub IsLiftedOrNone : Game → Solution → Type 0
IsLiftedOrNone g s = IsLiftedSolution g s ⊎ LiftingHasNone g
