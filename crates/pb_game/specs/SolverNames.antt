-- The words by which a user asks for a solver.
use Rattle.std.specs.Prelude.{ℕ, List, codes}
use Rattle.pb_game.specs.declared.solver.Solver.{Solver}
use Rattle.pb_game.specs.declared.solver.Solver.TheVariants.{Zielonka, Lift}

abbrev pub solver_name : Solver → List ℕ
solver_name Zielonka = codes "zielonka"
solver_name Lift = codes "lift"
