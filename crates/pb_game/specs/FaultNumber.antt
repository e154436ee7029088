-- The numbers by which a user sees why parts make no game.
use Rattle.std.specs.Prelude.{ℕ, List, codes}
use Rattle.pb_game.specs.declared.parts.GameFault.{GameFault}
use Rattle.pb_game.specs.declared.parts.GameFault.TheVariants as fault

abbrev pub fault_number : GameFault → List ℕ
fault_number fault.TooManyVertices = codes "G01"
fault_number fault.Priorities = codes "G03"
fault_number fault.Places = codes "G04"
fault_number fault.Successors = codes "G05"
fault_number fault.TooManyPriorities = codes "G06"
