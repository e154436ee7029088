-- What a fault says of a module, and of the bytes of one.
use Rattle.std.specs.Prelude.{ℕ, List}
use Rattle.pb_sorts.specs.declared.counting.Counting.{Counting}
use Rattle.pb_bytecode.specs.Contents.{Contents}
use Rattle.pb_bytecode.specs.Decoded as decoded
use Rattle.pb_verifier.specs.Acceptance.{IsAccepted}
use Rattle.pb_command_solver.specs.Answers.{IsTooLarge}
use Rattle.pb_command_faults.specs.declared.solve_fault.SolveFault.{SolveFault}
use Rattle.pb_command_faults.specs.declared.solve_fault.SolveFault.TheVariants as solve_fault
use Rattle.pb_command_modules.specs.Answers.{IsModuleOfCode, Spell}

-- the bytes spell a module whose code is not accepted
abbrev pub IsUnaccepted : Counting → List ℕ → Type 0
IsUnaccepted counting bytes = (m : Contents) × Spell counting bytes m × (¬ IsAccepted m)

-- what a fault says of a verified module, by which instances count
abbrev pub IsRefusedModule : Counting → Contents → SolveFault → Type 0
IsRefusedModule counting m solve_fault.TooManyVertices = IsTooLarge counting m
IsRefusedModule counting m fault = ⊥

-- What a fault says of the bytes of each command, by which instances count against the limit. Where
-- it says ⊥ the command has no such fault.

-- `list`: reading the bytes as a module meets this fault first
abbrev pub IsUnlisted : Counting → List ℕ → SolveFault → Type 0
IsUnlisted counting bytes (solve_fault.Module fault) =
    decoded.IsFirstFieldFaultBy counting bytes fault
IsUnlisted counting bytes fault = ⊥

-- `verify`: they spell none, or one whose code is not accepted
abbrev pub IsUnverified : Counting → List ℕ → SolveFault → Type 0
IsUnverified counting bytes (solve_fault.Acceptance fault) = IsUnaccepted counting bytes
IsUnverified counting bytes fault = IsUnlisted counting bytes fault

-- `solve-code`: the module isn't verified, or has too large a game
abbrev pub IsRefusedBytes : Counting → List ℕ → SolveFault → Type 0
IsRefusedBytes counting bytes solve_fault.TooManyVertices =
    (m : Contents) × IsModuleOfCode counting bytes m × IsTooLarge counting m
IsRefusedBytes counting bytes fault = IsUnverified counting bytes fault
