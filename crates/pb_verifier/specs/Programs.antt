-- The code of an equation as a program, in a module whose sorts have these counts of enumerators
-- and whose equations have parameters of these carriers.
use Rattle.std.specs.Prelude.{◌≡◌, ℕ, List, Some, slice_get}
use Rattle.pb_sorts.specs.declared.carrier.Carrier.{Carrier}
use Rattle.pb_bytecode_program.specs.Machine.{Program}
use Rattle.pb_bytecode.specs.declared.equation.Equation.{Equation}
use Rattle.pb_verifier.specs.Acceptance.{HasTable}
use Rattle.pb_verifier.specs.declared.visit.Names.{Names}

abbrev pub program_in : List ℕ → List (List Carrier) → Equation → Program
program_in sorts callees e = record {
  sorts = sorts;
  callees = callees;
  parameters = e.parameters.items;
  loops = e.loops.items;
  stated_steps = e.steps;
  stated_tokens = e.tokens;
  code = e.code.items;
}

-- the code of an equation as a program that has the names
abbrev pub program_with : Names → Equation → Program
program_with names e = program_in names.sorts.now names.callees.now e

-- the carriers of an equation's parameters
abbrev pub parameters_of : Equation → List Carrier
parameters_of e = e.parameters.items

-- the code of each equation is accepted
abbrev pub HaveTables : List ℕ → List (List Carrier) → List Equation → Type 0
HaveTables sorts callees equations =
    (k : ℕ) (e : Equation) → slice_get equations k ≡ Some e → HasTable (program_in sorts callees e)
