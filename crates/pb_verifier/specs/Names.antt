-- What flows from an instruction, in each program that has the names, and the program of an
-- equation with the names of its module.
use Rattle.std.specs.Prelude.{◌≡◌, ℕ, None, Option, slice_set}
use Rattle.pb_bytecode_program.specs.declared.instruction.Op.{Op}
use Rattle.pb_bytecode_program.specs.Accepted.{Table, state_at}
use Rattle.pb_bytecode_program.specs.Machine.{Program}
use Rattle.pb_bytecode_program.specs.Transfer.{AbstractState}
use Rattle.pb_verifier.specs.declared.equation_in_module.EquationInModule.{EquationInModule}
use Rattle.pb_verifier.specs.declared.visit.Names.{Names}
use Rattle.pb_verifier.specs.Pass.{Homes, visited}
use Rattle.pb_verifier.specs.Programs.{program_with}

-- what is known at the place flows on, which gives this table, or none where it doesn't join
abbrev pub FlowsInto : Names → ℕ → Op → Option AbstractState → Table → Option Table → Type 0
FlowsInto names place i known old new = (p : Program) (homes : Homes) →
    p.sorts ≡ names.sorts.now → p.callees ≡ names.callees.now →
    visited p place i known homes old ≡ new

-- the same of what the table has at the place, where it doesn't stay
abbrev pub FlowsOn : Names → ℕ → Op → Table → Option Table → Type 0
FlowsOn names place i old new =
    FlowsInto names place i (state_at old place) (slice_set old place None) new

-- the code of an equation with the names of its module, as a program
abbrev pub program_in_module : EquationInModule → Program
program_in_module e = program_with e.names e.equation.now
