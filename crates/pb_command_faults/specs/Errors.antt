-- How the faults and errors of the layers become those of a call, and the line of a fault.
use Rattle.std.specs.Prelude.{ℕ, List, codes, Result, Ok, Err}
use Rattle.pb_base.specs.declared.or_memory.OrMemory.{OrMemory}
use Rattle.pb_base.specs.declared.or_memory.OrMemory.TheVariants as or_memory
use Rattle.pb_sorts.specs.declared.sink.E02 as sink
use Rattle.pb_model_faults.specs.declared.ModelFault.{ModelFault}
use Rattle.pb_model_faults.specs.declared.ModelFault.TheVariants as model_fault
use Rattle.pb_command_faults.specs.Lines as lines
use Rattle.pb_command_faults.specs.declared.fault.ProgramFault.TheVariants.{U01}
use Rattle.pb_command_faults.specs.declared.solve_fault.SolveFault.{SolveFault}
use Rattle.pb_command_faults.specs.declared.solve_fault.SolveFault.TheVariants as solve_fault
use Rattle.pb_command_faults.specs.declared.solve_error.SolveError.{SolveError}
use Rattle.pb_command_faults.specs.declared.solve_error.SolveError.TheVariants as solve_error

-- what is wrong with a model is wrong with the input
abbrev pub fault_of_model : ModelFault → SolveFault
fault_of_model (model_fault.Text fault) = solve_fault.Text fault
fault_of_model (model_fault.Typing fault) = solve_fault.Typing fault
fault_of_model model_fault.NoProperty = solve_fault.NoProperty

-- want of memory stays what it is, whichever layer met it, and of a fault there is the one above
abbrev pub joins_into : {F : Type 0} → (F → SolveFault → Type 0) → OrMemory F → SolveError → Type 0
joins_into gives (or_memory.Refused fault) (solve_error.Refused above) = gives fault above
joins_into gives or_memory.Memory solve_error.Memory = Unit {0}
joins_into gives error made = ⊥

abbrev pub write_failure : OrMemory sink.E02 → SolveError
write_failure (or_memory.Refused failed) = solve_error.Write failed
write_failure or_memory.Memory = solve_error.Memory

-- P holds of what is wrong with the input, if it is refused
abbrev pub IfInputFault : SolveError → (SolveFault → Type 0) → Type 0
IfInputFault (solve_error.Refused fault) P = P fault
IfInputFault error P = Unit {0}

abbrev pub IfInputRefused : {T : Type 0} → Result T SolveError → (SolveFault → Type 0) → Type 0
IfInputRefused (Ok answer) P = Unit {0}
IfInputRefused (Err error) P = IfInputFault error P

-- the line that tells of what is wrong with the input
abbrev pub fault_line : SolveFault → List ℕ
fault_line (solve_fault.Text fault) = lines.text_line fault
fault_line (solve_fault.Typing fault) = lines.typing_line fault
fault_line (solve_fault.Limit excess) = lines.limit_line excess
fault_line (solve_fault.Module fault) = lines.module_line fault
fault_line (solve_fault.Acceptance fault) = lines.code_line fault
fault_line solve_fault.TooManyVertices = codes "G01\n"
fault_line (solve_fault.Property fault) = lines.property_line fault
fault_line solve_fault.NoProperty = lines.line_of U01
