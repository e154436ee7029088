-- What is written of the size of a model, and what a fault says of it.
use Rattle.std.specs.Prelude.{ℕ, List, Option, Result}
use Rattle.pb_sorts.specs.declared.sink.Sink.{Ghosts}
use Rattle.pb_model_faults.specs.declared.ModelFault.TheVariants as model_fault
use Rattle.pb_model_sizes.specs.Refusals.{AreSizesOf, IsUnsized}
use Rattle.pb_command_faults.specs.declared.solve_error.SolveError.{SolveError}
use Rattle.pb_command_faults.specs.declared.solve_fault.SolveFault.{SolveFault}
use Rattle.pb_command_faults.specs.declared.solve_fault.SolveFault.TheVariants as solve_fault
use Rattle.pb_command_modules.specs.Delivery.{DeliversOrRefuses}

-- `size`: the bytes say no model, or one that breaks a rule or has no property of the name
abbrev pub IsUnsizedInput : Option (List ℕ) → List ℕ → SolveFault → Type 0
IsUnsizedInput name bytes (solve_fault.Text fault) = IsUnsized name bytes (model_fault.Text fault)
IsUnsizedInput name bytes (solve_fault.Typing fault) =
    IsUnsized name bytes (model_fault.Typing fault)
IsUnsizedInput name bytes solve_fault.NoProperty = IsUnsized name bytes model_fault.NoProperty
IsUnsizedInput name bytes fault = ⊥

-- the lines of the model go out, or it is refused
abbrev pub DeliversSizes : {S T : Type 0} → Option (List ℕ) → List ℕ → Result T SolveError →
    Ghosts S → (old new : S) → Type 0
DeliversSizes name bytes result sink old new =
    DeliversOrRefuses (AreSizesOf name bytes) (IsUnsizedInput name bytes) result sink old new
