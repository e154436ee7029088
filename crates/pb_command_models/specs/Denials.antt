-- The texts of negations, explained.
use Rattle.std.specs.Prelude.{◌≡◌, ⊤, ℕ, List, Some, Result, IfOk}
use Rattle.std.specs.List.{slice_get}
use Rattle.pb_base.specs.OrMemory.{IfRefused}
use Rattle.pb_base.specs.declared.or_memory.OrMemory.{OrMemory}
use Rattle.pb_protocol_tree.specs.Form as protocol_form
use Rattle.pb_protocol_tree.specs.Form.{ProtocolForm}
use Rattle.pb_model_properties.specs.Negations.{IsNegationOf}
use Rattle.pb_model_properties.specs.Said.{IsTheReading}
use Rattle.pb_command_faults.specs.declared.property_fault.PropertyExcess.{PropertyExcess}
use Rattle.pb_command_faults.specs.declared.property_fault.PropertyExcess.TheVariants as excess
use Rattle.pb_command_faults.specs.declared.solve_fault.SolveFault.{SolveFault}
use Rattle.pb_command_faults.specs.declared.solve_fault.SolveFault.TheVariants as solve_fault
use Rattle.pb_command_models.specs.declared.denial.Denial.{Denial}
use Rattle.pb_command_models.specs.Models.{IsTooLargeNegation, solved_form}
use Rattle.pb_command_models.specs.Outcomes.{IsExplainedIn}

-- a fault of the text of a property
abbrev pub IsFaultOfText : SolveFault → Type 0
IsFaultOfText (solve_fault.Typing fault) = ⊤
IsFaultOfText (solve_fault.Property fault) = ⊤
IsFaultOfText fault = ⊥

-- how a negation is refused by such a fault of its text
abbrev pub IsExcessOf : SolveFault → PropertyExcess → Type 0
IsExcessOf (solve_fault.Typing fault) e = e ≡ excess.NegationTyping fault.rule
IsExcessOf (solve_fault.Property fault) e = e ≡ fault.excess
IsExcessOf fault e = ⊥

-- the negation of the property at the place, of the protocol that the bytes say, is refused so
abbrev pub IsRefusedNegationAt : List ℕ → ℕ → PropertyExcess → Type 0
IsRefusedNegationAt bytes place excess =
    (protocol : ProtocolForm) → IsTheReading bytes protocol → (p : protocol_form.PropertyForm)
    → slice_get protocol.properties place ≡ Some p → IsTooLargeNegation protocol p excess

-- the text of that negation is explained
pub record IsDenial (bytes : List ℕ) (place : ℕ) (denial : Denial) : Type 0 where
  pub of : IsNegationOf bytes place denial.solved
  pub explained : IsExplainedIn (solved_form denial.solved) 0 denial.explained

-- The input keeps its bytes, and the text of the negation of the property at the place is
-- explained, or that is refused.
pub record ExplainsNegation (place : ℕ) (old new : List ℕ)
    (result : Result Denial (OrMemory PropertyExcess)) : Type 0 where
  pub same : new ≡ old
  pub explained : IfOk result (IsDenial old place)
  pub refused : IfRefused result (IsRefusedNegationAt old place)
