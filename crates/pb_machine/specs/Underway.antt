-- A run that is under way, and what keeps it so.
use Rattle.std.specs.Prelude.{◌≡◌, ℕ, ◌≤◌, Bool, true, false, List, length}
use Rattle.pb_fixpoint_trees.specs.declared.Token.{Token}
use Rattle.pb_bytecode_program.specs.Machine as tagged
use Rattle.pb_bytecode_program.specs.Machine.{Program, State, Ends}
use Rattle.pb_bytecode_program.specs.declared.instruction.Op.{Op}
use Rattle.pb_machine.specs.declared.machine.Machine.{Machine}
use Rattle.pb_machine.specs.declared.registers.Registers.{Registers}
use Rattle.pb_machine.specs.Mirror.{Mirrors}

-- the machine mirrors a state of the program, which has this code, from which the run ends within n
-- more steps with these tokens, no more than the program states
pub record IsUnderway (p : Program) (code : List Op) (m : Machine) (r : Registers) (n : ℕ)
    (tokens : List Token) : Type 0 where
  pub same_code : p.code ≡ code
  pub few : length tokens ≤ p.stated_tokens
  pub state : State
  pub mirrors : Mirrors p m r state
  pub ends : tagged.run p n state ≡ Ends tokens

-- some run is under way
pub record IsRunning (code : List Op) (m : Machine) (r : Registers) : Type 0 where
  pub program : Program
  pub steps : ℕ
  pub tokens : List Token
  pub underway : IsUnderway program code m r steps tokens

-- each run that is under way before is under way to the same end after
abbrev pub StaysUnderway : List Op → Machine → Registers → Machine → Registers → Type 0
StaysUnderway code old before new after =
    (p : Program) (n : ℕ) (tokens : List Token) → IsUnderway p code old before n tokens
    → IsUnderway p code new after n tokens

-- the run is under way, or it has ended
abbrev pub IsUnderwayOrEnded : Program → List Op → Machine → Registers → ℕ → List Token → Bool
    → Type 0
IsUnderwayOrEnded p code m r n tokens true = IsUnderway p code m r n tokens
IsUnderwayOrEnded p code m r n tokens false = m.output.items ≡ tokens
