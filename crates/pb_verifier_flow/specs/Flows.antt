-- What control does at an instruction, wherever it stands.
use Rattle.std.specs.Prelude.{◌≡◌, ℕ, Option, Some, None}
use Rattle.pb_bytecode_program.specs.Machine.{Program}
use Rattle.pb_bytecode_program.specs.Transfer.{AbstractState, transfer, to_next_place}
use Rattle.pb_verifier_flow.specs.Edges.{edges_of}
use Rattle.pb_bytecode_program.specs.declared.instruction.Op.{Op}
use Rattle.pb_bytecode_program.specs.declared.instruction.Op.TheVariants as op

-- control goes on to the next place alone, with the second state
abbrev pub GoesOn : Op → AbstractState → AbstractState → Type 0
GoesOn i k next =
    (p : Program) (home : Option AbstractState) (q : ℕ)
    → transfer p home q i k ≡ to_next_place q next

-- the instruction's rule fails
abbrev pub Fails : Op → AbstractState → Type 0
Fails i k = (p : Program) (home : Option AbstractState) (q : ℕ) → transfer p home q i k ≡ None

-- control flows to the next place and to the target, or to one of them, with these states
abbrev pub FlowsTo : Op → AbstractState → Option AbstractState → Option (ℕ × AbstractState) → Type 0
FlowsTo i k next jump =
    (p : Program) (home : Option AbstractState) (q : ℕ)
    → transfer p home q i k ≡ Some (edges_of q next jump)

-- control goes on from such an instruction to the next place alone
abbrev pub GoesOnAlone : Op → Type 0
GoesOnAlone op.End = ⊥
GoesOnAlone (op.Jump to) = ⊥
GoesOnAlone (op.JumpIf on to) = ⊥
GoesOnAlone (op.InRange low high to) = ⊥
GoesOnAlone (op.SlotInRange i low high to) = ⊥
GoesOnAlone (op.Loop i) = ⊥
GoesOnAlone op.Next = ⊥
GoesOnAlone _ = Unit {0}
