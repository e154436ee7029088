-- The transfer function is monotone: what a verifier finds by one pass from the entry is the least
-- table, so that code without an accepted table is all that it refuses.
use Rattle.std.specs.Prelude.{◌≡◌, ℕ, List, Option, Some, None, ◌≤ℤ◌, Contains}
use Rattle.std.specs.List.{AllByRecursion}
use Rattle.pb_bytecode_program.specs.Machine.{Program}
use Rattle.pb_bytecode_program.specs.Transfer.{AbstractState, Edge, transfer}
use Rattle.pb_bytecode_program.specs.Accepted.{IsCovered}
use Rattle.pb_bytecode_program.specs.declared.instruction.Op.{Op}
use Rattle.pb_bytecode_program.specs.declared.instruction.Op.TheVariants as op

-- an instruction that tests for a range has one that isn't empty
abbrev pub HasOrderedRange : Op → Type 0
HasOrderedRange (op.InRange low high to) = low ≤ℤ high
HasOrderedRange (op.SlotInRange i low high to) = low ≤ℤ high
HasOrderedRange _ = Unit {0}

-- what is known at the innermost LOOP is covered, where there is one
abbrev pub IsCoveredAtLoop : Option AbstractState → Option AbstractState → Type 0
IsCoveredAtLoop (Some g) (Some h) = IsCovered g h
IsCoveredAtLoop None None = Unit {0}
IsCoveredAtLoop (Some g) None = ⊥
IsCoveredAtLoop None (Some h) = ⊥

-- one of the edges leads to the same place and covers what flows there
pub record IsCoveredEdge (edges : List Edge) (e : Edge) : Type 0 where
  pub edge : Edge
  pub among : Contains edges edge
  pub same_place : e.to ≡ edge.to
  pub covered : IsCovered e.state edge.state

-- where a rule is met with less known, it is met with more known, each edge being covered
abbrev pub TransferIsMonotone : Type 0
TransferIsMonotone =
    (p : Program) (g h : Option AbstractState) (q : ℕ) (i : Op) (k m : AbstractState)
    (edges : List Edge) →
    HasOrderedRange i → IsCoveredAtLoop g h → IsCovered k m → transfer p h q i m ≡ Some edges →
    (more : List Edge) × (transfer p g q i k ≡ Some more)
    × AllByRecursion (IsCoveredEdge edges) more
