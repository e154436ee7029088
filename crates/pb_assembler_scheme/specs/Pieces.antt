-- Structured code, whose jumps have no targets yet, and the instructions that it stands for.
use Rattle.std.specs.Prelude.{◌≡◌, ℕ, ◌+◌, Bool, List, [], ◌∷◌, ◌++◌, Some, ℤ}
use Rattle.std.specs.List.{slice_get}
use Rattle.pb_bytecode_program.specs.declared.instruction.Op.{Op}
use Rattle.pb_bytecode_program.specs.declared.instruction.Op.TheVariants as op

-- Unless is passed over where the operand on top is the given truth. Choose runs its second part
-- there, and its first part otherwise. Repeat runs its part for each value of a slot. Leave jumps
-- to the end of the block around. Guard is passed over where the number on top lies outside low to
-- high; either way its end takes an operand off.
pub data Piece : Type 0 where
  Empty : Piece
  Plain : Op → Piece
  Then : Piece → Piece → Piece
  Unless : Bool → Piece → Piece
  Choose : Bool → Piece → Piece → Piece
  Repeat : (slot : ℕ) → Piece → Piece
  Block : Piece → Piece
  Leave : Piece
  Guard : (low high : ℤ) → Piece → Piece

-- the place after a piece that begins at place q
abbrev pub end : ℕ → Piece → ℕ
end q Empty = q
end q (Plain i) = q + 1
end q (Then a b) = end (end q a) b
end q (Unless on a) = end (q + 1) a
end q (Choose on a b) = end (end (q + 1) a + 1) b
end q (Repeat s a) = end (q + 1) a + 1
end q (Block a) = end q a
end q Leave = q + 1
end q (Guard low high a) = end (q + 1) a + 1

-- the instructions of a piece that begins at place q, in a block that ends at place e
abbrev pub flat : ℕ → ℕ → Piece → List Op
flat q e Empty = []
flat q e (Plain i) = i ∷ []
flat q e (Then a b) = flat q e a ++ flat (end q a) e b
flat q e (Unless on a) = op.JumpIf on (end (q + 1) a) ∷ flat (q + 1) e a
flat q e (Choose on a b) =
    op.JumpIf on (end (q + 1) a + 1)
    ∷ (flat (q + 1) e a ++ op.Jump (end (end (q + 1) a + 1) b) ∷ flat (end (q + 1) a + 1) e b)
flat q e (Repeat s a) = op.Loop s ∷ (flat (q + 1) e a ++ op.Next ∷ [])
flat q e (Block a) = flat q (end q a) a
flat q e Leave = op.Jump e ∷ []
flat q e (Guard low high a) =
    op.InRange low high (end (q + 1) a) ∷ (flat (q + 1) e a ++ op.Pop ∷ [])

-- the instructions of a piece that begins at place q stand in the code
abbrev pub HasPieceAt : List Op → ℕ → ℕ → Piece → Type 0
HasPieceAt code q e Empty = Unit {0}
HasPieceAt code q e (Plain i) = slice_get code q ≡ Some i
HasPieceAt code q e (Then a b) = HasPieceAt code q e a × HasPieceAt code (end q a) e b
HasPieceAt code q e (Unless on a) =
    (slice_get code q ≡ Some (op.JumpIf on (end (q + 1) a))) × HasPieceAt code (q + 1) e a
HasPieceAt code q e (Choose on a b) =
    (slice_get code q ≡ Some (op.JumpIf on (end (q + 1) a + 1)))
    × HasPieceAt code (q + 1) e a
    × (slice_get code (end (q + 1) a) ≡ Some (op.Jump (end (end (q + 1) a + 1) b)))
    × HasPieceAt code (end (q + 1) a + 1) e b
HasPieceAt code q e (Repeat s a) =
    (slice_get code q ≡ Some (op.Loop s))
    × HasPieceAt code (q + 1) e a
    × (slice_get code (end (q + 1) a) ≡ Some op.Next)
HasPieceAt code q e (Block a) = HasPieceAt code q (end q a) a
HasPieceAt code q e Leave = slice_get code q ≡ Some (op.Jump e)
HasPieceAt code q e (Guard low high a) =
    (slice_get code q ≡ Some (op.InRange low high (end (q + 1) a)))
    × HasPieceAt code (q + 1) e a
    × (slice_get code (end (q + 1) a) ≡ Some op.Pop)
