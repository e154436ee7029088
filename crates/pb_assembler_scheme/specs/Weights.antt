-- What a piece's code costs, in the loops that it has: instruction by instruction, a loop's body as
-- often as the slot's carrier has values.
use Rattle.std.specs.Prelude.{ℕ, ◌+◌, ◌*◌}
use Rattle.pb_bytecode_program.specs.Machine.{Program, carrier_of}
use Rattle.pb_bytecode_program.specs.Counts.{carrier_size}
use Rattle.pb_bytecode_program.specs.declared.instruction.Op.{Op}
use Rattle.pb_bytecode_program.specs.declared.instruction.Op.TheVariants as op
use Rattle.pb_assembler_scheme.specs.Pieces.{Piece, Empty, Plain, Then, Unless, Choose, Repeat, Block, Leave, Guard}

-- where each jump costs so much
abbrev pub weight : Program → (cost : Op → ℕ) → (jump : ℕ) → Piece → ℕ
weight p cost jump Empty = 0
weight p cost jump (Plain i) = cost i
weight p cost jump (Then a b) = weight p cost jump a + weight p cost jump b
weight p cost jump (Unless on a) = jump + weight p cost jump a
weight p cost jump (Choose on a b) = jump + (weight p cost jump a + (jump + weight p cost jump b))
weight p cost jump (Repeat s a) =
    cost (op.Loop s) + carrier_size (carrier_of p s) * (weight p cost jump a + cost op.Next)
weight p cost jump (Block a) = weight p cost jump a
weight p cost jump Leave = jump
weight p cost jump (Guard low high a) = jump + (weight p cost jump a + cost op.Pop)
