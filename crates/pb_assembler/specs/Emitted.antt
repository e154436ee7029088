-- What it is for a builder to have emitted a piece of code: whatever places the labels still get,
-- the instructions that were added resolve to the piece's.
use Rattle.std.specs.Prelude.{◌≡◌, ℕ, ◌<◌, ◌≤◌, ◌++◌, Bool, true, nat_lt, length, Option, Some, None, unwrap_or}
use Rattle.pb_text_tree.specs.declared.operator.Connective.{Connective}
use Rattle.pb_text_tree.specs.declared.operator.Connective.TheVariants as connective
use Rattle.pb_fixpoint_trees.specs.declared.junction.Junction.TheVariants as junction
use Rattle.pb_bytecode_program.specs.declared.instruction.Op.TheVariants as op
use Rattle.pb_assembler_scheme.specs.Pieces.{Piece, Plain, Then, Leave, flat}
use Rattle.pb_assembler_builder.specs.Draft.{Draft, Places, open_labels, label_place, resolved}

-- what has a place in the draft has it in these places, too
abbrev pub Keeps : Draft → Places → Type 0
Keeps d M = (l q : ℕ) → label_place d.places l ≡ Some q → M l ≡ Some q

-- the second draft has the piece's instructions behind those of the first, in a block that ends at
-- this place; the labels of the first have the places that they had, and all others have one
pub record Emits (x : Piece) (end : Places → ℕ) (d d' : Draft) : Type 0 where
  pub grown : length d.places ≤ length d'.places
  pub kept : (l : ℕ) → l < length d.places → label_place d'.places l ≡ label_place d.places l
  pub settled : open_labels d'.places ≡ open_labels d.places
  pub code :
      (M : Places) → Keeps d' M
      → resolved M d'.ops ≡ resolved M d.ops ++ flat (length d.ops) (end M) x

-- the end of the block around, for pieces that leave none
abbrev pub nowhere : Places → ℕ
nowhere M = 0

-- an operand of a connective, behind the operands that follow it, and the connective's instruction
abbrev pub connected_behind : Connective → Piece → Piece
connected_behind connective.And x = Then x (Plain (op.Logic junction.Conjunction))
connected_behind connective.Or x = Then x (Plain (op.Logic junction.Disjunction))
connected_behind connective.Implies x =
    Then (Then x (Plain op.Not)) (Plain (op.Logic junction.Disjunction))

-- a label that is there, if one is given
abbrev pub is_label : ℕ → Option ℕ → Bool
is_label n None = true
is_label n (Some l) = nat_lt l n

-- the end of the block around, which has this label, if there is one
abbrev pub block_end : Option ℕ → Places → ℕ
block_end None M = 0
block_end (Some l) M = unwrap_or (M l) 0

-- a call, and the jump to the end of the block around, if there is one
abbrev pub called_piece : ℕ → Option ℕ → Piece
called_piece equation None = Plain (op.Call equation)
called_piece equation (Some l) = Then (Plain (op.Call equation)) Leave
