-- The codes of instructions, and what follows each of them.
use Rattle.std.specs.Prelude.{ℕ, ◌==◌, List, [], ◌∷◌, true, false, Option, Some, None, slice_get, if◌then◌else◌}
use Rattle.pb_bytecode_program.specs.declared.instruction.Op.TheVariants as op
use Rattle.pb_bytecode_program.specs.declared.instruction.Arithmetic.TheVariants as arithmetic
use Rattle.pb_bytecode_program.specs.declared.instruction.Comparison.TheVariants as comparison
use Rattle.pb_fixpoint_trees.specs.declared.junction.Junction.TheVariants as junction
use Rattle.pb_bytecode_program.specs.declared.instruction.Equality.TheVariants as equality
use Rattle.pb_bytecode_program.specs.declared.instruction.Leaf.TheVariants as leaf
use Rattle.pb_bytecode_program.specs.declared.version.Version.{Version}
use Rattle.pb_bytecode_program.specs.declared.version.Version.TheVariants as version
use Rattle.pb_bytecode.specs.declared.format.Format.{Format}
use Rattle.pb_bytecode.specs.declared.format.Format.TheVariants as format

-- the format behind each code, from 0 on
abbrev pub first_formats : List Format
first_formats =
    format.Plain op.End ∷ format.Int ∷ format.Bool ∷ format.Enumerator ∷ format.Get
    ∷ format.Plain op.Pop ∷
    format.Plain (op.Arithmetic arithmetic.Add) ∷ format.Plain (op.Arithmetic arithmetic.Sub) ∷
    format.Plain (op.Arithmetic arithmetic.Mul) ∷ format.Plain op.Negate ∷
    format.Plain (op.Arithmetic arithmetic.Div) ∷ format.Plain (op.Arithmetic arithmetic.Mod) ∷
    format.Plain (op.Arithmetic arithmetic.Min) ∷ format.Plain (op.Arithmetic arithmetic.Max)
    ∷ format.Plain op.Absolute ∷
    format.Plain (op.Compare comparison.Less) ∷ format.Plain (op.Compare comparison.LessOrEqual) ∷
    format.Plain (op.Compare comparison.Greater)
    ∷ format.Plain (op.Compare comparison.GreaterOrEqual) ∷
    format.Plain (op.Equality equality.Equal) ∷ format.Plain (op.Equality equality.NotEqual)
    ∷ format.Plain op.Not ∷
    format.Plain (op.Logic junction.Conjunction) ∷ format.Plain (op.Logic junction.Disjunction) ∷
    format.Jump ∷ format.JumpIf true ∷ format.JumpIf false ∷ format.InRange ∷ format.Loop
    ∷ format.Plain op.Next ∷
    format.Plain (op.Open junction.Conjunction) ∷ format.Plain (op.Open junction.Disjunction)
    ∷ format.Plain op.Close ∷
    format.Plain (op.Emit leaf.Yes) ∷ format.Plain (op.Emit leaf.No)
    ∷ format.Plain (op.Emit leaf.Cut) ∷ format.Call ∷ []

-- code 37, of version 2 alone
abbrev pub second_format : Version → Option Format
second_format version.One = None
second_format version.Two = Some format.SlotInRange

abbrev pub format_of : Version → ℕ → Option Format
format_of v code = if code == 37 then second_format v else slice_get first_formats code
