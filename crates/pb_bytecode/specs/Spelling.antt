-- The one spelling of a module in bytes. Numbers are little-endian, signed ones in two's
-- complement.
use Rattle.std.specs.Prelude.{ℕ, Bool, true, false, List, [], ◌∷◌, ◌++◌, length, ℤ}
use Rattle.std.specs.List.{flat_map}
use Rattle.std.specs.Int.{w16, w32, w64, to_le_bytes, cast_unsigned}
use Rattle.pb_fixpoint.specs.declared.Sign.{Sign}
use Rattle.pb_fixpoint.specs.declared.Sign.TheVariants.{Mu, Nu}
use Rattle.pb_sorts.specs.declared.carrier.Carrier.{Carrier}
use Rattle.pb_sorts.specs.declared.carrier.Carrier.TheVariants as carrier
use Rattle.pb_bytecode_program.specs.declared.instruction.Op.{Op}
use Rattle.pb_bytecode_program.specs.declared.instruction.Op.TheVariants as op
use Rattle.pb_bytecode_program.specs.declared.instruction.Arithmetic.{Arithmetic}
use Rattle.pb_bytecode_program.specs.declared.instruction.Arithmetic.TheVariants as arithmetic
use Rattle.pb_bytecode_program.specs.declared.instruction.Comparison.{Comparison}
use Rattle.pb_bytecode_program.specs.declared.instruction.Comparison.TheVariants as comparison
use Rattle.pb_fixpoint_trees.specs.declared.junction.Junction.{Junction}
use Rattle.pb_fixpoint_trees.specs.declared.junction.Junction.TheVariants as junction
use Rattle.pb_bytecode_program.specs.declared.instruction.Equality.{Equality}
use Rattle.pb_bytecode_program.specs.declared.instruction.Equality.TheVariants as equality
use Rattle.pb_bytecode_program.specs.declared.instruction.Leaf.{Leaf}
use Rattle.pb_bytecode_program.specs.declared.instruction.Leaf.TheVariants as leaf
use Rattle.pb_bytecode_program.specs.declared.version.Version.{Version}
use Rattle.pb_bytecode_program.specs.declared.version.Version.TheVariants as version
use Rattle.pb_bytecode.specs.Contents.{Text, SortContents, EquationContents, InitialContents, Contents}

-- ---- numbers and lists

abbrev pub byte : ℕ → List ℕ
byte n = n ∷ []

abbrev pub u16 : ℕ → List ℕ
u16 n = to_le_bytes w16 n

abbrev pub u32 : ℕ → List ℕ
u32 n = to_le_bytes w32 n

abbrev pub i32 : ℤ → List ℕ
i32 z = to_le_bytes w32 (cast_unsigned w32 z)

abbrev pub i64 : ℤ → List ℕ
i64 z = to_le_bytes w64 (cast_unsigned w64 z)

-- one byte for how many there are, and then each
abbrev pub counted : {A : Type 0} → (A → List ℕ) → List A → List ℕ
counted item xs = byte (length xs) ++ flat_map item xs

-- ---- names, sorts and carriers

abbrev pub name_bytes : Text → List ℕ
name_bytes text = byte (length text) ++ text

abbrev pub sort_bytes : SortContents → List ℕ
sort_bytes names = counted name_bytes names

abbrev pub carrier_bytes : Carrier → List ℕ
carrier_bytes carrier.Bool = byte 0
carrier_bytes (carrier.Enum enum) = byte 1 ++ byte enum.sort
carrier_bytes (carrier.Range range) = byte 2 ++ (i32 range.low ++ i32 range.high)

-- ---- instructions

abbrev pub arithmetic_code : Arithmetic → ℕ
arithmetic_code arithmetic.Add = 6
arithmetic_code arithmetic.Sub = 7
arithmetic_code arithmetic.Mul = 8
arithmetic_code arithmetic.Div = 10
arithmetic_code arithmetic.Mod = 11
arithmetic_code arithmetic.Min = 12
arithmetic_code arithmetic.Max = 13

abbrev pub comparison_code : Comparison → ℕ
comparison_code comparison.Less = 15
comparison_code comparison.LessOrEqual = 16
comparison_code comparison.Greater = 17
comparison_code comparison.GreaterOrEqual = 18

abbrev pub equality_code : Equality → ℕ
equality_code equality.Equal = 19
equality_code equality.NotEqual = 20

abbrev pub logic_code : Junction → ℕ
logic_code junction.Conjunction = 22
logic_code junction.Disjunction = 23

abbrev pub jump_code : Bool → ℕ
jump_code true = 25
jump_code false = 26

abbrev pub open_code : Junction → ℕ
open_code junction.Conjunction = 30
open_code junction.Disjunction = 31

abbrev pub leaf_code : Leaf → ℕ
leaf_code leaf.Yes = 33
leaf_code leaf.No = 34
leaf_code leaf.Cut = 35

abbrev pub op_code : Op → ℕ
op_code op.End = 0
op_code (op.PushInt k) = 1
op_code (op.PushBool b) = 2
op_code (op.PushEnum s i) = 3
op_code (op.Get slot) = 4
op_code op.Pop = 5
op_code (op.Arithmetic a) = arithmetic_code a
op_code op.Negate = 9
op_code op.Absolute = 14
op_code (op.Compare c) = comparison_code c
op_code (op.Equality e) = equality_code e
op_code op.Not = 21
op_code (op.Logic c) = logic_code c
op_code (op.Jump to) = 24
op_code (op.JumpIf on to) = jump_code on
op_code (op.InRange low high to) = 27
op_code (op.Loop slot) = 28
op_code op.Next = 29
op_code (op.Open c) = open_code c
op_code op.Close = 32
op_code (op.Emit l) = leaf_code l
op_code (op.Call equation) = 36
op_code (op.SlotInRange slot low high to) = 37

abbrev pub truth_byte : Bool → List ℕ
truth_byte false = byte 0
truth_byte true = byte 1

abbrev pub bounds : ℤ → ℤ → List ℕ
bounds low high = i32 low ++ i32 high

-- what follows the code
abbrev pub op_operands : Op → List ℕ
op_operands (op.PushInt k) = i64 k
op_operands (op.PushBool b) = truth_byte b
op_operands (op.PushEnum s i) = byte s ++ byte i
op_operands (op.Get slot) = byte slot
op_operands (op.Jump to) = u16 to
op_operands (op.JumpIf on to) = u16 to
op_operands (op.InRange low high to) = bounds low high ++ u16 to
op_operands (op.SlotInRange slot low high to) = byte slot ++ (bounds low high ++ u16 to)
op_operands (op.Loop slot) = byte slot
op_operands (op.Call equation) = byte equation
op_operands _ = []

abbrev pub op_bytes : Op → List ℕ
op_bytes i = byte (op_code i) ++ op_operands i

-- ---- modules

abbrev pub sign_bytes : Sign → List ℕ
sign_bytes Mu = byte 0
sign_bytes Nu = byte 1

abbrev pub equation_bytes : EquationContents → List ℕ
equation_bytes e =
    sign_bytes e.sign
    ++ (name_bytes e.name
    ++ (counted carrier_bytes e.parameters
    ++ (counted carrier_bytes e.loops
    ++ (u32 e.steps
    ++ (u32 e.tokens
    ++ (u16 (length e.code) ++ flat_map op_bytes e.code))))))

-- the bytes PBES
abbrev pub mark : List ℕ
mark = 80 ∷ 66 ∷ 69 ∷ 83 ∷ []

abbrev pub version_bytes : Version → List ℕ
version_bytes version.One = byte 1
version_bytes version.Two = byte 2

abbrev pub initial_bytes : InitialContents → List ℕ
initial_bytes i = byte i.equation ++ flat_map i64 i.values

abbrev pub spelling : Contents → List ℕ
spelling m =
    mark
    ++ (version_bytes m.version
    ++ (counted sort_bytes m.sorts
    ++ (counted equation_bytes m.equations
    ++ initial_bytes m.initial)))
