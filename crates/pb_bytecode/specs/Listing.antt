-- The listing of a module, for people to read: lines of words, with one space between two of them.
-- Numbers are decimal.
use Rattle.std.specs.Prelude.{ℕ, suc, Bool, true, false, List, [], ◌∷◌, ◌++◌, length, map, codes, decimal}
use Rattle.std.specs.Fmt.{signed_decimal}
use Rattle.pb_fixpoint.specs.declared.Sign.{Sign}
use Rattle.pb_fixpoint.specs.declared.Sign.TheVariants.{Mu, Nu}
use Rattle.pb_sorts.specs.declared.carrier.Carrier.{Carrier}
use Rattle.pb_sorts.specs.declared.carrier.Carrier.TheVariants as carrier
use Rattle.pb_bytecode_program.specs.declared.instruction.Op.{Op}
use Rattle.pb_bytecode_program.specs.declared.instruction.Op.TheVariants as op
use Rattle.pb_bytecode_program.specs.declared.instruction.Arithmetic.{Arithmetic}
use Rattle.pb_bytecode_program.specs.declared.instruction.Arithmetic.TheVariants as arithmetic
use Rattle.pb_bytecode_program.specs.declared.instruction.Comparison.{Comparison}
use Rattle.pb_bytecode_program.specs.declared.instruction.Comparison.TheVariants as comparison
use Rattle.pb_fixpoint_trees.specs.declared.junction.Junction.{Junction}
use Rattle.pb_fixpoint_trees.specs.declared.junction.Junction.TheVariants as junction
use Rattle.pb_bytecode_program.specs.declared.instruction.Equality.{Equality}
use Rattle.pb_bytecode_program.specs.declared.instruction.Equality.TheVariants as equality
use Rattle.pb_bytecode_program.specs.declared.instruction.Leaf.{Leaf}
use Rattle.pb_bytecode_program.specs.declared.instruction.Leaf.TheVariants as leaf
use Rattle.pb_bytecode.specs.Contents.{Text, SortContents, EquationContents, InitialContents, Contents}

-- ---- lines

-- words behind others, to the end of their line
abbrev pub line_end : List Text → List ℕ
line_end [] = codes "\n"
line_end (word ∷ words) = codes " " ++ (word ++ line_end words)

abbrev pub line : Text → List Text → List ℕ
line word words = word ++ line_end words

-- a line for each number that is counted or stated
abbrev pub count_line : Text → ℕ → List ℕ
count_line label n = line label (decimal n ∷ [])

-- what is written of each item; the items are numbered from n on
abbrev pub numbered_lines : {A : Type 0} → (ℕ → A → List ℕ) → ℕ → List A → List ℕ
numbered_lines item n [] = []
numbered_lines item n (x ∷ xs) = item n x ++ numbered_lines item (suc n) xs

-- ---- sorts and slots

-- a sort, by its enumerators
abbrev pub sort_line : ℕ → SortContents → List ℕ
sort_line n names = line (codes "sort") (decimal n ∷ names)

abbrev pub carrier_words : Carrier → List Text
carrier_words carrier.Bool = codes "Bool" ∷ []
carrier_words (carrier.Enum enum) = codes "Enum" ∷ decimal enum.sort ∷ []
carrier_words (carrier.Range range) =
    codes "Range" ∷ signed_decimal range.low ∷ signed_decimal range.high ∷ []

-- a slot of this kind, and its carrier
abbrev pub slot_line : Text → ℕ → Carrier → List ℕ
slot_line kind n carrier = line kind (decimal n ∷ carrier_words carrier)

-- ---- instructions

abbrev pub arithmetic_name : Arithmetic → Text
arithmetic_name arithmetic.Add = codes "ADD"
arithmetic_name arithmetic.Sub = codes "SUB"
arithmetic_name arithmetic.Mul = codes "MUL"
arithmetic_name arithmetic.Div = codes "DIV"
arithmetic_name arithmetic.Mod = codes "MOD"
arithmetic_name arithmetic.Min = codes "MIN"
arithmetic_name arithmetic.Max = codes "MAX"

abbrev pub comparison_name : Comparison → Text
comparison_name comparison.Less = codes "LT"
comparison_name comparison.LessOrEqual = codes "LE"
comparison_name comparison.Greater = codes "GT"
comparison_name comparison.GreaterOrEqual = codes "GE"

abbrev pub equality_name : Equality → Text
equality_name equality.Equal = codes "EQ"
equality_name equality.NotEqual = codes "NE"

abbrev pub logic_name : Junction → Text
logic_name junction.Conjunction = codes "BAND"
logic_name junction.Disjunction = codes "BOR"

abbrev pub jump_name : Bool → Text
jump_name true = codes "JT"
jump_name false = codes "JF"

abbrev pub bracket_name : Junction → Text
bracket_name junction.Conjunction = codes "AND"
bracket_name junction.Disjunction = codes "OR"

abbrev pub leaf_name : Leaf → Text
leaf_name leaf.Yes = codes "YES"
leaf_name leaf.No = codes "NO"
leaf_name leaf.Cut = codes "CUT"

abbrev pub op_name : Op → Text
op_name op.End = codes "END"
op_name (op.PushInt k) = codes "INT"
op_name (op.PushBool b) = codes "BOOL"
op_name (op.PushEnum s i) = codes "ENUM"
op_name (op.Get slot) = codes "GET"
op_name op.Pop = codes "POP"
op_name (op.Arithmetic a) = arithmetic_name a
op_name op.Negate = codes "NEG"
op_name op.Absolute = codes "ABS"
op_name (op.Compare c) = comparison_name c
op_name (op.Equality e) = equality_name e
op_name op.Not = codes "NOT"
op_name (op.Logic c) = logic_name c
op_name (op.Jump to) = codes "JMP"
op_name (op.JumpIf on to) = jump_name on
op_name (op.InRange low high to) = codes "RNG"
op_name (op.Loop slot) = codes "LOOP"
op_name op.Next = codes "NEXT"
op_name (op.Open c) = bracket_name c
op_name op.Close = codes "CLOSE"
op_name (op.Emit l) = leaf_name l
op_name (op.Call equation) = codes "CALL"
op_name (op.SlotInRange slot low high to) = codes "INL"

abbrev pub truth_digit : Bool → Text
truth_digit false = codes "0"
truth_digit true = codes "1"

-- what stands in the code behind an instruction
abbrev pub operand_words : Op → List Text
operand_words (op.PushInt k) = signed_decimal k ∷ []
operand_words (op.PushBool b) = truth_digit b ∷ []
operand_words (op.PushEnum s i) = decimal s ∷ decimal i ∷ []
operand_words (op.Get slot) = decimal slot ∷ []
operand_words (op.Jump to) = decimal to ∷ []
operand_words (op.JumpIf on to) = decimal to ∷ []
operand_words (op.InRange low high to) = signed_decimal low ∷ signed_decimal high ∷ decimal to ∷ []
operand_words (op.SlotInRange slot low high to) =
    decimal slot ∷ signed_decimal low ∷ signed_decimal high ∷ decimal to ∷ []
operand_words (op.Loop slot) = decimal slot ∷ []
operand_words (op.Call equation) = decimal equation ∷ []
operand_words _ = []

-- an instruction at its place
abbrev pub op_line : ℕ → Op → List ℕ
op_line place i = line (decimal place) (op_name i ∷ operand_words i)

-- ---- modules

abbrev pub sign_name : Sign → Text
sign_name Mu = codes "mu"
sign_name Nu = codes "nu"

-- an equation's sign and its predicate variable
abbrev pub head_line : ℕ → EquationContents → List ℕ
head_line n e = line (codes "equation") (decimal n ∷ sign_name e.sign ∷ e.name ∷ [])

-- the parameters are the first slots, and loop slots follow them
abbrev pub slot_lines : EquationContents → List ℕ
slot_lines e =
    numbered_lines (slot_line (codes "param")) 0 e.parameters
    ++ numbered_lines (slot_line (codes "loop")) (length e.parameters) e.loops

-- how many steps a run takes and how many tokens it writes at most, as the module states it
abbrev pub stated_lines : EquationContents → List ℕ
stated_lines e = count_line (codes "steps") e.steps ++ count_line (codes "tokens") e.tokens

abbrev pub equation_lines : ℕ → EquationContents → List ℕ
equation_lines n e =
    head_line n e ++ (slot_lines e ++ (stated_lines e ++ numbered_lines op_line 0 e.code))

-- the equation of the initial instance, and its parameters' values
abbrev pub initial_line : InitialContents → List ℕ
initial_line i = line (codes "init") (decimal i.equation ∷ map signed_decimal i.values)

abbrev pub listing : Contents → List ℕ
listing m =
    numbered_lines sort_line 0 m.sorts
    ++ (numbered_lines equation_lines 0 m.equations ++ initial_line m.initial)
