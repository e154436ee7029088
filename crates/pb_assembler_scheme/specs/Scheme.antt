-- The compile scheme: from right sides in positive normal form to the code of equations.
use Rattle.std.specs.Prelude.{ℕ, Bool, true, false, ◌||◌, List, [], ◌∷◌, Option, Some, None, is_some, ℤ, pos, if◌then◌else◌}
use Rattle.std.specs.List.{slice_get}
use Rattle.pb_base_values.specs.Interval.{is_included}
use Rattle.pb_sorts.specs.declared.carrier.Carrier.{Carrier}
use Rattle.pb_sorts.specs.declared.carrier.Carrier.TheVariants as carrier
use Rattle.pb_text_tree.specs.declared.operator.Quantifier.{Quantifier}
use Rattle.pb_text_tree.specs.declared.operator.Quantifier.TheVariants.{Forall, Exists}
use Rattle.pb_text_meaning.specs.Syntax.{Operator}
use Rattle.pb_typing_declarations.specs.Shapes.{Shape, Wholes}
use Rattle.pb_typing_rules.specs.Shapes.{between}
use Rattle.pb_bytecode_program.specs.declared.instruction.Arithmetic.TheVariants as arithmetic
use Rattle.pb_bytecode_program.specs.declared.instruction.Comparison.TheVariants as comparison
use Rattle.pb_fixpoint_trees.specs.declared.junction.Junction.{Junction}
pub use Rattle.pb_fixpoint_trees.specs.Junctions.{neutral}
use Rattle.pb_fixpoint_trees.specs.declared.junction.Junction.TheVariants as junction
use Rattle.pb_bytecode_program.specs.declared.instruction.Equality.TheVariants as equality
use Rattle.pb_bytecode_program.specs.declared.instruction.Leaf.{Leaf}
use Rattle.pb_bytecode_program.specs.declared.instruction.Leaf.TheVariants as leaf
use Rattle.pb_bytecode_program.specs.declared.instruction.Op.{Op}
use Rattle.pb_bytecode_program.specs.declared.instruction.Op.TheVariants as op
use Rattle.pb_fixpoint_trees.specs.declared.junction.Junction.TheVariants.{Conjunction, Disjunction}
use Rattle.pb_normal.specs.Normal.{Term, Number, Slot, Negative, Absolute, Successor, Predecessor, Binary, Maximum, Minimum, Choice, Recognised, Argument, Formula, Test, Join, Each, Call}
use Rattle.pb_assembler_scheme.specs.Pieces.{Piece, Plain, Then, Unless, Choose, Repeat, Block, Leave, Guard, flat}

-- ---- data terms

-- both operands in order, then the instruction
abbrev pub in_order : Op → Piece → Piece → Piece
in_order i a b = Then a (Then b (Plain i))

-- the second operand, the first one, then the instruction
abbrev pub swapped : Op → Piece → Piece → Piece
swapped i a b = Then b (Then a (Plain i))

abbrev pub binary_piece : Operator → Piece → Piece → Piece
binary_piece Operator.And a b = swapped (op.Logic junction.Conjunction) a b
binary_piece Operator.Or a b = swapped (op.Logic junction.Disjunction) a b
binary_piece Operator.Implies a b =
    swapped (op.Logic junction.Disjunction) (Then a (Plain op.Not)) b
binary_piece Operator.Equal a b = in_order (op.Equality equality.Equal) a b
binary_piece Operator.NotEqual a b = in_order (op.Equality equality.NotEqual) a b
binary_piece Operator.Less a b = in_order (op.Compare comparison.Less) a b
binary_piece Operator.LessEqual a b = in_order (op.Compare comparison.LessOrEqual) a b
binary_piece Operator.Greater a b = in_order (op.Compare comparison.Greater) a b
binary_piece Operator.GreaterEqual a b = in_order (op.Compare comparison.GreaterOrEqual) a b
binary_piece Operator.Plus a b = in_order (op.Arithmetic arithmetic.Add) a b
binary_piece Operator.Minus a b = in_order (op.Arithmetic arithmetic.Sub) a b
binary_piece Operator.Times a b = in_order (op.Arithmetic arithmetic.Mul) a b
binary_piece Operator.Div a b = in_order (op.Arithmetic arithmetic.Div) a b
binary_piece Operator.Mod a b = in_order (op.Arithmetic arithmetic.Mod) a b

-- the code that pushes a term's value
abbrev pub data_piece : Term → Piece
data_piece (Term.Truth b) = Plain (op.PushBool b)
data_piece (Number n) = Plain (op.PushInt (pos n))
data_piece (Term.Enumerator s i) = Plain (op.PushEnum s i)
data_piece (Slot s) = Plain (op.Get s)
data_piece (Term.Not x) = Then (data_piece x) (Plain op.Not)
data_piece (Negative x) = Then (data_piece x) (Plain op.Negate)
data_piece (Absolute x) = Then (data_piece x) (Plain op.Absolute)
data_piece (Successor x) =
    in_order (op.Arithmetic arithmetic.Add) (data_piece x) (Plain (op.PushInt (pos 1)))
data_piece (Predecessor x) =
    in_order (op.Arithmetic arithmetic.Sub) (data_piece x) (Plain (op.PushInt (pos 1)))
data_piece (Binary o x y) = binary_piece o (data_piece x) (data_piece y)
data_piece (Maximum x y) = in_order (op.Arithmetic arithmetic.Max) (data_piece x) (data_piece y)
data_piece (Minimum x y) = in_order (op.Arithmetic arithmetic.Min) (data_piece x) (data_piece y)
data_piece (Choice c x y) = Then (data_piece c) (Choose false (data_piece x) (data_piece y))
data_piece (Recognised s i x) =
    in_order (op.Equality equality.Equal) (data_piece x) (Plain (op.PushEnum s i))

-- ---- brackets, each of a kind

-- the leaf that decides a bracket of this kind
abbrev pub deciding_leaf : Junction → Leaf
deciding_leaf Conjunction = leaf.No
deciding_leaf Disjunction = leaf.Yes

-- the kind of the bracket that a quantifier's instances stand in
abbrev pub junction_of : Quantifier → Junction
junction_of Forall = Conjunction
junction_of Exists = Disjunction

abbrev pub bracketed : Junction → Piece → Piece
bracketed m x = Then (Plain (op.Open m)) (Then x (Plain op.Close))

-- what joins by m stands in a bracket of its own, unless one of its kind is open already
abbrev pub under : (m around : Junction) → Piece → Piece
under Conjunction Conjunction x = x
under Disjunction Disjunction x = x
under Conjunction Disjunction x = bracketed Conjunction x
under Disjunction Conjunction x = bracketed Disjunction x

-- ---- tests

-- a test alone: where it decides what it stands in, the leaf that says so
abbrev pub test_piece : (around : Junction) → Term → Piece
test_piece around t =
    Then (data_piece t) (Unless (neutral around) (Plain (op.Emit (deciding_leaf around))))

-- a test joined by m with an operand, whose code stands under the bracket that is open
abbrev pub tested_piece : (m around : Junction) → Term → Piece → Piece
tested_piece Conjunction Conjunction t x =
    Then (data_piece t) (Choose true (Plain (op.Emit leaf.No)) x)
tested_piece Disjunction Disjunction t x =
    Then (data_piece t) (Choose false (Plain (op.Emit leaf.Yes)) x)
tested_piece Conjunction Disjunction t x = Then (data_piece t) (Unless false x)
tested_piece Disjunction Conjunction t x = Then (data_piece t) (Unless true x)

abbrev pub test_of : Formula → Option Term
test_of (Test t) = Some t
test_of _ = None

-- Two operands f and g joined by m: the first that is a test decides whether the other one runs.
-- The code of each operand under the bracket that is open, and under one of kind m, is given.
abbrev pub join_piece :
    (m around : Junction) → (f g : Option Term) → (f_around g_around f_own g_own : Piece) → Piece
join_piece m around (Some t) g f_around g_around f_own g_own = tested_piece m around t g_around
join_piece m around None (Some t) f_around g_around f_own g_own = tested_piece m around t f_around
join_piece m around None None f_around g_around f_own g_own = under m around (Then f_own g_own)

-- ---- calls

-- the range that an argument is tested for: its parameter's, unless all that is known of the
-- argument lies within
abbrev pub tested_range : Carrier → Shape → Option (ℤ × ℤ)
tested_range (carrier.Range r) (Wholes l h) =
    if is_included (between l h) (between r.low r.high) then None else Some (r.low, r.high)
tested_range _ _ = None

abbrev pub any_tested : List Carrier → List Argument → Bool
any_tested (c ∷ cs) (x ∷ xs) = is_some (tested_range c x.shape) || any_tested cs xs
any_tested _ _ = false

-- what follows an argument, which is taken off where a later test fails
abbrev pub guarded : Option (ℤ × ℤ) → (later : Bool) → Piece → Piece
guarded (Some r) later x = Guard r.0 r.1 x
guarded None true x = Then x (Plain op.Pop)
guarded None false x = x

-- the arguments for these parameters, and the last piece behind them all
abbrev pub arguments_piece : List Carrier → List Argument → Piece → Piece
arguments_piece (c ∷ cs) (x ∷ xs) last =
    Then (data_piece x.term)
    (guarded (tested_range c x.shape) (any_tested cs xs) (arguments_piece cs xs last))
arguments_piece [] (x ∷ xs) last = Then (data_piece x.term) (arguments_piece [] xs last)
arguments_piece cs [] last = last

-- a call, or a cut where a test fails
abbrev pub call_piece : ℕ → List Carrier → List Argument → Piece
call_piece equation cs xs =
    if any_tested cs xs
    then Block
    (Then (arguments_piece cs xs (Then (Plain (op.Call equation)) Leave))
    (Plain (op.Emit leaf.Cut)))
    else arguments_piece cs xs (Plain (op.Call equation))

-- an equation's parameters, and none where there is no equation
abbrev pub parameters : Option (List Carrier) → List Carrier
parameters None = []
parameters (Some cs) = cs

-- ---- formulas and equations, which call equations with these parameters

abbrev pub formula_piece : List (List Carrier) → (around : Junction) → Formula → Piece
formula_piece callees around (Test t) = test_piece around t
formula_piece callees around (Join m f g) =
    join_piece m around (test_of f) (test_of g)
    (formula_piece callees around f) (formula_piece callees around g)
    (formula_piece callees m f) (formula_piece callees m g)
formula_piece callees around (Each q s shape f) =
    under (junction_of q) around (Repeat s (formula_piece callees (junction_of q) f))
formula_piece callees around (Call equation xs) =
    call_piece equation (parameters (slice_get callees equation)) xs

-- the kind of the outermost bracket
abbrev pub head : Formula → Junction
head (Join m f g) = m
head (Each q s shape f) = junction_of q
head _ = Disjunction

abbrev pub equation_piece : List (List Carrier) → Formula → Piece
equation_piece callees f =
    Then (bracketed (head f) (formula_piece callees (head f) f)) (Plain op.End)

-- the code of an equation with this right side
abbrev pub equation_code : List (List Carrier) → Formula → List Op
equation_code callees f = flat 0 0 (equation_piece callees f)
