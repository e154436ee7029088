-- The named functions of data: how many arguments of which kinds each takes, and the shape of what
-- it gives.
use Rattle.std.specs.Prelude.{ℕ, Bool, true, ◌&&◌, List, [], ◌∷◌, Option, Some, None}
use Rattle.pb_text_meaning.specs.Syntax.{Name, Spec}
use Rattle.pb_text_meaning.specs.declared.function.NamedFunction.{NamedFunction}
use Rattle.pb_text_meaning.specs.declared.function.NamedFunction.TheVariants.{If, Succ, Pred, Abs}
use Rattle.pb_text_meaning.specs.declared.function.NamedFunction.TheVariants.{Max, Min, Pos2Nat}
use Rattle.pb_text_meaning.specs.declared.function.NamedFunction.TheVariants.{Pos2Int, Nat2Int}
use Rattle.pb_text_meaning.specs.Functions.{named_function}
use Rattle.pb_base_values.specs.Operation.{UnaryOperation, Successor, Predecessor, AbsoluteValue, BinaryOperation, Maximum, Minimum}
use Rattle.pb_typing_declarations.specs.Shapes.{Shape, Unknown, Truths, Wholes}
use Rattle.pb_typing_declarations.specs.Enumerators.{recogniser_shape}
use Rattle.pb_typing_rules.specs.Shapes.{may_be_truth, may_be_whole, may_be_alike, shape_hull, unary_shape, unary_is_limited, binary_shape, binary_is_limited}

-- a choice between two, an operation on one or two whole numbers, a conversion, which keeps its
-- number, and the recogniser of an enumerator whose struct has this shape
pub data Function : Type 0 where
  Choice Conversion : Function
  OfOne : UnaryOperation → Function
  OfTwo : BinaryOperation → Function
  Recogniser : Shape → Function

abbrev pub recogniser : Option Shape → Option Function
recogniser None = None
recogniser (Some s) = Some (Recogniser s)

abbrev pub function_of : NamedFunction → Function
function_of If = Choice
function_of Succ = OfOne Successor
function_of Pred = OfOne Predecessor
function_of Abs = OfOne AbsoluteValue
function_of Max = OfTwo Maximum
function_of Min = OfTwo Minimum
function_of Pos2Nat = Conversion
function_of Pos2Int = Conversion
function_of Nat2Int = Conversion

-- a function that is there in each text, else a recogniser
abbrev pub known_function : Option NamedFunction → Option Shape → Option Function
known_function (Some f) r = Some (function_of f)
known_function None r = recogniser r

abbrev pub function_named : Spec → Name → Option Function
function_named spec f = known_function (named_function f) (recogniser_shape spec f)

abbrev pub arity : Function → ℕ
arity Choice = 3
arity Conversion = 1
arity (OfOne o) = 1
arity (OfTwo o) = 2
arity (Recogniser s) = 1

-- the number that a conversion keeps
abbrev pub kept : Shape → Shape
kept (Wholes l h) = Wholes l h
kept _ = Unknown

-- ---- with one, two or three arguments; any other count is a fault of its own

abbrev pub accepts_one : Function → Shape → Bool
accepts_one (OfOne o) s = may_be_whole s
accepts_one Conversion s = may_be_whole s
accepts_one (Recogniser r) s = may_be_alike r s
accepts_one _ s = true

abbrev pub accepts_two : Function → Shape → Shape → Bool
accepts_two (OfTwo o) s t = may_be_whole s && may_be_whole t
accepts_two _ s t = true

abbrev pub accepts_three : Function → Shape → Shape → Shape → Bool
accepts_three Choice c s t = may_be_truth c && may_be_alike s t
accepts_three _ c s t = true

abbrev pub takes : Function → List Shape → Bool
takes f (s ∷ []) = accepts_one f s
takes f (s ∷ t ∷ []) = accepts_two f s t
takes f (c ∷ s ∷ t ∷ []) = accepts_three f c s t
takes f _ = true

abbrev pub shape_of_one : Function → Shape → Shape
shape_of_one (OfOne o) s = unary_shape o s
shape_of_one Conversion s = kept s
shape_of_one (Recogniser r) s = Truths
shape_of_one _ s = Unknown

abbrev pub shape_of_two : Function → Shape → Shape → Shape
shape_of_two (OfTwo o) s t = binary_shape o s t
shape_of_two _ s t = Unknown

abbrev pub shape_of_three : Function → Shape → Shape → Shape → Shape
shape_of_three Choice c s t = shape_hull s t
shape_of_three _ c s t = Unknown

abbrev pub result_shape : Function → List Shape → Shape
result_shape f (s ∷ []) = shape_of_one f s
result_shape f (s ∷ t ∷ []) = shape_of_two f s t
result_shape f (c ∷ s ∷ t ∷ []) = shape_of_three f c s t
result_shape f _ = Unknown

-- the interval of what it gives is within the limits
abbrev pub one_is_limited : Function → Shape → Bool
one_is_limited (OfOne o) s = unary_is_limited o s
one_is_limited _ s = true

abbrev pub two_is_limited : Function → Shape → Shape → Bool
two_is_limited (OfTwo o) s t = binary_is_limited o s t
two_is_limited _ s t = true

abbrev pub result_is_limited : Function → List Shape → Bool
result_is_limited f (s ∷ []) = one_is_limited f s
result_is_limited f (s ∷ t ∷ []) = two_is_limited f s t
result_is_limited f _ = true
