-- Kinds of values, and what operators and functions make of them. A part of unknown kind has a
-- fault of its own, and so it passes each test.
use Rattle.std.specs.Prelude.{ℕ, Bool, true, false, ◌==◌, ◌&&◌, Option}
use Rattle.pb_text_tree.specs.declared.place.Place.{Place}
use Rattle.pb_text_tree.specs.declared.operator.Comparison.{Comparison}
use Rattle.pb_text_tree.specs.declared.operator.Comparison.TheVariants as comparison
use Rattle.pb_text_meaning.specs.Syntax.{Name, Spec}
use Rattle.pb_typing_declarations.specs.Shapes as shapes
use Rattle.pb_typing_declarations.specs.Shapes.{Shape, sort_shape}
use Rattle.pb_typing_declarations.specs.declared.fault.TypingFault.{TypingFault}
use Rattle.pb_typing_declarations.specs.declared.fault.TypingRule.TheVariants.{WrongKind}
use Rattle.pb_protocol_typing.specs.declared.kind.Kind.{Kind}
use Rattle.pb_protocol_typing.specs.declared.kind.Kind.TheVariants.{Unknown, Truth, Struct, Whole}
use Rattle.pb_protocol_typing.specs.Fault.{fault_unless}

-- the kind of the values of a sort
abbrev pub shape_kind : Shape → Kind
shape_kind shapes.Unknown = Unknown
shape_kind shapes.Truths = Truth
shape_kind (shapes.Places sort count) = Struct sort
shape_kind (shapes.Wholes low high) = Whole

abbrev pub sort_kind : Spec → Name → Kind
sort_kind spec s = shape_kind (sort_shape spec s)

abbrev pub may_be_truth : Kind → Bool
may_be_truth Unknown = true
may_be_truth Truth = true
may_be_truth (Struct s) = false
may_be_truth Whole = false

abbrev pub may_be_whole : Kind → Bool
may_be_whole Unknown = true
may_be_whole Truth = false
may_be_whole (Struct s) = false
may_be_whole Whole = true

-- an enumerator of the struct with this number
abbrev pub may_be_in : ℕ → Kind → Bool
may_be_in s Unknown = true
may_be_in s Truth = false
may_be_in s (Struct t) = s == t
may_be_in s Whole = false

-- of one kind
abbrev pub agree : Kind → Kind → Bool
agree Unknown k = true
agree Truth k = may_be_truth k
agree (Struct s) k = may_be_in s k
agree Whole k = may_be_whole k

abbrev pub are_whole : Kind → Kind → Bool
are_whole k l = may_be_whole k && may_be_whole l

-- two of one kind are equal or not, and two whole numbers have an order
abbrev pub are_compared : Comparison → Kind → Kind → Bool
are_compared comparison.Equal k l = agree k l
are_compared comparison.NotEqual k l = agree k l
are_compared comparison.Less k l = are_whole k l
are_compared comparison.LessEqual k l = are_whole k l
are_compared comparison.Greater k l = are_whole k l
are_compared comparison.GreaterEqual k l = are_whole k l

-- T04: a Boolean stands here, a whole number, two of these
abbrev pub truth_fault : Kind → Place → Option TypingFault
truth_fault k place = fault_unless (may_be_truth k) WrongKind place

abbrev pub whole_fault : Kind → Place → Option TypingFault
whole_fault k place = fault_unless (may_be_whole k) WrongKind place
