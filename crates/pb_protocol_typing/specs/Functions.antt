-- What is applied to arguments in data: an array, a definition, or a function of texts; and
-- counting, which is a function of a Boolean that gives a whole number.
use Rattle.std.specs.Prelude.{ℕ, Bool, true, not, ◌||◌, ◌&&◌, if◌then◌else◌, ◌==◌, List, []}
use Rattle.std.specs.Prelude.{◌∷◌, length, Option, Some, None}
use Rattle.pb_text_tree.specs.Form.{Named}
use Rattle.pb_text_meaning.specs.Syntax.{Name, Spec}
use Rattle.pb_text_meaning.specs.declared.function.NamedFunction.{NamedFunction}
use Rattle.pb_text_meaning.specs.declared.function.NamedFunction.TheVariants as named
use Rattle.pb_text_meaning.specs.Functions.{named_function}
use Rattle.pb_text_counting.specs.Counting.{is_counting}
use Rattle.pb_typing_declarations.specs.Shapes.{Shape}
use Rattle.pb_typing_declarations.specs.Enumerators.{Position, recogniser_of}
use Rattle.pb_typing_declarations.specs.declared.fault.TypingFault.{TypingFault}
use Rattle.pb_typing_declarations.specs.declared.fault.TypingRule.TheVariants.{WrongCount}
use Rattle.pb_typing_declarations.specs.declared.fault.TypingRule.TheVariants.{WrongKind}
use Rattle.pb_protocol_typing.specs.declared.kind.Kind.{Kind}
use Rattle.pb_protocol_typing.specs.declared.kind.Kind.TheVariants.{Unknown, Truth, Struct, Whole}
use Rattle.pb_protocol_typing.specs.declared.function.Function.{Function}
use Rattle.pb_protocol_typing.specs.declared.function.Function.TheVariants.{Choice, Uniform}
use Rattle.pb_protocol_typing.specs.Fault.{fault_at, fault_unless}
use Rattle.pb_protocol_typing.specs.Kinds.{agree, may_be_truth}
use Rattle.pb_protocol_typing.specs.Scopes.{Binder, Signature, Scope, is_empty, unknown_fault}

-- ---- functions of texts

-- all others but `if` take one or two whole numbers and give one
abbrev pub function_of : NamedFunction → Function
function_of named.If = Choice
function_of named.Succ = Uniform 1 Whole Whole
function_of named.Pred = Uniform 1 Whole Whole
function_of named.Abs = Uniform 1 Whole Whole
function_of named.Max = Uniform 2 Whole Whole
function_of named.Min = Uniform 2 Whole Whole
function_of named.Pos2Nat = Uniform 1 Whole Whole
function_of named.Pos2Int = Uniform 1 Whole Whole
function_of named.Nat2Int = Uniform 1 Whole Whole

abbrev pub recogniser : Option Position → Option Function
recogniser None = None
recogniser (Some p) = Some (Uniform 1 (Struct p.sort) Truth)

abbrev pub known_function : Option NamedFunction → Option Position → Option Function
known_function (Some f) r = Some (function_of f)
known_function None r = recogniser r

-- `count xs . p` takes what says whether p is true, and gives for how many values it is
abbrev pub counting_function : Function
counting_function = Uniform 1 Truth Whole

-- counting, else a function that is there in each text, else a recogniser
abbrev pub function_named : Spec → Name → Option Function
function_named spec f =
    if is_counting f then Some counting_function
    else known_function (named_function f) (recogniser_of spec f)

abbrev pub arity : Function → ℕ
arity Choice = 3
arity (Uniform n k r) = n

abbrev pub all_agree : Kind → List Kind → Bool
all_agree k [] = true
all_agree k (l ∷ ls) = agree l k && all_agree k ls

-- a condition, and two values of one kind
abbrev pub is_choice : List Kind → Bool
is_choice (c ∷ k ∷ l ∷ ls) = may_be_truth c && agree k l
is_choice ks = true

abbrev pub takes : Function → List Kind → Bool
takes Choice ks = is_choice ks
takes (Uniform n k r) ks = all_agree k ks

-- the kind of a choice is that of its first value
abbrev pub second_kind : List Kind → Kind
second_kind (c ∷ k ∷ ks) = k
second_kind ks = Unknown

abbrev pub function_kind : Function → List Kind → Kind
function_kind Choice ks = second_kind ks
function_kind (Uniform n k r) ks = r

-- ---- what a name with arguments stands for

pub data Called : Type 0 where
  Declared : Signature → Called
  Function' : Function → Called
  Scalar : Called
  Nothing : Called

-- a state variable without indices takes none, and may have a function's name
abbrev pub takes_arguments : Signature → Bool
takes_arguments f = not f.is_state || not (is_empty f.parameters)

abbrev pub scalar_or : Option Function → Called
scalar_or None = Scalar
scalar_or (Some g) = Function' g

abbrev pub function_or : Option Function → Called
function_or None = Nothing
function_or (Some g) = Function' g

abbrev pub called_by : Option Signature → Option Function → Called
called_by None g = function_or g
called_by (Some f) g = if takes_arguments f then Declared f else scalar_or g

abbrev pub called : Scope → Name → Called
called s f = called_by (s.signatures f) (function_named s.spec f)

abbrev pub called_kind : Called → List Kind → Kind
called_kind (Declared f) ks = f.kind
called_kind (Function' g) ks = function_kind g ks
called_kind Scalar ks = Unknown
called_kind Nothing ks = Unknown

abbrev pub called_parameters : Called → List Shape
called_parameters (Declared f) = f.parameters
called_parameters (Function' g) = []
called_parameters Scalar = []
called_parameters Nothing = []

-- T08: as many indices or arguments as there are parameters
abbrev pub count_fault : ℕ → ℕ → Named → Option TypingFault
count_fault n m f = fault_unless (n == m) WrongCount f.place

-- so many arguments of a name: what takes none has the wrong number of them
abbrev pub naming_fault : Called → List Binder → Named → ℕ → Option TypingFault
naming_fault (Declared g) around f n = count_fault n (length g.parameters) f
naming_fault (Function' g) around f n = count_fault n (arity g) f
naming_fault Scalar around f n = fault_at WrongCount f.place
naming_fault Nothing around f n = unknown_fault around f

-- T04 at a function's name: its arguments aren't of the kinds that it takes
abbrev pub taking_fault : Called → Named → List Kind → Option TypingFault
taking_fault (Declared g) f ks = None
taking_fault (Function' g) f ks = fault_unless (takes g ks) WrongKind f.place
taking_fault Scalar f ks = None
taking_fault Nothing f ks = None
