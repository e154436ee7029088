-- What a name stands for in the data of a protocol: the variables around, state variables,
-- definitions and enumerators.
use Rattle.std.specs.Prelude.{Bool, true, false, ◌||◌, if◌then◌else◌, List, [], ◌∷◌}
use Rattle.std.specs.Prelude.{Option, Some, None, is_some, codes}
use Rattle.pb_text_tree.specs.Form.{Named, VariableForm}
use Rattle.pb_text_meaning.specs.Syntax.{Name, same_name, Spec}
use Rattle.pb_typing_declarations.specs.Shapes.{Shape, sort_shape}
use Rattle.pb_typing_declarations.specs.Enumerators.{Position, enumerator_of}
use Rattle.pb_typing_declarations.specs.declared.fault.TypingFault.{TypingFault}
use Rattle.pb_typing_declarations.specs.declared.fault.TypingRule.{TypingRule}
use Rattle.pb_typing_declarations.specs.declared.fault.TypingRule.TheVariants as rule
use Rattle.pb_protocol_typing.specs.declared.kind.Kind.{Kind}
use Rattle.pb_protocol_typing.specs.declared.kind.Kind.TheVariants as kind
use Rattle.pb_protocol_typing.specs.declared.written_as.WrittenAs.{WrittenAs}
use Rattle.pb_protocol_typing.specs.declared.scope.NameMeaning.{NameMeaning}
use Rattle.pb_protocol_typing.specs.declared.scope.NameMeaning.TheVariants as meaning
use Rattle.pb_protocol_typing.specs.Fault.{fault_at}
use Rattle.pb_protocol_typing.specs.Kinds.{shape_kind}

-- ---- what stands around

-- a list of variables, or a fixpoint's variable
pub data Binder : Type 0 where
  variables : List VariableForm → Binder
  fixpoint : Name → Binder

-- the sort of the first variable of this name
abbrev pub sort_in : List VariableForm → Name → Option Name
sort_in [] x = None
sort_in (y ∷ ys) x = if same_name y.name.text x then Some y.sort.text else sort_in ys x

abbrev pub first_sort : Option Name → Option Name → Option Name
first_sort None other = other
first_sort (Some s) other = Some s

-- the sort of the variable of this name, the innermost first
abbrev pub sort_around : List Binder → Name → Option Name
sort_around [] x = None
sort_around (variables ys ∷ outer) x = first_sort (sort_in ys x) (sort_around outer x)
sort_around (fixpoint y ∷ outer) x = sort_around outer x

-- whether a fixpoint around has this name
abbrev pub is_fixpoint : List Binder → Name → Bool
is_fixpoint [] x = false
is_fixpoint (variables ys ∷ outer) x = is_fixpoint outer x
is_fixpoint (fixpoint y ∷ outer) x = same_name y x || is_fixpoint outer x

-- ---- state variables and definitions

-- the shapes of what a state variable's indices or a definition's parameters may be, and the kind
-- of its values; a state variable reads the state, and a definition that names what does
pub record Signature : Type 0 where
  pub is_state : Bool
  pub reads_state : Bool
  pub parameters : List Shape
  pub kind : Kind
  pub written : WrittenAs

abbrev pub Signatures : Type 0
Signatures = Name → Option Signature

-- where there is no state, what reads it isn't there
abbrev pub unless_state : Option Signature → Option Signature
unless_state None = None
unless_state (Some f) = if f.reads_state then None else Some f

abbrev pub at_start : Signatures → Signatures
at_start known = λ x. unless_state (known x)

-- `_` stands for any value in sets of steps
abbrev pub is_blank : Named → Bool
is_blank x = same_name x.text (codes "_")

-- what no variable may be called, but a quantifier's in data: a state variable's or a definition's
-- name, and `_`
abbrev pub is_reserved : Signatures → Named → Bool
is_reserved known x = is_some (known x.text) || is_blank x

-- ---- scopes

pub record Scope : Type 0 where
  pub spec : Spec
  pub signatures : Signatures
  pub around : List Binder

abbrev pub inside : Binder → Scope → Scope
inside b s = record { spec = s.spec; signatures = s.signatures; around = b ∷ s.around }

abbrev pub is_empty : {X : Type 0} → List X → Bool
is_empty [] = true
is_empty (x ∷ xs) = false

-- ---- names

abbrev pub enumerator_meaning : Option Position → NameMeaning
enumerator_meaning None = meaning.Nothing
enumerator_meaning (Some p) = meaning.Value (kind.Struct p.sort)

-- a bare name has no indices and no arguments
abbrev pub signature_meaning : Signature → NameMeaning
signature_meaning f =
    if is_empty f.parameters then meaning.Value f.kind else meaning.WithoutArguments

abbrev pub declared_meaning : Option Signature → Option Position → NameMeaning
declared_meaning None e = enumerator_meaning e
declared_meaning (Some f) e = signature_meaning f

abbrev pub meaning_by : Spec → Option Name → Option Signature → Option Position → NameMeaning
meaning_by spec None f e = declared_meaning f e
meaning_by spec (Some sort) f e = meaning.Value (shape_kind (sort_shape spec sort))

-- a variable around, else a state variable or a definition, else an enumerator
abbrev pub name_meaning : Scope → Name → NameMeaning
name_meaning s x =
    meaning_by s.spec (sort_around s.around x) (s.signatures x) (enumerator_of s.spec x)

abbrev pub meaning_kind : NameMeaning → Kind
meaning_kind (meaning.Value k) = k
meaning_kind meaning.WithoutArguments = kind.Unknown
meaning_kind meaning.Nothing = kind.Unknown

-- a name in data that stands for nothing there: T07 where it is that of a fixpoint around
abbrev pub unknown_rule : List Binder → Name → TypingRule
unknown_rule around x = if is_fixpoint around x then rule.PredicateInData else rule.UnknownName

abbrev pub unknown_fault : List Binder → Named → Option TypingFault
unknown_fault around x = fault_at (unknown_rule around x.text) x.place

-- T01 or T07 of a name that stands for nothing, T08 of one without its indices or arguments
abbrev pub meaning_fault : List Binder → NameMeaning → Named → Option TypingFault
meaning_fault around (meaning.Value k) x = None
meaning_fault around meaning.WithoutArguments x = fault_at rule.WrongCount x.place
meaning_fault around meaning.Nothing x = unknown_fault around x
