-- The kind of a data term of a protocol, and its first fault: a name that stands for nothing there
-- (T01, T07), a wrong number of indices or arguments (T08), an operand or argument of another kind
-- (T04).
use Rattle.std.specs.Prelude.{ℕ, ◌+◌, Bool, false, ◌||◌, List, [], ◌∷◌, length, Option, Some}
use Rattle.std.specs.Prelude.{None}
use Rattle.std.specs.List.{slice_get}
use Rattle.pb_text_tree.specs.declared.place.Place.{Place}
use Rattle.pb_text_tree.specs.Form.{TermForm, ArgumentForms, no_arguments, argument}
use Rattle.pb_typing_declarations.specs.Shapes as shapes
use Rattle.pb_text_meaning.specs.Syntax.{Name}
use Rattle.pb_typing_declarations.specs.Shapes.{Shape}
use Rattle.pb_typing_declarations.specs.declared.fault.TypingFault.{TypingFault}
use Rattle.pb_typing_declarations.specs.declared.fault.TypingRule.TheVariants.{WrongKind}
use Rattle.pb_protocol_typing.specs.declared.kind.Kind.{Kind}
use Rattle.pb_protocol_typing.specs.declared.kind.Kind.TheVariants.{Truth, Whole}
use Rattle.pb_protocol_typing.specs.Fault.{fault_unless, either_fault}
use Rattle.pb_protocol_typing.specs.Kinds.{shape_kind, agree, are_whole, are_compared}
use Rattle.pb_protocol_typing.specs.Kinds.{truth_fault, whole_fault}
use Rattle.pb_protocol_typing.specs.Scopes.{Signature, Scope, variables, inside, sort_around}
use Rattle.pb_protocol_typing.specs.Scopes.{name_meaning, meaning_kind, meaning_fault}
use Rattle.pb_protocol_typing.specs.Functions.{Called, Declared, Function', Scalar, Nothing}
use Rattle.pb_protocol_typing.specs.Functions.{called, called_kind, called_parameters}
use Rattle.pb_protocol_typing.specs.Functions.{naming_fault, taking_fault}

-- the kind of a term's values, for any term
abbrev mutual
  pub kind : Scope → TermForm → Kind
  kind s (TermForm.constant p b) = Truth
  kind s (TermForm.number p n) = Whole
  kind s (TermForm.name x) = meaning_kind (name_meaning s x.text)
  kind s (TermForm.not p x) = Truth
  kind s (TermForm.negative p x) = Whole
  kind s (TermForm.connected c p x y) = Truth
  kind s (TermForm.compared c p x y) = Truth
  kind s (TermForm.computed o p x y) = Whole
  kind s (TermForm.application f xs) = called_kind (called s f.text) (kinds s xs)
  kind s (TermForm.quantified q p xs x) = Truth

  pub kinds : Scope → ArgumentForms → List Kind
  kinds s no_arguments = []
  kinds s (argument p x xs) = kind s x ∷ kinds s xs

-- what may stand at a place among these, and nothing that is known behind them
abbrev pub known_shape : Option Shape → Shape
known_shape None = shapes.Unknown
known_shape (Some h) = h

abbrev pub shape_at : List Shape → ℕ → Shape
shape_at hs n = known_shape (slice_get hs n)

abbrev pub kind_at : List Shape → ℕ → Kind
kind_at hs n = shape_kind (shape_at hs n)

abbrev mutual
  pub term_fault : Scope → TermForm → Option TypingFault
  term_fault s (TermForm.constant p b) = None
  term_fault s (TermForm.number p n) = None
  term_fault s (TermForm.name x) = meaning_fault s.around (name_meaning s x.text) x
  term_fault s (TermForm.not p x) = either_fault (term_fault s x) (truth_fault (kind s x) p)
  term_fault s (TermForm.negative p x) = either_fault (term_fault s x) (whole_fault (kind s x) p)
  term_fault s (TermForm.connected c p x y) =
      either_fault (term_fault s x)
      (either_fault (truth_fault (kind s x) p)
      (either_fault (term_fault s y) (truth_fault (kind s y) p)))
  term_fault s (TermForm.compared c p x y) =
      either_fault (term_fault s x)
      (either_fault (term_fault s y)
      (fault_unless (are_compared c (kind s x) (kind s y)) WrongKind p))
  term_fault s (TermForm.computed o p x y) =
      either_fault (term_fault s x)
      (either_fault (term_fault s y) (fault_unless (are_whole (kind s x) (kind s y)) WrongKind p))
  term_fault s (TermForm.application f xs) =
      either_fault (naming_fault (called s f.text) s.around f (length (kinds s xs)))
      (either_fault (arguments_fault s 0 (called_parameters (called s f.text)) xs)
      (taking_fault (called s f.text) f (kinds s xs)))
  term_fault s (TermForm.quantified q p xs x) =
      either_fault (term_fault (inside (variables xs) s) x)
      (truth_fault (kind (inside (variables xs) s) x) p)

  -- arguments from the one at n on, each of the kind of the parameter at its place
  pub arguments_fault : Scope → ℕ → List Shape → ArgumentForms → Option TypingFault
  arguments_fault s n parameters no_arguments = None
  arguments_fault s n parameters (argument p x xs) =
      either_fault (term_fault s x)
      (either_fault (fault_unless (agree (kind s x) (kind_at parameters n)) WrongKind p)
      (arguments_fault s (n + 1) parameters xs))

-- a condition: a term that is a Boolean (T04 at the place)
abbrev pub condition_fault : Scope → Place → TermForm → Option TypingFault
condition_fault s p x = either_fault (term_fault s x) (truth_fault (kind s x) p)

-- a term of a kind (T04 at the place)
abbrev pub value_fault : Scope → Kind → Place → TermForm → Option TypingFault
value_fault s k p x = either_fault (term_fault s x) (fault_unless (agree (kind s x) k) WrongKind p)

-- ---- what reads the state

-- a bare name: a variable around reads nothing
abbrev pub name_reads : Option Name → Option Signature → Bool
name_reads (Some sort) f = false
name_reads None None = false
name_reads None (Some f) = f.reads_state

abbrev pub called_reads : Called → Bool
called_reads (Declared f) = f.reads_state
called_reads (Function' g) = false
called_reads Scalar = false
called_reads Nothing = false

-- a term that names the state, or a definition that does
abbrev mutual
  pub reads_state : Scope → TermForm → Bool
  reads_state s (TermForm.constant p b) = false
  reads_state s (TermForm.number p n) = false
  reads_state s (TermForm.name x) = name_reads (sort_around s.around x.text) (s.signatures x.text)
  reads_state s (TermForm.not p x) = reads_state s x
  reads_state s (TermForm.negative p x) = reads_state s x
  reads_state s (TermForm.connected c p x y) = reads_state s x || reads_state s y
  reads_state s (TermForm.compared c p x y) = reads_state s x || reads_state s y
  reads_state s (TermForm.computed o p x y) = reads_state s x || reads_state s y
  reads_state s (TermForm.application f xs) = called_reads (called s f.text) || some_reads s xs
  reads_state s (TermForm.quantified q p xs x) = reads_state (inside (variables xs) s) x

  pub some_reads : Scope → ArgumentForms → Bool
  some_reads s no_arguments = false
  some_reads s (argument p x xs) = reads_state s x || some_reads s xs
