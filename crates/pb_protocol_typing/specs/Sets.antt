-- The first fault of a set of steps: a step that isn't there (T01), a wrong number of values (T08),
-- a value of another kind than the step's own variable (T04) or outside its sort (T11).
--
-- A value is `_`, a quantifier's variable around, an enumerator, a number, a truth value, or the
-- name of a definition without state that stands for one of these three. Another term is of the
-- wrong kind (T04), and a name that is none of these is unknown (T01).
use Rattle.std.specs.Prelude.{ℕ, ◌+◌, ◌==◌, ◌&&◌, pos, neg_ℤ, int_le, Bool, true, false, List, []}
use Rattle.std.specs.Prelude.{◌∷◌, length, Option, Some, None, is_some}
use Rattle.pb_text_tree.specs.declared.place.Place.{Place}
use Rattle.pb_text_tree.specs.Form.{Named}
use Rattle.pb_text_meaning.specs.Syntax.{Name}
use Rattle.pb_typing_declarations.specs.Shapes.{Shape, Unknown, Truths, Places, Wholes, sort_shape}
use Rattle.pb_typing_declarations.specs.Enumerators.{Position, enumerator_of}
use Rattle.pb_typing_declarations.specs.declared.fault.TypingFault.{TypingFault}
use Rattle.pb_typing_declarations.specs.declared.fault.TypingRule.TheVariants as rule
use Rattle.pb_protocol_tree.specs.Form.{StepValueForm, StepSetForm}
use Rattle.pb_protocol_typing.specs.declared.kind.Kind.{Kind}
use Rattle.pb_protocol_typing.specs.declared.kind.Kind.TheVariants as kind
use Rattle.pb_protocol_typing.specs.Fault.{fault_at, fault_unless, either_fault}
use Rattle.pb_protocol_typing.specs.Kinds.{shape_kind, agree}
use Rattle.pb_protocol_typing.specs.declared.written_as.WrittenAs.{WrittenAs}
use Rattle.pb_protocol_typing.specs.declared.written_as.WrittenAs.TheVariants as written_as
use Rattle.pb_protocol_typing.specs.Scopes.{Scope, Signature, is_empty, sort_around, unless_state}
use Rattle.pb_protocol_typing.specs.Terms.{shape_at}
use Rattle.pb_protocol_typing.specs.Written.{Written, Boolean, Number, Alone, Other, written}

-- the shapes of a step's own variables
abbrev pub StepShapes : Type 0
StepShapes = Name → Option (List Shape)

-- T04: a value of this kind where one of this shape stands
abbrev pub kind_fault : Kind → Shape → Place → Option TypingFault
kind_fault k h p = fault_unless (agree k (shape_kind h)) rule.WrongKind p

-- whether a number is within an interval
abbrev pub is_within : Shape → Bool → ℕ → Bool
is_within (Wholes low high) false n = int_le low (pos n) && int_le (pos n) high
is_within (Wholes low high) true n =
    int_le low (neg_ℤ (pos n)) && int_le (neg_ℤ (pos n)) high
is_within Unknown b n = true
is_within Truths b n = true
is_within (Places sort count) b n = true

-- whether each whole number of one shape is one of the other
abbrev pub is_included : Shape → Shape → Bool
is_included (Wholes low high) (Wholes least greatest) = int_le least low && int_le high greatest
is_included g h = true

-- ---- values

abbrev pub variable_fault : Shape → Shape → Place → Option TypingFault
variable_fault g h p =
    either_fault (kind_fault (shape_kind g) h p)
    (fault_unless (is_included g h) rule.OutsideCarrier p)

abbrev pub enumerator_fault : Option Position → Shape → Place → Named → Option TypingFault
enumerator_fault None h p x = fault_at rule.UnknownName x.place
enumerator_fault (Some e) h p x = kind_fault (kind.Struct e.sort) h p

-- a number, which stands at the place
abbrev pub number_fault : Shape → Place → Bool → ℕ → Option TypingFault
number_fault h p b n =
    either_fault (kind_fault kind.Whole h p) (fault_unless (is_within h b n) rule.OutsideCarrier p)

-- what a definition stands for, which has this kind
abbrev pub written_as_fault : Kind → Shape → Place → WrittenAs → Option TypingFault
written_as_fault k h p (written_as.Number b n) = number_fault h p b n
written_as_fault k h p written_as.OfKind = kind_fault k h p
written_as_fault k h p written_as.Calculated = fault_at rule.WrongKind p

-- T08: a definition stands without arguments
abbrev pub definition_fault : Signature → Shape → Place → Named → Option TypingFault
definition_fault f h p x =
    either_fault (fault_unless (is_empty f.parameters) rule.WrongCount x.place)
    (written_as_fault f.kind h p f.written)

abbrev pub declared_fault :
    Option Signature → Option Position → Shape → Place → Named → Option TypingFault
declared_fault None e h p x = enumerator_fault e h p x
declared_fault (Some f) e h p x = definition_fault f h p x

abbrev pub alone_fault :
    Scope → Option Name → Option Signature → Option Position → Shape → Place → Named →
    Option TypingFault
alone_fault s None f e h p x = declared_fault f e h p x
alone_fault s (Some sort) f e h p x = variable_fault (sort_shape s.spec sort) h p

abbrev pub written_fault : Scope → Shape → Place → Written → Option TypingFault
written_fault s h p (Boolean b) = kind_fault kind.Truth h p
written_fault s h p (Number b n) = number_fault h p b n
written_fault s h p (Alone x) =
    alone_fault s (sort_around s.around x.text) (unless_state (s.signatures x.text))
    (enumerator_of s.spec x.text) h p x
written_fault s h p Other = fault_at rule.WrongKind p

abbrev pub step_value_fault : Scope → Shape → StepValueForm → Option TypingFault
step_value_fault s h (StepValueForm.any_value p) = None
step_value_fault s h (StepValueForm.given p x) = written_fault s h p (written x)

-- values from the one at n on
abbrev pub values_fault : Scope → ℕ → List Shape → List StepValueForm → Option TypingFault
values_fault s n hs [] = None
values_fault s n hs (v ∷ vs) =
    either_fault (step_value_fault s (shape_at hs n) v) (values_fault s (n + 1) hs vs)

-- ---- sets

abbrev pub instances_fault :
    Scope → Option (List Shape) → Named → List StepValueForm → Option TypingFault
instances_fault s None x vs = fault_at rule.UnknownName x.place
instances_fault s (Some hs) x vs =
    either_fault (fault_unless (length vs == length hs) rule.WrongCount x.place)
    (values_fault s 0 hs vs)

abbrev pub set_fault : StepShapes → Scope → StepSetForm → Option TypingFault
set_fault steps s (StepSetForm.all p) = None
set_fault steps s (StepSetForm.step x) =
    fault_unless (is_some (steps x.text)) rule.UnknownName x.place
set_fault steps s (StepSetForm.instances x vs) = instances_fault s (steps x.text) x vs
set_fault steps s (StepSetForm.complement p A) = set_fault steps s A
set_fault steps s (StepSetForm.union p A B) =
    either_fault (set_fault steps s A) (set_fault steps s B)
