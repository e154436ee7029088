-- The values of a sort as the code finds them.
use Rattle.std.specs.Prelude.{◌≡◌, ◌<◌, Bool, true, false, List, [], ◌∷◌, map, length, string_bytes, Vec}
use Rattle.std.specs.Prelude.{Option, Some, None}
use Rattle.std.specs.declared.alloc.Global.{Global}
use Rattle.pb_base_values.specs.Carrier.{interval}
use Rattle.pb_base_values.specs.Interval.{IntegerInterval, unless_empty}
use Rattle.pb_text_tree.specs.declared.place.Place.{Place}
use Rattle.pb_text_tree.specs.declared.sort.Enumerator as declared_enumerator
use Rattle.pb_text_tree.specs.Form.{enumerator_form}
use Rattle.pb_text_meaning.specs.Syntax.{Name, same_name, Term, Enumerator}
use Rattle.pb_text_meaning.specs.Erase.{erased_enumerator}
use Rattle.pb_protocol_folding.specs.Folding.{number}
use Rattle.pb_base.specs.OrMemory.{IfFault}
use Rattle.pb_base.specs.declared.or_memory.OrMemory.{OrMemory}
use Rattle.pb_protocol_unfolder_terms.specs.Bounds.{places, truths}
use Rattle.pb_protocol_unfolder_terms.specs.declared.fault.UnfoldRule.TheVariants as rule
use Rattle.pb_protocol_unfolder_terms.specs.declared.fault.UnfoldFault.{UnfoldFault}
use Rattle.pb_protocol_unfolder_terms.specs.declared.written.Written as declared_written
use Rattle.pb_protocol_unfolder_terms.specs.declared.written.Written.TheVariants as written
use Rattle.pb_protocol_unfolder_terms.specs.declared.written.Values as declared_values
use Rattle.pb_protocol_unfolder_terms.specs.declared.written.Values.TheVariants as values

abbrev pub enumerators_said : List declared_enumerator.Enumerator → List Enumerator
enumerators_said es = map erased_enumerator (map enumerator_form es)

-- whether an enumerator has this name
abbrev pub is_named : Name → Enumerator → Bool
is_named x e = same_name e.name x

abbrev pub named_by : Enumerator → Term
named_by e = Term.Named e.name

abbrev pub values_in : declared_values.Values → List Term
values_in (values.Numbers low high) = map number (interval low high)
values_in values.Truths = Term.Truth false ∷ Term.Truth true ∷ []
values_in (values.Enumerators es) = map named_by (enumerators_said es.now)
values_in values.Unknown = []

-- between which numbers they stay
abbrev pub interval_of : declared_values.Values → Option IntegerInterval
interval_of (values.Numbers low high) = unless_empty (record { low = low; high = high })
interval_of values.Truths = Some truths
interval_of (values.Enumerators es) = unless_empty (places (length (enumerators_said es.now)))
interval_of values.Unknown = None

abbrev pub too_many : Place → UnfoldFault
too_many place = record { rule = rule.Values; place = place }

-- the error, if it is a fault, stands at the place and says that the list is too long
abbrev pub IsTooLong : {A : Type 0} → List A → Place → OrMemory UnfoldFault → Type 0
IsTooLong xs place error = IfFault error (λ fault.
    (fault ≡ too_many place) × (8192 < length xs))

-- a written value as a term
abbrev pub written_term : declared_written.Written → Term
written_term (written.Truth b) = Term.Truth b
written_term (written.Number n) = Term.Number n
written_term (written.Negative n) = Term.Negative (Term.Number n)
written_term (written.Enumerator x) = Term.Named (string_bytes x.now.text)

abbrev pub tuple_of : Vec declared_written.Written Global → List Term
tuple_of v = map written_term v.items

-- each tuple with a value in front
abbrev pub with_each : Term → List (List Term) → List (List Term)
with_each k tuples = map (λ (ks : List Term). k ∷ ks) tuples
