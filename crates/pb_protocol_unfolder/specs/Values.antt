-- Values in sets of steps, and what is in a set, where names stand for values.
use Rattle.std.specs.Prelude.{Bool, true, List, [], Option, Some, None}
use Rattle.std.specs.Ordering.{int_eq}
use Rattle.pb_base_values.specs.Carrier.{Value}
use Rattle.pb_text_meaning.specs.Syntax.{Term}
use Rattle.pb_text_meaning.specs.Value.{Assignment, value}
use Rattle.pb_protocol_tree.specs.Form.{StepSetForm}
use Rattle.pb_protocol_meaning.specs.Erase.{erased_steps}
use Rattle.pb_protocol_meaning.specs.Meaning.{meaning}
use Rattle.pb_protocol_meaning.specs.Steps.{data_of, fits, functions_at_start}
use Rattle.pb_protocol_unfolding.specs.Unfolding.{Instance, is_in_set, valued, values_of}
use Rattle.pb_protocol_unfolder_terms.specs.declared.scope.TermScope.{TermScope}
use Rattle.pb_protocol_unfolder_steps.specs.declared.unfolder.Unfolder.{Unfolder}
use Rattle.pb_protocol_unfolder_steps.specs.Unfolder.{protocol_in, scope_within}

-- the values that names stand for
abbrev pub valuation : Unfolder → TermScope → Assignment
valuation u scope = valued (data_of (protocol_in u)) [] (scope_within u scope)

-- the value of a term in a set of steps
abbrev pub value_of_named : Unfolder → TermScope → Term → Value
value_of_named u scope x =
    meaning (data_of (protocol_in u)) (functions_at_start (protocol_in u)) (valuation u scope) x

-- whether a value, as it is written, is the one that is named, if one is
abbrev pub is_value : Unfolder → TermScope → Option Term → Term → Bool
is_value u scope None k = true
is_value u scope (Some x) k =
    int_eq (value_of_named u scope x) (value (data_of (protocol_in u)) [] k)

-- whether values, as they are written, are those that are named
abbrev pub are_values : Unfolder → TermScope → List (Option Term) → List Term → Bool
are_values u scope xs ks =
    fits (protocol_in u) (valuation u scope) xs (values_of (protocol_in u) ks)

-- whether a step with its values is in a set
abbrev pub is_member : Unfolder → TermScope → Instance → StepSetForm → Bool
is_member u scope i A = is_in_set (protocol_in u) (scope_within u scope) (erased_steps A) i
