use Rattle.std.proofs.Common.{◌≡◌, map, drop}
use Rattle.pb_protocol_tree.specs.Form.{step_value_form}
use Rattle.pb_protocol_meaning.specs.Erase.{erased_value}
use Rattle.pb_protocol_unfolder_terms.specs.Values.{written_term}
use Rattle.pb_protocol_unfolder.specs.Values.{are_values}
use Rattle.pb_protocol_unfolder.proofs.set.are_values.Given as goal

-- those in front are the named ones
abbrev pub invariant-loop-place : goal.invariant-loop-place
invariant-loop-place l =
    are_values l.unfolder l.scope.names (map erased_value (map step_value_form (drop l.place l.named)))
    (map written_term (drop l.place l.own))
    ≡ are_values l.unfolder l.scope.names (map erased_value (map step_value_form l.named)) (map written_term l.own)
