use Rattle.std.proofs.Common.{◌≡◌, drop, map}
use Rattle.pb_typing_declarations.specs.Entries.{carrier_shape}
use Rattle.pb_protocol_tree.specs.Form.{step_value_form}
use Rattle.pb_protocol_typing.specs.Sets.{values_fault}
use Rattle.pb_protocol_typing.specs.View.{scope_of}
use Rattle.pb_protocol_typing.proofs.step_set.values_fault.Given as goal

-- the first fault is that of the values that are left
abbrev pub invariant-loop-index : goal.invariant-loop-index
invariant-loop-index l =
    values_fault (scope_of l.scope) 0 (map carrier_shape l.own) (map step_value_form l.values)
    ≡ values_fault (scope_of l.scope) l.index (map carrier_shape l.own) (map step_value_form (drop l.index l.values))
