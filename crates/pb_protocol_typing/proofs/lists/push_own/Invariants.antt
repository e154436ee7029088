use Rattle.std.proofs.Common.{◌≡◌, ◌++◌, drop, flat_map, map}
use Rattle.pb_protocol_tree.specs.Form.{step_form}
use Rattle.pb_protocol_typing.specs.Lists.{own_lists}
use Rattle.pb_protocol_typing.specs.View.{list_forms}
use Rattle.pb_protocol_typing.proofs.lists.push_own.Given as goal

-- the lists so far, and those that are left
abbrev pub invariant-loop-step : goal.invariant-loop-step
invariant-loop-step l =
    list_forms l.fn.lists.items ++ flat_map own_lists (map step_form l.steps)
    ≡ list_forms l.lists.items ++ flat_map own_lists (map step_form (drop l.step-index l.steps))
