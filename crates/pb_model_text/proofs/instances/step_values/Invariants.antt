use Rattle.std.proofs.Common.{◌≡◌, ◌++◌, map, length}
use Rattle.std.specs.Vec.Iter.{into_iter_items, into_iter_len}
use Rattle.pb_protocol_tree.specs.Form.{step_value_form}
use Rattle.pb_model_text.specs.Links.{step_value_of}
use Rattle.pb_model_text.proofs.instances.step_values.Given as goal

abbrev pub invariant-arguments : goal.invariant-arguments
invariant-arguments l = (l.yielded ++ into_iter_items l.argument-iterator ≡ into_iter_items l.initial.argument-iterator)
    × (map step_value_form l.values.items ≡ map step_value_of l.yielded) × (into_iter_len l.argument-iterator ≡ length (into_iter_items l.argument-iterator))
