use Rattle.std.proofs.Common.{◌≡◌, ◌++◌, map, length}
use Rattle.std.specs.Vec.Iter.{into_iter_items, into_iter_len}
use Rattle.pb_protocol_tree.specs.Form.{step_set_form, formula_form}
use Rattle.pb_protocol_tree.specs.Links.{link_forms}
use Rattle.pb_model_text.specs.Words.{unfair_to_others}
use Rattle.pb_model_text.proofs.pattern.unfair_to_others.Given as goal

abbrev pub invariant-others : goal.invariant-others
invariant-others l = (l.yielded ++ into_iter_items l.steps-iterator ≡ into_iter_items l.initial.steps-iterator)
    × (link_forms l.links.items ≡ unfair_to_others l.place (formula_form l.operand) (map step_set_form l.yielded))
    × (into_iter_len l.steps-iterator ≡ length (into_iter_items l.steps-iterator))
