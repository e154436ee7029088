use Rattle.std.proofs.Common.{◌∙◌, sym, map, refl}
use Rattle.std.specs.List.{list_all}
use Rattle.pb_protocol_tree.specs.Form.{step_set_form}
use Rattle.pb_protocol_unfolder.specs.Plain.{is_plain_set}
use Rattle.pb_protocol_unfolder.specs.View.{set_operand}
use Rattle.pb_protocol_unfolder.proofs.PlainChains.{at-false, at-true, set-united}
use Rattle.pb_protocol_unfolder.proofs.plain_test.+plain_sets.Goals as goal

pub is_plain_set-returns-then-not-is_plain_set : goal.is_plain_set-returns-then-not-is_plain_set
is_plain_set-returns-then-not-is_plain_set t c =
    let whole = set-united c.deref-in-Union.result.now c.in-Union.first c.in-Union.links c.in-Union.links.items c.args.set.now c.in-Union.is c.deref-in-Union.ensures refl in
    at-false (is_plain_set (step_set_form c.deref-in-Union.result.now)) (list_all is_plain_set (map set_operand c.in-Union.links.items)) (is_plain_set (step_set_form c.args.set.now)) whole
    (sym c.is_plain_set-in-Union.ensures ∙ c.if-not-is_plain_set.true)

pub is_plain_set-returns-else-not-is_plain_set : goal.is_plain_set-returns-else-not-is_plain_set
is_plain_set-returns-else-not-is_plain_set t c =
    let x = c.deref-in-Union.result.now in
    let links = c.deref-in-Union-2.result.now in
    let whole = set-united x c.in-Union.first c.in-Union.links links c.args.set.now c.in-Union.is c.deref-in-Union.ensures c.deref-in-Union-2.ensures.value in
    c.are_plain_sets.ensures ∙ at-true (is_plain_set (step_set_form x)) (list_all is_plain_set (map set_operand links)) (is_plain_set (step_set_form c.args.set.now)) whole
    (sym c.is_plain_set-in-Union.ensures ∙ c.if-not-is_plain_set.false)
