use Rattle.std.proofs.Common.{◌∙◌, ◌+◌, ap, sym, drop, List}
use Rattle.pb_text_tree.specs.declared.variable.Variables.{Variables}
use Rattle.pb_text_tree.specs.Form.{variable_forms}
use Rattle.pb_text_printer.specs.Parts.{are_none}
use Rattle.pb_text_printer.proofs.PageLemmas.{left-next}
use Rattle.pb_text_printer.proofs.TextParts.{group-none, group-some}
use Rattle.pb_text_printer.proofs.text.are_none.Goals as goal

pub returns-then-not-has_no_name : goal.returns-then-not-has_no_name
returns-then-not-has_no_name c =
    sym (group-some c.group-item.result (drop (c.loop-group.group-index + 1) c.args.groups.now) c.deref.result.now c.deref.ensures.value c.if-not-has_no_name.ensures)
    ∙ ap (λ (gs : List Variables). are_none (variable_forms gs)) (sym (left-next c.args.groups.now c.loop-group.group-index c.group-item.result c.loop-group-test.true c.group-item.is))
    ∙ c.loop-group.invariant

pub loop-group-preserved : goal.loop-group-preserved
loop-group-preserved c =
    group-none c.group-item.result (drop (c.loop-group.group-index + 1) c.args.groups.now) c.deref.result.now c.deref.ensures.value c.if-not-has_no_name.ensures
    ∙ ap (λ (gs : List Variables). are_none (variable_forms gs)) (sym (left-next c.args.groups.now c.loop-group.group-index c.group-item.result c.loop-group-test.true c.group-item.is))
    ∙ c.loop-group.invariant
