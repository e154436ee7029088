use Rattle.std.proofs.Common.{◌≡◌, ◌+◌, List, drop, refl, sym, ◌∙◌, ap, subst}
use Rattle.std.specs.Prelude.{option_map, option_copied}
use Rattle.std.specs.Result.{OnOk}
use Rattle.std.proofs.lemmas.List.{drop_all}
use Rattle.pb_text_tree.specs.declared.variable.Variables.{Variables}
use Rattle.pb_text_tree.specs.Form.{named, variable_forms}
use Rattle.pb_text_printer.specs.Page.{Page, after, page}
use Rattle.pb_text_printer.specs.Parts.{variables_behind}
use Rattle.pb_text_printer.specs.Words.{Word}
use Rattle.pb_text_printer.proofs.PageLemmas.{left-next}
use Rattle.pb_text_printer.proofs.VariableParts.{from-first}
use Rattle.pb_text_printer.proofs.variables.write_variables.Goals as goal

pub loop-group-init : goal.loop-group-init
loop-group-init c = refl

pub loop-group-preserved : goal.loop-group-preserved
loop-group-preserved c =
    c.in_ok-last.ensures (variable_forms (drop (c.loop-group.group-index + 1) c.args.groups.now))
    ∙ ap (λ (gs : List Variables). after (variables_behind (option_map named (option_copied c.loop-group.last)) (variable_forms gs)) (page c.loop-group.out))
    (sym (left-next c.args.groups.now c.loop-group.group-index c.group-item.result c.loop-group-test.true c.group-item.is))
    ∙ c.loop-group.invariant

pub returns : goal.returns
returns c =
    subst (λ (v : Page). OnOk c.write_last_sort.result (page c.write_last_sort.new.out ≡ v))
    (ap (λ (gs : List Variables). after (variables_behind (option_map named (option_copied c.loop-group.last)) (variable_forms gs)) (page c.loop-group.out))
    (sym (drop_all c.loop-group.group-index c.args.groups.now c.loop-group-test.false))
    ∙ c.loop-group.invariant
    ∙ ap (λ (w : List Word). after w (page c.args.out.now)) (sym (from-first (variable_forms c.args.groups.now))))
    c.write_last_sort.ensures
