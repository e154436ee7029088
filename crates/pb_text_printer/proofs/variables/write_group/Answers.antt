use Rattle.std.proofs.Common.{◌++◌, List, refl, sym, ◌∙◌, ap}
use Rattle.std.specs.Prelude.{option_map, option_copied}
use Rattle.std.proofs.lemmas.List.{drop_all}
use Rattle.pb_text_tree.specs.declared.name.Name.{Name}
use Rattle.pb_text_tree.specs.Form.{named}
use Rattle.pb_text_printer.specs.Page.{after, page}
use Rattle.pb_text_printer.specs.Parts.{variables_behind}
use Rattle.pb_text_printer.proofs.VariableParts.{sorted, variable-next}
use Rattle.pb_text_printer.proofs.variables.write_group.Goals as goal

pub loop-name-init : goal.loop-name-init
loop-name-init c = λ vs. refl

pub loop-name-preserved : goal.loop-name-preserved
loop-name-preserved c = λ vs.
    variable-next c.args.group.now.sort c.deref-name-items.result.now c.loop-name.name-index c.name-item.result (option_map named (option_copied c.loop-name.last))
    (page c.loop-name.out) (page c.write_variable.new.out) vs c.loop-name-test.true c.name-item.is c.in_ok-write_variable.ensures
    ∙ c.loop-name.invariant vs

pub returns : goal.returns
returns c = λ vs.
    ap (λ (ns : List Name). after (variables_behind (option_map named (option_copied c.loop-name.last)) (sorted c.args.group.now.sort ns ++ vs)) (page c.loop-name.out))
    (sym (drop_all c.loop-name.name-index c.deref-name-items.result.now c.loop-name-test.false))
    ∙ c.loop-name.invariant vs
    ∙ ap (λ (ns : List Name). after (variables_behind (option_map named (option_copied c.args.before)) (sorted c.args.group.now.sort ns ++ vs)) (page c.args.out.now)) c.deref-name-items.ensures.value
