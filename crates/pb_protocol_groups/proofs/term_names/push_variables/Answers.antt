use Rattle.std.proofs.Common.{◌+◌, ◌∙◌, ◌++◌, List, ◌∷◌, drop, ap, sym, append_assoc}
use Rattle.std.proofs.lemmas.List.{at_drop_more}
use Rattle.pb_text_tree.specs.declared.variable.Variables.{Variables}
use Rattle.pb_text_meaning.specs.Syntax.{Name}
use Rattle.pb_protocol_packing.specs.Groups.{variable_names}
use Rattle.pb_protocol_packer.specs.View.{variables_in}
use Rattle.pb_protocol_packer.specs.Initial.{names_by}
use Rattle.pb_protocol_groups.specs.Names.{variables_of_group}
use Rattle.pb_protocol_groups.proofs.Rows.{variables-more, variable_names-append}
use Rattle.pb_protocol_groups.proofs.term_names.push_variables.Goals as goal

pub loop-group-preserved : goal.loop-group-preserved
loop-group-preserved c =
    let gs = c.args.groups.now in
    let k = c.loop-group.group-index in
    let g = c.group-item.result in
    let more = variables_in (drop (k + 1) gs) in
    c.loop-group.invariant
    ∙ ap (λ (ns : List Name). names_by c.loop-group.names.items ++ ns)
    (at_drop_more (λ (hs : List Variables). variable_names (variables_in hs)) gs k g c.loop-group-test.true
    ∙ ap (λ (h : Variables). variable_names (variables_in (h ∷ drop (k + 1) gs))) (sym c.group-item.is)
    ∙ ap variable_names (variables-more g (drop (k + 1) gs)) ∙ variable_names-append (variables_of_group g) more)
    ∙ sym (append_assoc (names_by c.loop-group.names.items) (variable_names (variables_of_group g)) (variable_names more))
    ∙ ap (λ (ns : List Name). ns ++ variable_names more) (sym c.in_ok-push_group.ensures)
