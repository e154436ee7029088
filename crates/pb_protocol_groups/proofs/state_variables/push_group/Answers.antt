use Rattle.std.proofs.Common.{◌++◌, ◌∙◌, ap, sym, List}
use Rattle.pb_text_meaning.specs.Syntax.{Variable}
use Rattle.pb_text_tree.specs.declared.name.Name as declared_name
use Rattle.pb_protocol_groups.specs.Variables.{variables_of_state}
use Rattle.pb_protocol_groups.proofs.Rows.{variables_by, group-variables}
use Rattle.pb_protocol_groups.proofs.state_variables.push_group.Goals as goal

pub loop-name-init : goal.loop-name-init
loop-name-init c =
    ap (λ (xs : List Variable). variables_of_state c.args.variables.now.items ++ xs)
    (group-variables c.args.group.now ∙ ap (λ (ns : List declared_name.Name). variables_by c.args.group.now.sort ns) (sym c.deref-name-items.ensures.value))
