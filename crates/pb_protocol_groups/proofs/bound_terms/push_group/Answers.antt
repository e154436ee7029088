use Rattle.std.proofs.Common.{◌++◌, ◌∙◌, ap, sym, map, List}
use Rattle.pb_text_tree.specs.Form.{Named, named}
use Rattle.pb_protocol_typing.specs.View.{names_in}
use Rattle.pb_protocol_groups.proofs.Bound.{group-names}
use Rattle.pb_protocol_groups.proofs.bound_terms.push_group.Goals as goal

pub loop-name-init : goal.loop-name-init
loop-name-init c =
    ap (λ (xs : List Named). names_in c.args.names.now.items ++ xs)
    (group-names (named c.args.group.now.sort) c.args.group.now.names.items ∙ ap (map named) (sym c.deref-name-items.ensures.value))
