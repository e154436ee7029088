use Rattle.std.proofs.Common.{◌≡◌, ◌∙◌, map, ap}
use Rattle.pb_text_tree.specs.Form.{named}
use Rattle.pb_text_tree.proofs.CopyLemmas.{group-copied}
use Rattle.pb_text_tree.proofs.variable_copies.copy_group.Goals as goal

pub returns : goal.returns
returns c =
    let names : map named c.in_ok-names.names.items ≡ map named c.args.group.now.names.items = c.in_ok-names.ensures ∙ ap (map named) c.deref.ensures.value in
    group-copied (record { names = c.in_ok-names.names; sort = c.in_ok-sort.sort }) c.args.group.now names c.in_ok-sort.ensures
