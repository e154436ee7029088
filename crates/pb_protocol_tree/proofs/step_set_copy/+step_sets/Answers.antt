use Rattle.std.proofs.Common.{◌∙◌, ap}
use Rattle.pb_protocol_tree.specs.Links.{step_set_links}
use Rattle.pb_protocol_tree.proofs.CopyLemmas.{union-copied}
use Rattle.pb_protocol_tree.proofs.step_set_copy.+step_sets.Goals as goal

pub copy_step_set-returns-in_ok-copy_links-in-Union : goal.copy_step_set-returns-in_ok-copy_links-in-Union
copy_step_set-returns-in_ok-copy_links-in-Union t c =
    union-copied c.in_ok-copy_boxed-in-Union.field-0 c.in-Union.first c.in_ok-copy_links-in-Union.field-0 c.in-Union.links c.args.set.now c.in-Union.is
    c.in_ok-copy_boxed-in-Union.ensures (c.in_ok-copy_links-in-Union.ensures ∙ ap step_set_links c.deref-in-Union.ensures.value)
