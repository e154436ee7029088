use Rattle.std.proofs.Common.{◌∙◌, ap}
use Rattle.pb_model_invariants.specs.Links.{set_links}
use Rattle.pb_model_invariants.proofs.CopyLemmas.{union-copied}
use Rattle.pb_model_invariants.proofs.step_set_copy.+step_sets.Goals as goal

pub copy_step_set-returns-in_ok-copy_set_links-in-Union : goal.copy_step_set-returns-in_ok-copy_set_links-in-Union
copy_step_set-returns-in_ok-copy_set_links-in-Union t c =
    union-copied c.in_ok-copy_boxed_set-in-Union.field-0 c.in-Union.first c.in_ok-copy_set_links-in-Union.field-0 c.in-Union.links c.args.steps.now c.in-Union.is
    c.in_ok-copy_boxed_set-in-Union.ensures (c.in_ok-copy_set_links-in-Union.ensures ∙ ap set_links c.deref.ensures.value)
