use Rattle.std.proofs.Common.{ap, ◌∙◌}
use Rattle.std.specs.List.{list_any}
use Rattle.pb_fixpoint_trees.specs.Kinds.{kind_is_cut, woven}
use Rattle.pb_fixpoint_trees.specs.Row.{token_is_cut}
use Rattle.pb_fixpoint_trees.proofs.Split.{any-cut}
use Rattle.pb_fixpoint_trees.proofs.token_lists.TokenLists.any_cut.Goals as goal

pub returns : goal.returns
returns c =
    let kinds = c.self.inside.kinds.items in let calls = c.self.inside.calls.items in
    c.any_cut.ensures
    ∙ (ap (list_any kind_is_cut) (c.deref.ensures.value ∙ c.self.invariant.of_kinds)
    ∙ (any-cut (woven kinds calls) ∙ ap (list_any token_is_cut) c.self.view_is))
