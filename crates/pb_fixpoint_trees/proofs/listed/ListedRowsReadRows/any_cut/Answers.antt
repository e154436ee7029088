use Rattle.std.proofs.Common.{All, subst}
use Rattle.pb_fixpoint_trees.specs.Row.{HasNoCut, ListHasNoCut}
use Rattle.pb_fixpoint_trees.proofs.NoCut.{in_listed}
use Rattle.pb_fixpoint_trees.proofs.listed.ListedRowsReadRows.any_cut.Goals as goal

pub returns : goal.returns
returns c = λ none.
    let lists = c.self.inside.lists.items in
    let each : All ListHasNoCut lists = subst (All ListHasNoCut) c.deref.ensures.value (c.any_list_has_cut.ensures none) in
    subst (All HasNoCut) c.self.view_is (in_listed lists c.self.inside.entries.items each c.self.invariant)
