use Rattle.std.proofs.Common.{◌++◌, map, refl, ap, ◌∙◌}
use Rattle.pb_fixpoint_trees.specs.Kinds.{IsSplit, calls_in, kind_of}
use Rattle.pb_fixpoint_trees.proofs.Split.{seen_split, split-append, woven_is, woven_split}
use Rattle.pb_fixpoint_trees.proofs.token_lists.TokenLists.append.Goals as goal
use Rattle.pb_fixpoint_trees.proofs.token_lists.TokenLists.append.Goals.{After-push_each}

both : (c : After-push_each) → IsSplit (c.args.self.now ++ c.args.more.now) c.push_each.new.kinds.items c.push_each.new.calls.items
both c =
    let kinds = c.self.inside.kinds.items in let calls = c.self.inside.calls.items in let more = c.args.more.now in
    split-append c.args.self.now more kinds (map kind_of more) calls (calls_in more)
    (seen_split c.args.self.now kinds calls c.self.view_is c.self.invariant)
    (record { of_kinds = refl; of_numbers = refl })
    c.push_each.new.kinds.items c.push_each.new.calls.items
    (c.push_each.ensures.kinds ∙ ap (λ l. l ++ map kind_of more) c.in_ok-reserve.ensures.items)
    (c.push_each.ensures.calls ∙ ap (λ l. l ++ calls_in more) c.in_ok-reserve-2.ensures.items)

pub invariant_of-self-2 : goal.invariant_of-self-2
invariant_of-self-2 c = woven_split _ _ _ (both (goal.at.invariant_of-self-2 c).After-push_each)

pub returns-clause-ok : goal.returns-clause-ok
returns-clause-ok c = woven_is _ _ _ (both (goal.at.returns-clause-ok c).After-push_each)
