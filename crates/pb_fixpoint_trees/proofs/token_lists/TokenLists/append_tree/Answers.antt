use Rattle.std.proofs.Common.{◌++◌, ap, ◌∙◌}
use Rattle.pb_fixpoint_trees.specs.Kinds.{IsSplit}
use Rattle.pb_fixpoint_trees.proofs.Split.{seen_split, split-append, woven_is, woven_split}
use Rattle.pb_fixpoint_trees.proofs.token_lists.TokenLists.append_tree.Goals as goal
use Rattle.pb_fixpoint_trees.proofs.token_lists.TokenLists.append_tree.Goals.{In_ok-extend_from_slice-2}

both : (c : In_ok-extend_from_slice-2) → IsSplit (c.args.self.now ++ c.args.more.now) c.extend_from_slice.new.self.items c.extend_from_slice-2.new.self.items
both c =
    let kinds = c.self.inside.kinds.items in let calls = c.self.inside.calls.items in
    let others = c.more.inside.kinds.now in let numbers = c.more.inside.calls.now in
    split-append c.args.self.now c.args.more.now kinds others calls numbers
    (seen_split c.args.self.now kinds calls c.self.view_is c.self.invariant)
    (seen_split c.args.more.now others numbers c.more.view_is c.more.invariant.0)
    c.extend_from_slice.new.self.items c.extend_from_slice-2.new.self.items
    c.in_ok-extend_from_slice.ensures.items
    (c.in_ok-extend_from_slice-2.ensures.items ∙ ap (λ l. l ++ numbers) c.in_ok-reserve.ensures.items)

pub invariant_of-self-2 : goal.invariant_of-self-2
invariant_of-self-2 c = woven_split _ _ _ (both (goal.at.invariant_of-self-2 c).In_ok-extend_from_slice-2)

pub returns-clause-ok : goal.returns-clause-ok
returns-clause-ok c = woven_is _ _ _ (both (goal.at.returns-clause-ok c).In_ok-extend_from_slice-2)
