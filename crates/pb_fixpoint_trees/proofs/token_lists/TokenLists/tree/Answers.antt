use Rattle.std.proofs.Common.{length, take, drop, ap, ◌∙◌, arith}
use Rattle.pb_fixpoint_trees.specs.Entries.{tree_at}
use Rattle.pb_fixpoint_trees.specs.Kinds.{IsSplit}
use Rattle.pb_fixpoint_trees.proofs.Entries.{tree_long}
use Rattle.pb_fixpoint_trees.proofs.Split.{calls_within, kinds_long, seen_split, split-tree, woven_is, woven_split}
use Rattle.pb_fixpoint_trees.proofs.token_lists.TokenLists.tree.Goals as goal
use Rattle.pb_fixpoint_trees.proofs.token_lists.TokenLists.tree.Goals.{After-part-2, After-self}

whole : (c : After-self) → IsSplit c.args.self.now c.self.inside.kinds.items c.self.inside.calls.items
whole c = seen_split c.args.self.now c.self.inside.kinds.items c.self.inside.calls.items c.self.view_is c.self.invariant

parts : (c : After-part-2) → IsSplit (tree_at c.args.self.now c.args.entry) c.part.result.now c.part-2.result.now
parts c =
    let e = c.args.entry in
    let split = split-tree c.args.self.now c.self.inside.kinds.items c.self.inside.calls.items e (whole (goal.at.returns c).After-self) c.requires in
    record {
      of_kinds = c.part.ensures ∙ (ap (λ l. take e.count (drop e.first l)) c.deref.ensures.value ∙ split.of_kinds);
      of_numbers = c.part-2.ensures ∙ (ap (λ l. take e.calls (drop e.first_call l)) c.deref-2.ensures.value ∙ split.of_numbers);
    }

pub part-requires : goal.part-requires
part-requires c =
    let n = kinds_long c.args.self.now c.self.inside.kinds.items c.self.inside.calls.items (whole (goal.at.part-requires c).After-self) in
    omega (arith, n, ap length c.deref.ensures.value, c.requires.within)

pub part-requires-2 : goal.part-requires-2
part-requires-2 c =
    let n = ap length (whole (goal.at.part-requires-2 c).After-self).of_numbers in
    omega (arith, n, ap length c.deref-2.ensures.value, calls_within c.args.self.now c.args.entry c.requires)

pub invariant_of-result : goal.invariant_of-result
invariant_of-result c =
    let tree = tree_at c.args.self.now c.args.entry in
    let split = parts (goal.at.invariant_of-result c).After-part-2 in
    let same = kinds_long tree c.part.result.now c.part-2.result.now split in
    let long = tree_long c.args.self.now c.args.entry c.requires in
    (woven_split tree c.part.result.now c.part-2.result.now split, omega (arith, same, long))

pub returns : goal.returns
returns c = woven_is (tree_at c.args.self.now c.args.entry) c.part.result.now c.part-2.result.now (parts (goal.at.returns c).After-part-2)
