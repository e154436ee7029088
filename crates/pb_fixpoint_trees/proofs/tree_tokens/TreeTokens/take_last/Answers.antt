use Rattle.std.proofs.Common.{◌-◌, length, sym, ◌∙◌, arith}
use Rattle.std.proofs.lemmas.List.{length-take-le}
use Rattle.pb_fixpoint_trees.specs.Kinds.{woven}
use Rattle.pb_fixpoint_trees.proofs.Last.{ends_other, ends_call, has_number}
use Rattle.pb_fixpoint_trees.proofs.tree_tokens.TreeTokens.take_last.Goals as goal

pub invariant_of-self : goal.invariant_of-self
invariant_of-self c =
    let kinds = c.self.inside.kinds.now in let calls = c.self.inside.calls.now in
    let some = c.in-len1-up.len_at_least in let fewer = length-take-le (length kinds - 1) kinds (omega arith) in
    ((ends_other (woven kinds calls) kinds calls c.self.invariant.0 some _ c.in-Some.token (sym c.token.ensures ∙ c.in-Some.is)).split, omega (arith, c.self.invariant.1))

pub returns-in-Some-clause-taken : goal.returns-in-Some-clause-taken
returns-in-Some-clause-taken c =
    let kinds = c.self.inside.kinds.now in let calls = c.self.inside.calls.now in
    sym c.self.view_is
    ∙ (ends_other (woven kinds calls) kinds calls c.self.invariant.0 c.in-len1-up.len_at_least _ c.in-Some.token (sym c.token.ensures ∙ c.in-Some.is)).is

pub unreachable-requires : goal.unreachable-requires
unreachable-requires c =
    let kinds = c.self.inside.kinds.now in let calls = c.self.inside.calls.now in
    let some = has_number (woven kinds calls) kinds calls c.self.invariant.0 c.in-len1-up.len_at_least _ (sym c.token.ensures ∙ c.in_default-token.is) in
    omega arith

pub invariant_of-self-2 : goal.invariant_of-self-2
invariant_of-self-2 c =
    let kinds = c.self.inside.kinds.now in let calls = c.self.inside.calls.now in
    let some = c.in-len1-up.len_at_least in let fewer = length-take-le (length kinds - 1) kinds (omega arith) in
    ((ends_call (woven kinds calls) kinds calls c.self.invariant.0 some _ (sym c.token.ensures ∙ c.in_default-token.is)).split, omega (arith, c.self.invariant.1))

pub returns-clause-taken : goal.returns-clause-taken
returns-clause-taken c =
    let kinds = c.self.inside.kinds.now in let calls = c.self.inside.calls.now in
    sym c.self.view_is
    ∙ (ends_call (woven kinds calls) kinds calls c.self.invariant.0 c.in-len1-up.len_at_least _ (sym c.token.ensures ∙ c.in_default-token.is)).is
