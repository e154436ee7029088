use Rattle.std.proofs.Common.{◌≡◌, ◌+◌, ◌-◌, [], ◌∷◌, ◌++◌, List, All, length, map, sym, ap, subst, ◌∙◌, arith}
use Rattle.std.proofs.lemmas.List.Elements.{All-same}
use Rattle.pb_fixpoint_trees.specs.declared.Token.{Token}
use Rattle.pb_fixpoint_trees.specs.declared.entry.Entry.{Entry}
use Rattle.pb_fixpoint_trees.specs.Kinds.{calls_in}
use Rattle.pb_fixpoint_trees.specs.Row.{row_of_tokens}
use Rattle.pb_fixpoint_trees.specs.Entries.{IsInside, row_at}
use Rattle.pb_fixpoint_trees.proofs.Entries.{IsBehind, on_err, pushed_inside, pushed_rows, same_rows}
use Rattle.pb_fixpoint_trees.proofs.Split.{few_calls, length-calls-append}
use Rattle.pb_fixpoint_trees.proofs.rows.Rows.push.Goals as goal
use Rattle.pb_fixpoint_trees.proofs.rows.Rows.push.Goals.{After-call_count}

-- how many calls there are more
calls_more : (c : After-call_count) → c.call_count.result ≡ c.call_count-first_call.result + length (calls_in c.args.tokens.now)
calls_more c =
    let n = length-calls-append c.self.inside.tokens c.args.tokens.now c.append.new.self c.in_ok-append.ensures.ok in
    omega (arith, n, c.call_count.ensures, c.call_count-first_call.ensures)

entry : After-call_count → Entry
entry c = record {
  number = c.args.number;
  first = c.len-first.result;
  first_call = c.call_count-first_call.result;
  count = length c.args.tokens.now;
  calls = c.call_count.result - c.call_count-first_call.result;
}

behind : (c : After-call_count) → IsBehind c.self.inside.tokens c.args.tokens.now (entry c)
unfolding entry
behind c = record {
  first = c.len-first.ensures;
  first_call = c.call_count-first_call.ensures;
  count = omega arith;
  calls = let n = calls_more c in omega (arith, n);
}

pub overflow_sub-entry : goal.overflow_sub-entry
overflow_sub-entry c = let n = calls_more (goal.at.overflow_sub-entry c).After-call_count in omega (arith, n)

pub overflow_cast-entry-2 : goal.overflow_cast-entry-2
overflow_cast-entry-2 c =
    let n = calls_more (goal.at.overflow_cast-entry-2 c).After-call_count in
    let few = few_calls c.args.tokens.now in
    omega (arith, n, few, c.requires)

pub returns-clause-ok : goal.returns-clause-ok
unfolding entry
returns-clause-ok c =
    let tokens = c.self.inside.tokens in let entries = c.self.inside.entries.items in let more = c.args.tokens.now in
    let at = (goal.at.returns-clause-ok c).After-call_count in
    ap (λ l. map (row_at l) c.push.new.list.items) c.in_ok-append.ensures.ok
    ∙ (ap (map (row_at (tokens ++ more))) c.in_ok-push.ensures.ok
    ∙ (pushed_rows tokens more (entry at) (behind at) entries c.self.invariant
    ∙ ap (λ l. l ++ row_of_tokens c.args.number more ∷ []) c.self.view_is))

pub returns-in_err-push-clause-err : goal.returns-in_err-push-clause-err
returns-in_err-push-clause-err c =
    let tokens = c.self.inside.tokens in let entries = c.self.inside.entries.items in let more = c.args.tokens.now in
    on_err c.from_residual-in_err-push.result
    (ap (λ l. map (row_at l) c.push.new.list.items) c.in_ok-append.ensures.ok
    ∙ (ap (map (row_at (tokens ++ more))) c.in_err-push.ensures.err
    ∙ (same_rows tokens more entries c.self.invariant
    ∙ c.self.view_is)))

pub invariant_of-self-2 : goal.invariant_of-self-2
unfolding entry
invariant_of-self-2 c =
    let tokens = c.self.inside.tokens in let entries = c.self.inside.entries.items in let more = c.args.tokens.now in
    let at = (goal.at.invariant_of-self-2 c).After-call_count in
    subst (λ (ts : List Token). All (IsInside ts) c.push.new.list.items) (sym c.in_ok-append.ensures.ok)
    (All-same (IsInside (tokens ++ more)) c.push.new.list.items (entries ++ entry at ∷ []) c.in_ok-push.ensures.ok
    (pushed_inside tokens more (entry at) (behind at) entries c.self.invariant))
