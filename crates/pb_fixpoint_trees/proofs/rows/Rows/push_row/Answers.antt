use Rattle.std.proofs.Common.{[], ◌∷◌, ◌++◌, length, map, ap, ◌∙◌, arith}
use Rattle.pb_fixpoint_trees.specs.declared.entry.Entry.{Entry}
use Rattle.pb_fixpoint_trees.specs.Row.{row_of_tokens}
use Rattle.pb_fixpoint_trees.specs.Entries.{row_at}
use Rattle.pb_fixpoint_trees.proofs.Entries.{IsBehind, on_err, pushed_rows, same_rows}
use Rattle.pb_fixpoint_trees.proofs.Split.{few_calls}
use Rattle.pb_fixpoint_trees.proofs.rows.Rows.push_row.Goals as goal
use Rattle.pb_fixpoint_trees.proofs.rows.Rows.push_row.Goals.{After-calls}

entry : After-calls → Entry
entry c = record {
  number = c.args.number;
  first = c.len.result;
  first_call = c.call_count.result;
  count = c.len-2.result;
  calls = length c.calls.result.now;
}

behind : (c : After-calls) → IsBehind c.self.inside.tokens c.args.tokens.now (entry c)
unfolding entry
behind c = record {
  first = c.len.ensures;
  first_call = c.call_count.ensures;
  count = c.len-2.ensures.value;
  calls = ap length c.calls.ensures;
}

pub overflow_cast-entry-2 : goal.overflow_cast-entry-2
overflow_cast-entry-2 c =
    let few = few_calls c.args.tokens.now in
    omega (arith, few, ap length c.calls.ensures, c.len-2.ensures.value, c.len-2.ensures.small)

pub returns-clause-ok : goal.returns-clause-ok
unfolding entry
returns-clause-ok c =
    let tokens = c.self.inside.tokens in let entries = c.self.inside.entries.items in let more = c.args.tokens.now in
    let at = (goal.at.returns-clause-ok c).After-calls in
    ap (λ l. map (row_at l) c.push.new.list.items) c.in_ok-append_tree.ensures.ok
    ∙ (ap (map (row_at (tokens ++ more))) c.in_ok-push.ensures.ok
    ∙ (pushed_rows tokens more (entry at) (behind at) entries c.self.invariant
    ∙ ap (λ l. l ++ row_of_tokens c.args.number more ∷ []) c.self.view_is))

pub returns-in_err-push-clause-err : goal.returns-in_err-push-clause-err
returns-in_err-push-clause-err c =
    let tokens = c.self.inside.tokens in let entries = c.self.inside.entries.items in let more = c.args.tokens.now in
    on_err c.from_residual-in_err-push.result
    (ap (λ l. map (row_at l) c.push.new.list.items) c.in_ok-append_tree.ensures.ok
    ∙ (ap (map (row_at (tokens ++ more))) c.in_err-push.ensures.err
    ∙ (same_rows tokens more entries c.self.invariant
    ∙ c.self.view_is)))
