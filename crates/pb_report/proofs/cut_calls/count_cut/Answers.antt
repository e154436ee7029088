use Rattle.std.proofs.Common.{List, get_or, sym, ap, ◌∙◌, subst, arith, rules}
use Rattle.std.specs.Prelude.{All}
use Rattle.std.proofs.lemmas.List.{drop_all}
use Rattle.pb_game_of_trees.proofs.Rows.{next_row, tokens_of}
use Rattle.pb_fixpoint_trees.specs.Row.{HasNoCut, TokenRow, nothing}
use Rattle.pb_report.specs.CutCalls.{cut_count}
use Rattle.pb_report.proofs.Cut.{no_cuts}
use Rattle.pb_report.proofs.Solutions.{count_held}
use Rattle.pb_report.proofs.cut_calls.count_cut.Goals as goal

pub loop-k-preserved : goal.loop-k-preserved
loop-k-preserved c = record {
  few = omega (arith, c.loop-k.invariant.few, c.cuts_of-count.ensures.small);
  counted = λ reached hold.
      let l = c.loop-k in
      let row = get_or c.args.rows.now l.k nothing in
      let n = next_row c.args.rows.now reached l.k hold (omega arith) in
      let cut = c.cuts_of-count.ensures.cut n.next.tree (c.tokens.ensures ∙ tokens_of reached l.k row n) in
      omega (arith, l.invariant.counted reached hold, cut, ap cut_count n.rest);
}

pub returns : goal.returns
returns c = λ reached hold.
    let l = c.loop-k in
    let rest = ap cut_count (drop_all l.k reached (omega (arith, count_held c.args.rows.now reached hold, c.loop-k-test.false))) in
    omega (arith, l.invariant.counted reached hold, rest)

pub returns-then-not-any_cut : goal.returns-then-not-any_cut
returns-then-not-any_cut c = λ reached hold.
    sym (no_cuts reached (subst (λ (rows : List TokenRow). All HasNoCut rows) hold (c.any_cut.ensures (search rules))))
