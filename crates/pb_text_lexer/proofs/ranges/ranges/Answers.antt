use Rattle.std.proofs.Common.{arith, sym, ap, ◌∙◌, ◌++◌, map, append_assoc, append-nil, take}
use Rattle.pb_text_tree.specs.Form.{range_form}
use Rattle.pb_text_lexer.specs.Lexing.{past}
use Rattle.pb_text_lexer.specs.RangeLines.{ranges_at}
use Rattle.pb_text_lexer.specs.Remaining.{ranges_from}
use Rattle.pb_text_lexer.proofs.LanguagePieceLemmas.{blank-takes, token-takes}
use Rattle.pb_text_lexer.proofs.RemainingLemmas.{blank-ranges, token-ranges, stop-ranges}
use Rattle.pb_text_lexer.proofs.ranges.ranges.Goals as goal

pub split_at-requires : goal.split_at-requires
split_at-requires c = (blank-takes c.args.language _ _ c.in-Blank.len c.in-Blank.ensures).1

pub pieces-smaller-in-Blank : goal.pieces-smaller-in-Blank
pieces-smaller-in-Blank c =
    let some = (blank-takes c.args.language _ _ c.in-Blank.len c.in-Blank.ensures).0 in
    omega arith

pub pieces-preserved-in-Blank : goal.pieces-preserved-in-Blank
pieces-preserved-in-Blank c =
    let takes = blank-takes c.args.language _ _ c.in-Blank.len c.in-Blank.ensures in
    let step = blank-ranges c.args.language c.pieces.rest.now c.in-Blank.len c.pieces.place (sym c.in-Blank.ensures) takes.0 takes.1 in
    record {
      ranges = rw (c.past-place.ensures.value, c.split_at.ensures.front, c.split_at.ensures.back, c.in_ok-found-in-Blank.ensures)
          (c.pieces.invariant.ranges ∙ ap (λ v. map range_form c.pieces.ranges.items ++ v) step
          ∙ sym (append_assoc (map range_form c.pieces.ranges.items) (ranges_at c.pieces.place c.pieces.rest.now) _));
      within = record { line = omega arith; column = omega arith };
    }

pub split_at-requires-in-Token : goal.split_at-requires-in-Token
split_at-requires-in-Token c = (token-takes c.args.language _ _ c.in-Token.field-0 c.in-Token.len c.in-Token.ensures).1

pub pieces-smaller : goal.pieces-smaller
pieces-smaller c =
    let some = (token-takes c.args.language _ _ c.in-Token.field-0 c.in-Token.len c.in-Token.ensures).0 in
    omega arith

pub pieces-preserved : goal.pieces-preserved
pieces-preserved c =
    let takes = token-takes c.args.language _ _ c.in-Token.field-0 c.in-Token.len c.in-Token.ensures in
    let step = token-ranges c.args.language c.pieces.rest.now c.in-Token.field-0 c.in-Token.len c.pieces.place (sym c.in-Token.ensures) takes.0 takes.1 in
    record {
      ranges = rw (c.past-place-in-Token.ensures.value, c.split_at-in-Token.ensures.front, c.split_at-in-Token.ensures.back)
          (c.pieces.invariant.ranges ∙ ap (λ v. map range_form c.pieces.ranges.items ++ v) step);
      within = record { line = omega arith; column = omega arith };
    }

pub returns-in-Stop : goal.returns-in-Stop
returns-in-Stop c =
    let none = stop-ranges c.args.language c.pieces.rest.now c.in-Stop.field-0 c.pieces.place (sym c.in-Stop.ensures) in
    sym (c.pieces.invariant.ranges ∙ ap (λ v. map range_form c.pieces.ranges.items ++ v) none ∙ append-nil (map range_form c.pieces.ranges.items))

pub returns-then-not-may_follow-2 : goal.returns-then-not-may_follow-2
returns-then-not-may_follow-2 c =
    let takes = blank-takes c.args.language _ _ c.in-Blank.len c.in-Blank.ensures in
    let step = blank-ranges c.args.language c.pieces.rest.now c.in-Blank.len c.pieces.place (sym c.in-Blank.ensures) takes.0 takes.1 in
    let place = past c.pieces.place (take c.in-Blank.len c.pieces.rest.now) in
    let ended = ap (λ v. ranges_from c.args.language v 0 place) (sym c.split_at.ensures.back) ∙ c.may_follow-then-found.ensures c.if-not-may_follow-2.true c.args.language 0 place in
    let here = ranges_at c.pieces.place c.pieces.rest.now in
    let found = map range_form c.pieces.ranges.items in
    c.in_ok-found-in-Blank.ensures ∙ sym (c.pieces.invariant.ranges ∙ ap (λ v. found ++ v) (step ∙ ap (λ v. here ++ v) ended ∙ append-nil here))
