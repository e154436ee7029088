use Rattle.std.proofs.Common.{rules, ◌<◌, length, sym, ap, ◌∙◌}
use Rattle.pb_text_lexer.specs.Remaining.{ranges_from}
use Rattle.pb_text_lexer.proofs.RemainingLemmas.{no_ranges_before, no_ranges_at_end}
use Rattle.pb_text_lexer.proofs.ranges.may_follow.Goals as goal

pub bytes-preserved : goal.bytes-preserved
bytes-preserved c a after =
    let some : 0 < length c.bytes.rest.now = search rules in
    c.bytes.invariant a (no_ranges_before a c.bytes.rest.now some (sym c.is_mark.ensures ∙ c.if-is_mark.false)
    (λ n p. ap (λ v. ranges_from a v n p) (sym c.split_at.ensures.back) ∙ after n p))

pub returns : goal.returns
returns c = λ _ a. c.bytes.invariant a (no_ranges_at_end a c.bytes.rest.now (search rules))
