use Rattle.std.proofs.Common.{ℤ, ◌∙◌, ap}
use Rattle.pb_base_values.specs.Division.{quotient}
use Rattle.pb_base_values.specs.Interval.{within}
use Rattle.pb_base_values.proofs.Ends.{passed, passed_word, same_span, same_two}
use Rattle.pb_base_values.proofs.interval.Interval.quotient.Goals as goal

pub returns : goal.returns
returns c =
    let f : ℤ → ℤ → ℤ = quotient in
    let low = passed_word _ _ c.low-low.type_inv c.low-low.ensures.value in
    let high = passed_word _ _ c.high-high.type_inv c.high-high.ensures.value in
    let other_low = passed_word _ _ c.low-other_low.type_inv c.low-other_low.ensures.value in
    let other_high = passed_word _ _ c.high-other_high.type_inv c.high-other_high.ensures.value in
    c.limited_span.ensures
    ∙ ap (within c.args.limits)
    (same_span
    (passed _ _ c.wide_quotient.type_inv (c.wide_quotient.ensures ∙ same_two f low other_low))
    (passed _ _ c.wide_quotient-2.type_inv (c.wide_quotient-2.ensures ∙ same_two f low other_high))
    (passed _ _ c.wide_quotient-3.type_inv (c.wide_quotient-3.ensures ∙ same_two f high other_low))
    (passed _ _ c.wide_quotient-4.type_inv (c.wide_quotient-4.ensures ∙ same_two f high other_high)))
