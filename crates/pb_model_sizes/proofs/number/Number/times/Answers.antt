use Rattle.std.proofs.Common.{◌∙◌, ℕ, ◌*◌, List, ap}
use Rattle.pb_model_sizes.specs.Digits.{number_of_digits}
use Rattle.pb_model_sizes.proofs.DigitLemmas.{are-low_digits, number-low_digits}
use Rattle.pb_model_sizes.proofs.number.Number.times.Goals as goal

pub invariant_of-result-2 : goal.invariant_of-result-2
invariant_of-result-2 c =
    record { canonical = are-low_digits (c.args.factor * number_of_digits c.deref.result.now) c.in_ok-digits.digits.items c.in_ok-digits.ensures }

pub returns : goal.returns
returns c =
    ap number_of_digits c.in_ok-digits.ensures
    ∙ (number-low_digits (c.args.factor * number_of_digits c.deref.result.now)
    ∙ ap (λ (ds : List ℕ). c.args.factor * number_of_digits ds) c.deref.ensures.value)
