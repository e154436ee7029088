use Rattle.std.proofs.Common.{◌≡◌, ℕ, Bool, length, sym, ◌∙◌, ap, rules}
use Rattle.pb_base_values.specs.Carrier.{Carrier}
use Rattle.pb_sorts.proofs.Intervals.{length-numbers_from}
use Rattle.pb_text_meaning.specs.Syntax.{same_name}
use Rattle.pb_text_meaning.specs.Sorts.{carrier_of}
use Rattle.pb_protocol_scalar_sets.specs.Sorts.{spec_of}
use Rattle.pb_protocol_representatives.specs.declared.digit.Digit.{Digit}
use Rattle.pb_protocol_representatives.proofs.digit.digit_of.Goals as goal

pub returns : goal.returns
returns c =
    let all = carrier_of (spec_of c.args.set.now.protocol.now) c.args.sort.now in
    let size : c.count-size.result ≡ length all =
    c.count-size.ensures ∙ (sym (length-numbers_from c.carrier_of.result.low c.carrier_of.result.count) ∙ ap (λ (d : Carrier). length d) c.carrier_of.ensures) in
    let same : c.eq.result ≡ same_name c.args.sort.now c.args.set.now.sort.now = search rules in
    let digit : ℕ → Bool → Digit = λ n b. record { size = n; is_element = b } in
    ap (λ (n : ℕ). digit n c.eq.result) size ∙ ap (digit (length all)) same
