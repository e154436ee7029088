use Rattle.std.proofs.Common.{◌≡◌, ◌∙◌, map, ap, length, ℤ, to_z, of_z, w32}
use Rattle.std.proofs.lemmas.Result.{IfOk-weaker}
use Rattle.std.proofs.lemmas.Int.{to_z-of_z}
use Rattle.pb_base_values.specs.Carrier.{interval, numbers_from}
use Rattle.pb_protocol_folding.specs.Folding.{number}
use Rattle.pb_protocol_unfolder_terms.specs.Values.{written_term}
use Rattle.pb_protocol_unfolder_terms.proofs.ValueLemmas.{interval-counted}
use Rattle.pb_protocol_unfolder_terms.proofs.written.written_interval.Goals as goal

pub returns : goal.returns
returns c =
    let l = c.args.low in
    let h = c.args.high in
    let n = c.number_count-count.result in
    let low : to_z w32 (of_z w32 l) ≡ l = to_z-of_z w32 l c.ranges.low in
    let high : to_z w32 (of_z w32 h) ≡ h = to_z-of_z w32 h c.ranges.high in
    let count : n ≡ length (interval l h) =
    c.number_count-count.ensures.count ∙ ap (λ (z : ℤ). length (interval z (to_z w32 (of_z w32 h)))) low ∙ ap (λ (z : ℤ). length (interval l z)) high in
    IfOk-weaker c.written_numbers.result (λ v. map written_term v.items ≡ map number (numbers_from (to_z w32 (of_z w32 l)) n)) (λ v. map written_term v.items ≡ map number (interval l h))
    (λ v e. e ∙ ap (λ (z : ℤ). map number (numbers_from z n)) low ∙ ap (map number) (interval-counted l h n count)) c.written_numbers.ensures
