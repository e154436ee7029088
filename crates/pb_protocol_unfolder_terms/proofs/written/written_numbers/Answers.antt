use Rattle.std.proofs.Common.{◌≡◌, ◌∙◌, ◌+◌, ◌-◌, ◌++◌, ◌∷◌, [], List, ℤ, map, ap, sym, arith, pos, ◌+ℤ◌, to_z, of_z, w32}
use Rattle.std.proofs.lemmas.Grind.{common_steps}
use Rattle.pb_base_values.specs.Carrier.{numbers_from}
use Rattle.pb_text_meaning.specs.Syntax.{Term}
use Rattle.pb_protocol_folding.specs.Folding.{number}
use Rattle.pb_protocol_unfolder_terms.specs.Values.{written_term}
use Rattle.pb_protocol_unfolder_terms.proofs.ValueLemmas.{numbers-next}
use Rattle.pb_protocol_unfolder_terms.proofs.written.written_numbers.Goals as goal

pub loop-offset-preserved : goal.loop-offset-preserved
loop-offset-preserved c =
    let low : ℤ = to_z w32 (of_z w32 c.args.low) in
    let before : List Term = map written_term c.loop-offset.values.items in
    let said : written_term c.written_number.result ≡ number (low +ℤ pos c.loop-offset.offset) = c.written_number.ensures in
    let added : map written_term c.push.new.self.items ≡ before ++ (number (low +ℤ pos c.loop-offset.offset) ∷ []) = grind (arith, common_steps) in
    ap (λ (ts : List Term). ts ++ map number (numbers_from (low +ℤ pos (c.loop-offset.offset + 1)) (c.args.count - (c.loop-offset.offset + 1)))) added
    ∙ sym (numbers-next low c.loop-offset.offset c.args.count before c.loop-offset-test.true)
    ∙ c.loop-offset.invariant
