use Rattle.std.proofs.Common.{◌∙◌, ◌<◌, refl, arith, length, map, [], ◌∷◌}
use Rattle.pb_protocol_tree.specs.Form.{step_value_form}
use Rattle.pb_protocol_unfolder_terms.specs.Values.{written_term}
use Rattle.pb_protocol_unfolder_steps.specs.Unfolder.{protocol_in, scope_within}
use Rattle.pb_protocol_unfolder.specs.Faults.{IsFaultOfValue, IsFaultOfValues}
use Rattle.pb_protocol_unfolder.proofs.FaultLemmas.{at-item, part}
use Rattle.pb_protocol_unfolder.proofs.ValueFaults.{own-value}
use Rattle.pb_protocol_unfolder.proofs.MemberLemmas.{fits-end}
use Rattle.pb_protocol_unfolder.proofs.set.are_values.Goals as goal

pub returns-clause-values : goal.returns-clause-values
returns-clause-values c =
    fits-end c.args.unfolder.now c.args.scope.now.names c.args.named.now c.args.own.now c.loop-place.place _ refl
    (λ q h k. omega (arith, h, k, c.loop-place-test.false, c.min-place-end.ensures))
    (omega (arith, c.min-place-end.ensures)) (omega (arith, c.min-place-end.ensures))
    ∙ c.loop-place.invariant

pub returns-in_err-is_value-clause-refused : goal.returns-in_err-is_value-clause-refused
returns-in_err-is_value-clause-refused c =
    let m = protocol_in c.args.unfolder.now in
    let ρ = scope_within c.args.unfolder.now c.args.scope.now.names in
    let named = c.args.named.now in
    let own = c.args.own.now in
    let at = c.loop-place.place in
    let v = c.index-named-place.result in
    let k = c.index-own-place.result in
    let in-named : at < length named = omega (arith, c.loop-place-test.true, c.min-place-end.ensures) in
    let in-own : at < length own = omega (arith, c.loop-place-test.true, c.min-place-end.ensures) in
    part c.from_residual.result c.in_err-is_value.field-0.0
    (IsFaultOfValue m ρ (written_term k ∷ []) (step_value_form v))
    (IsFaultOfValues m ρ (map written_term own) (map step_value_form named)) c.from_residual.ensures.1
    (λ p is. (
      step_value_form v,
      at-item step_value_form named at v in-named c.index-named-place.is,
      own-value m ρ
          (written_term k) (map written_term own) (at-item written_term own at k in-own c.index-own-place.is) (step_value_form v) p is,
    ))
    c.in_err-is_value.ensures.refused
