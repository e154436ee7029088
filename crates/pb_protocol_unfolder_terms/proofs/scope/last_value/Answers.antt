use Rattle.std.proofs.Common.{◌∙◌, ◌+◌, arith, sym, ap, drop, Some}
use Rattle.pb_protocol_unfolder_terms.specs.Scopes.{looked}
use Rattle.pb_protocol_unfolder_terms.proofs.ScopeLemmas.{looked-some, looked-none, looked-end}
use Rattle.pb_protocol_unfolder_terms.proofs.scope.last_value.Goals as goal
use Rattle.pb_protocol_unfolder_terms.proofs.scope.last_value.Goals.{then-eq, else-eq}

pub loop-place-preserved : goal.loop-place-preserved
loop-place-preserved c =
    let vs = c.args.variables.now in
    let ks = c.args.values.now in
    let p = c.loop-place.place in
    elim c.if-eq.branch [
      | then-eq w ↦ sym
          (looked-some vs ks p _ w.index-values-place.result c.args.name.now c.loop-place.found c.if-eq.found
          (omega (arith, c.loop-place-test.true, c.min-place-end.ensures))
          (omega (arith, c.loop-place-test.true, c.min-place-end.ensures)) (sym w.if-eq.true ∙ c.eq.ensures)
          (w.found-is ∙ ap (λ a. Some a) w.index-values-place.is)) ∙ c.loop-place.invariant
      | else-eq w ↦ ap (λ o. looked (drop (p + 1) vs) (drop (p + 1) ks) c.args.name.now o) w.found-is
          ∙ sym (looked-none vs ks p _ c.args.name.now c.loop-place.found
          (omega (arith, c.loop-place-test.true, c.min-place-end.ensures))
          (omega (arith, c.loop-place-test.true, c.min-place-end.ensures)) (sym w.if-eq.false ∙ c.eq.ensures)) ∙ c.loop-place.invariant
    ]

pub returns : goal.returns
returns c =
    sym (looked-end c.args.variables.now c.args.values.now c.loop-place.place c.args.name.now c.loop-place.found
    (λ q h k. omega (arith, h, k, c.loop-place-test.false, c.min-place-end.ensures))) ∙ c.loop-place.invariant
