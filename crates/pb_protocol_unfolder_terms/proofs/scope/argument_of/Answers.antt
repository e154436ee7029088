use Rattle.std.proofs.Common.{◌∙◌, ◌+◌, arith, sym, ap, drop, Some}
use Rattle.pb_protocol_unfolder_terms.specs.Scopes.{argument_said, looked}
use Rattle.pb_protocol_unfolder_terms.proofs.ScopeLemmas.{looked-some, looked-none, looked-end}
use Rattle.pb_protocol_unfolder_terms.proofs.scope.argument_of.Goals as goal
use Rattle.pb_protocol_unfolder_terms.proofs.scope.argument_of.Goals.{then-eq, else-eq}

pub loop-place-preserved : goal.loop-place-preserved
loop-place-preserved c =
    let vs = c.args.parameters.now in
    let ks = c.args.arguments.now in
    let p = c.loop-place.place in
    elim c.if-eq.branch [
      | then-eq w ↦ sym
          (looked-some vs ks p _ w.index-arguments-place.result c.args.name.now (argument_said c.loop-place.found)
          (argument_said c.if-eq.found) (omega (arith, c.loop-place-test.true, c.min-place-end.ensures))
          (omega (arith, c.loop-place-test.true, c.min-place-end.ensures)) (sym w.if-eq.true ∙ c.eq.ensures)
          (ap argument_said w.found-is ∙ ap (λ a. Some a) w.index-arguments-place.is)) ∙ c.loop-place.invariant
      | else-eq w ↦ ap (λ o. looked (drop (p + 1) vs) (drop (p + 1) ks) c.args.name.now o) (ap argument_said w.found-is)
          ∙ sym (looked-none vs ks p _ c.args.name.now (argument_said c.loop-place.found)
          (omega (arith, c.loop-place-test.true, c.min-place-end.ensures))
          (omega (arith, c.loop-place-test.true, c.min-place-end.ensures)) (sym w.if-eq.false ∙ c.eq.ensures)) ∙ c.loop-place.invariant
    ]

pub returns : goal.returns
returns c =
    sym (looked-end c.args.parameters.now c.args.arguments.now c.loop-place.place c.args.name.now
    (argument_said c.loop-place.found)
    (λ q h k. omega (arith, h, k, c.loop-place-test.false, c.min-place-end.ensures))) ∙ c.loop-place.invariant
