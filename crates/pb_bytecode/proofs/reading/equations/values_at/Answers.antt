use Rattle.std.proofs.Common.{rules}
use Rattle.std.specs.Prelude.{FitsSigned}
use Rattle.std.specs.Int.{w64}
use Rattle.std.proofs.lemmas.Int.{to_z-of_z}
use Rattle.std.proofs.lemmas.Result.{err_from_is_err_and}
use Rattle.pb_bytecode.proofs.Counting.{value_read, value_fails, values_done}
use Rattle.pb_bytecode.proofs.reading.equations.values_at.Goals as goal

pub loop-carrier-preserved : goal.loop-carrier-preserved
loop-carrier-preserved c =
    let fits : FitsSigned w64 c.in_ok-value.value = search rules in
    let back = to_z-of_z w64 c.in_ok-value.value fits in
    rw (c.in_ok-push.ensures.items, back)
    (value_read c.loop-carrier.values.items c.args.carriers.now c.carrier-item.result c.loop-carrier.carrier-index
    c.loop-carrier.rest.now c.in_ok-value.after.now c.in_ok-value.value _ c.loop-carrier-test.true c.carrier-item.is
    c.in_ok-value.ensures c.loop-carrier.invariant)

pub returns-in_err-value : goal.returns-in_err-value
returns-in_err-value c =
    let p = err_from_is_err_and c.from_residual-in_err-value.result c.from_residual-in_err-value.ensures.1 in
    rw (p.1, p.2)
    (value_fails c.in_err-value.field-0.0 c.loop-carrier.values.items c.args.carriers.now c.carrier-item.result
    c.loop-carrier.carrier-index c.loop-carrier.rest.now _ c.loop-carrier-test.true c.carrier-item.is
    c.in_err-value.ensures c.loop-carrier.invariant)

pub returns : goal.returns
returns c = values_done c.loop-carrier.values.items c.args.carriers.now c.loop-carrier.carrier-index c.loop-carrier.rest.now _ c.loop-carrier-test.false c.loop-carrier.invariant
