use Rattle.std.proofs.Common.{arith}
use Rattle.std.proofs.lemmas.Result.{err_from_is_err_and}
use Rattle.pb_bytecode.proofs.Counting.{initial_read, initial_fails, initial_none}
use Rattle.pb_bytecode.proofs.reading.equations.initial_at.Goals as goal

pub returns-then-equation-equations : goal.returns-then-equation-equations
returns-then-equation-equations c =
    rw (c.fault.ensures)
    (initial_none c.args.equations.now c.args.bytes.now c.in_ok-equation.rest.now c.in_ok-equation.equation
    c.in_ok-equation.ensures c.if-equation-equations.true)

pub returns-in_err-values : goal.returns-in_err-values
returns-in_err-values c =
    let p = err_from_is_err_and c.from_residual-in_err-values.result c.from_residual-in_err-values.ensures.1 in
    let parameters = c.deref.ensures.value in
    rw (p.1, p.2)
    (initial_fails c.in_err-values.field-0.0 c.args.equations.now _ c.args.bytes.now c.in_ok-equation.rest.now
    c.in_ok-equation.equation c.deref.result.now c.in_ok-equation.ensures
    (omega (arith, c.if-equation-equations.false)) parameters c.in_err-values.ensures)

pub returns : goal.returns
returns c =
    let parameters = c.deref.ensures.value in
    initial_read c.args.equations.now _ c.args.bytes.now c.in_ok-equation.rest.now c.in_ok-values.rest.now
    c.in_ok-equation.equation c.deref.result.now c.in_ok-values.values.items c.in_ok-equation.ensures
    (omega (arith, c.if-equation-equations.false)) parameters c.in_ok-values.ensures
