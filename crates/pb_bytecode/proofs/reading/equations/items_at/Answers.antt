use Rattle.std.proofs.Common.{◌≡◌, ◌++◌, ◌∷◌, [], map}
use Rattle.std.proofs.lemmas.Result.{err_from_is_err_and}
use Rattle.std.proofs.lemmas.List.{map_push}
use Rattle.pb_bytecode.specs.Views.{equation_contents}
use Rattle.pb_bytecode.specs.Reading.{equation_at}
use Rattle.pb_bytecode.proofs.Loop.{goes_on, ends, is_done}
use Rattle.pb_bytecode.proofs.reading.equations.items_at.Goals as goal

pub returns-in_err-equation : goal.returns-in_err-equation
returns-in_err-equation c =
    let p = err_from_is_err_and c.from_residual-in_err-equation.result c.from_residual-in_err-equation.ensures.1 in
    rw (p.1, p.2)
    (ends (equation_at c.args.version c.args.sizes.now) c.in_err-equation.field-0.0
    (map equation_contents c.loop.equations.items) c.args.count c.loop.counter c.loop.rest.now _ c.loop-test.true
    c.in_err-equation.ensures c.loop.invariant)

pub loop-preserved : goal.loop-preserved
loop-preserved c =
    let e = c.in_ok-equation.equation in
    let pushed : map equation_contents c.push.new.self.items
    ≡ map equation_contents c.loop.equations.items ++ equation_contents e ∷ [] =
    rw c.in_ok-push.ensures.items (map_push _ c.loop.equations.items e) in
    rw pushed (goes_on (equation_at c.args.version c.args.sizes.now) (map equation_contents c.loop.equations.items)
    c.args.count c.loop.counter c.loop.rest.now (equation_contents e) c.in_ok-equation.after.now _ c.loop-test.true
    c.in_ok-equation.ensures c.loop.invariant)

pub returns : goal.returns
returns c = is_done (equation_at c.args.version c.args.sizes.now) (map equation_contents c.loop.equations.items) c.args.count c.loop.counter c.loop.rest.now _ c.loop-test.false c.loop.invariant
