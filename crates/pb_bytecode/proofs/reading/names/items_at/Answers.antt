use Rattle.std.proofs.Common.{◌≡◌, ◌++◌, ◌∷◌, [], map}
use Rattle.std.proofs.lemmas.Result.{err_from_is_err_and}
use Rattle.std.proofs.lemmas.List.{map_push}
use Rattle.pb_bytecode.specs.Views.{sort_contents}
use Rattle.pb_bytecode.specs.Reading.{sort_at}
use Rattle.pb_bytecode.proofs.Loop.{goes_on, ends, is_done}
use Rattle.pb_bytecode.proofs.reading.names.items_at.Goals as goal

pub returns-in_err-sort : goal.returns-in_err-sort
returns-in_err-sort c =
    let p = err_from_is_err_and c.from_residual-in_err-sort.result c.from_residual-in_err-sort.ensures.1 in
    rw (p.1, p.2) (ends sort_at c.in_err-sort.field-0.0 (map sort_contents c.loop.sorts.items) c.args.count c.loop.counter c.loop.rest.now _ c.loop-test.true c.in_err-sort.ensures c.loop.invariant)

pub loop-preserved : goal.loop-preserved
loop-preserved c =
    let e = c.in_ok-sort.sort in
    let pushed : map sort_contents c.push.new.self.items ≡ map sort_contents c.loop.sorts.items ++ sort_contents e ∷ [] = rw c.in_ok-push.ensures.items (map_push _ c.loop.sorts.items e) in
    rw pushed (goes_on sort_at (map sort_contents c.loop.sorts.items) c.args.count c.loop.counter c.loop.rest.now
    (sort_contents e) c.in_ok-sort.after.now _ c.loop-test.true c.in_ok-sort.ensures c.loop.invariant)

pub returns : goal.returns
returns c = is_done sort_at (map sort_contents c.loop.sorts.items) c.args.count c.loop.counter c.loop.rest.now _ c.loop-test.false c.loop.invariant
