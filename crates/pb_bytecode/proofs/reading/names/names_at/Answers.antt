use Rattle.std.proofs.Common.{◌≡◌, ◌++◌, ◌∷◌, [], map, arith}
use Rattle.std.proofs.lemmas.Result.{err_from_is_err_and}
use Rattle.std.proofs.lemmas.List.{map_push}
use Rattle.pb_bytecode.specs.Views.{text_of}
use Rattle.pb_bytecode.specs.Reading.{name_at}
use Rattle.pb_bytecode.proofs.Loop.{goes_on, ends, is_done}
use Rattle.pb_bytecode.proofs.reading.names.names_at.Goals as goal

pub returns-in_err-name-clause-names : goal.returns-in_err-name-clause-names
returns-in_err-name-clause-names c =
    let p = err_from_is_err_and c.from_residual-in_err-name.result c.from_residual-in_err-name.ensures.1 in
    rw (p.1, p.2) (ends name_at c.in_err-name.field-0.0 (map text_of c.loop.names.items) c.args.count c.loop.counter c.loop.rest.now _ c.loop-test.true c.in_err-name.ensures c.loop.invariant.0)

pub loop-preserved : goal.loop-preserved
loop-preserved c =
    let n = c.in_ok-name.name in
    let e : map text_of c.push.new.self.items ≡ map text_of c.loop.names.items ++ text_of n ∷ [] = rw c.in_ok-push.ensures.items (map_push _ c.loop.names.items n) in (
      rw e (goes_on name_at (map text_of c.loop.names.items) c.args.count c.loop.counter c.loop.rest.now (text_of n)
          c.in_ok-name.after.now _ c.loop-test.true c.in_ok-name.ensures c.loop.invariant.0),
      omega
          (arith, c.in_ok-push.ensures.len, c.loop.invariant.1),
    )

pub returns-clause-names : goal.returns-clause-names
returns-clause-names c = is_done name_at (map text_of c.loop.names.items) c.args.count c.loop.counter c.loop.rest.now _ c.loop-test.false c.loop.invariant.0
