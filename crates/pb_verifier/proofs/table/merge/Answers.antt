use Rattle.std.proofs.Common.{◌<◌, length, sym, arith}
use Rattle.pb_verifier.proofs.Taken.{first_there, joined_there, apart_there}
use Rattle.pb_verifier.proofs.table.merge.Goals as goal

pub returns-in-None-clause-ok : goal.returns-in-None-clause-ok
returns-in-None-clause-ok c =
    let l : c.args.to < length c.args.table.now.items = omega (arith, c.len.ensures, c.if-to-len.false, c.args.table.now.ok.0) in
    first_there c.args.table.now.items c.args.to c.args.state c.index_mut.result.now c.index_mut.result.now l (sym c.index_mut.ensures.value) c.in-None.is

pub returns-then-widen-clause-ok : goal.returns-then-widen-clause-ok
returns-then-widen-clause-ok c =
    let l : c.args.to < length c.args.table.now.items = omega (arith, c.len.ensures, c.if-to-len.false, c.args.table.now.ok.0) in
    joined_there c.args.table.now.items c.args.to c.args.state c.in-Some.known c.widen.new.self c.index_mut.result.now l (sym c.index_mut.ensures.value) c.in-Some.is
    (rw (c.if-widen.true) at c.widen.ensures)

pub returns-clause-err : goal.returns-clause-err
returns-clause-err c =
    let l : c.args.to < length c.args.table.now.items = omega (arith, c.len.ensures, c.if-to-len.false, c.args.table.now.ok.0) in
    apart_there c.args.table.now.items c.args.to c.args.state c.in-Some.known c.index_mut.result.now l (sym c.index_mut.ensures.value) c.in-Some.is
    (rw (c.if-widen.false) at c.widen.ensures)
