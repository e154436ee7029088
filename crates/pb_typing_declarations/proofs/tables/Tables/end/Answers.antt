use Rattle.std.proofs.Common.{arith}
use Rattle.pb_typing_declarations.proofs.Agreeing.{end_is}
use Rattle.pb_typing_declarations.proofs.tables.Tables.end.Goals as goal

pub returns : goal.returns
returns c =
    let t = c.args.self.now in
    end_is t.spec.now t.definitions t.ranges t.names t.equations t.agrees c.len-limit.result c.args.sort.now _ (omega (arith, c.len-limit.ensures, t.spec.now.sorts.ok.0)) c.chain_end.ensures
