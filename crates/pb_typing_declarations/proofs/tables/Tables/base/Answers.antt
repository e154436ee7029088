use Rattle.std.proofs.Common.{arith}
use Rattle.pb_typing_declarations.specs.Entries.{definition_in}
use Rattle.pb_typing_declarations.proofs.ChainLemmas.{bases_kept}
use Rattle.pb_typing_declarations.proofs.Agreeing.{base_is}
use Rattle.pb_typing_declarations.proofs.tables.Tables.base.Goals as goal

pub chain_end-requires : goal.chain_end-requires
chain_end-requires c =
    let t = c.args.self.now in
    bases_kept (definition_in t.definitions) c.new-ranges.result c.new-ranges.ensures.empty t.bases t.based

pub returns : goal.returns
returns c =
    let t = c.args.self.now in
    base_is t.spec.now t.definitions t.ranges t.names t.equations t.agrees c.new-ranges.result c.len-limit.result
    c.args.sort.now _ c.new-ranges.ensures.empty (omega (arith, c.len-limit.ensures, t.spec.now.sorts.ok.0)) c.chain_end.ensures
