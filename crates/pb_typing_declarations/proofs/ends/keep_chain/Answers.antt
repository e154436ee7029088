use Rattle.std.proofs.Common.{arith, rules}
use Rattle.pb_typing_declarations.specs.Entries.{range_in, definition_in}
use Rattle.pb_typing_declarations.proofs.ChainLemmas.{chain_of, one_kept, behind}
use Rattle.pb_typing_declarations.proofs.ends.keep_chain.Goals as goal

pub loop-aliases-preserved : goal.loop-aliases-preserved
loop-aliases-preserved c =
    let B = range_in c.args.ranges.now in
    let D = definition_in c.args.definitions.now in
    let inv = c.loop-aliases.invariant in
    record {
      utf8 = search rules;
      kept = one_kept B D c.loop-aliases.chains c.insert.new.self c.loop-aliases.sort (chain_of c.args.chain.end c.loop-aliases.aliases) inv.kept inv.left c.in_ok-insert-in-GoesOn.ensures.updates;
      left = behind B D c.loop-aliases.sort.now c.in-GoesOn.target.now c.args.chain.end c.loop-aliases.aliases (omega arith) c.in-GoesOn.ensures inv.left;
    }
