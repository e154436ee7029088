use Rattle.pb_typing_declarations.specs.Entries.{range_in, definition_in}
use Rattle.pb_typing_declarations.proofs.ChainLemmas.{end_is}
use Rattle.pb_typing_declarations.proofs.ends.chain_end.Goals as goal

pub returns-in-Some : goal.returns-in-Some
returns-in-Some c = end_is (range_in c.args.ranges.now) (definition_in c.args.definitions.now) c.args.limit c.args.sort.now c.in-Some.chain c.in-Some.ensures.1 c.in-Some.ensures.0
