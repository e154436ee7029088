use Rattle.pb_typing_declarations.specs.Entries.{range_in, definition_in}
use Rattle.pb_typing_declarations.proofs.ChainLemmas.{none_kept}
use Rattle.pb_typing_declarations.proofs.ends.read_chains.Goals as goal

pub loop-declaration-init : goal.loop-declaration-init
loop-declaration-init c = none_kept (range_in c.args.ranges.now) (definition_in c.args.definitions.now) c.new-chains.result c.new-chains.ensures.empty
