use Rattle.pb_typing_declarations.specs.Entries.{definition_in}
use Rattle.pb_typing_declarations.proofs.ChainLemmas.{bases_are}
use Rattle.pb_typing_declarations.proofs.ends.read_bases.Goals as goal

pub returns : goal.returns
returns c = bases_are (definition_in c.args.definitions.now) c.new-ranges.result c.new-ranges.ensures.empty c.read_chains.result c.read_chains.ensures
