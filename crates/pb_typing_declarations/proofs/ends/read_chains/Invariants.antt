use Rattle.pb_typing_declarations.specs.Entries.{range_in, definition_in}
use Rattle.pb_typing_declarations.specs.Chains.{AreChains}
use Rattle.pb_typing_declarations.proofs.ends.read_chains.Given as goal

abbrev pub invariant-loop-declaration : goal.invariant-loop-declaration
invariant-loop-declaration l = AreChains (range_in l.ranges) (definition_in l.definitions) l.chains
