use Rattle.pb_typing_declarations.specs.Entries.{range_in, definition_in}
use Rattle.pb_typing_declarations.specs.Chains.{AreChains, IsChain}
use Rattle.pb_typing_declarations.proofs.ChainLemmas.{chain_of}
use denote.Text.{Utf8}
use denote.Shadow.{shadow}
use Rattle.pb_typing_declarations.proofs.ends.keep_chain.Given as goal

-- what is kept are chains, and so is what is left of the one that is followed
abbrev pub invariant-loop-aliases : goal.invariant-loop-aliases
invariant-loop-aliases l = record {
  utf8 : shadow (Utf8 l.sort);
  kept : AreChains (range_in l.ranges) (definition_in l.definitions) l.chains;
  left : IsChain (range_in l.ranges) (definition_in l.definitions) l.sort (chain_of l.chain.end l.aliases);
}

abbrev pub decreases-loop-aliases : goal.decreases-loop-aliases
decreases-loop-aliases l = l.aliases
