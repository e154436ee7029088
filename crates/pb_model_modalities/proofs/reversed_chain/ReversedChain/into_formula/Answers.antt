use Rattle.pb_model_modalities.proofs.TextChains.{turned-links}
use Rattle.pb_model_modalities.proofs.reversed_chain.ReversedChain.into_formula.Goals as goal

pub returns : goal.returns
returns c = turned-links c.args.connective c.args.self.first c.args.self.links.items c.in_ok-first.first c.reverse.new.self c.in_ok-first.ensures.ok c.reverse.ensures.items
