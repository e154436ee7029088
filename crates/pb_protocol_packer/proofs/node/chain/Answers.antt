use Rattle.std.proofs.Common.{ap, ◌∙◌}
use Rattle.pb_text_meaning.specs.Erase.{of_connective}
use Rattle.pb_protocol_packer.specs.View.{joined_terms, operands_of, term_of}
use Rattle.pb_protocol_packer.proofs.Nodes.{chain-says}
use Rattle.pb_protocol_packer.proofs.node.chain.Goals as goal

pub returns : goal.returns
returns c =
    chain-says c.args.connective c.in_ok-first.first c.args.links
    ∙ ap (λ f. joined_terms (of_connective c.args.connective) (term_of f) (operands_of c.args.links.items)) c.in_ok-first.ensures.ok
