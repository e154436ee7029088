use Rattle.std.proofs.Common.{ap, ◌∙◌}
use Rattle.pb_protocol_packer.specs.View.{calculated_terms, operations_of, term_of}
use Rattle.pb_protocol_packer.proofs.Nodes.{arithmetic-says}
use Rattle.pb_protocol_packer.proofs.node.arithmetic.Goals as goal

pub returns : goal.returns
returns c =
    arithmetic-says c.in_ok-first.first c.args.links
    ∙ ap (λ f. calculated_terms (term_of f) (operations_of c.args.links.items)) c.in_ok-first.ensures.ok
