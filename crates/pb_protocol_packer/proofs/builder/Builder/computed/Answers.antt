use Rattle.std.proofs.Common.{ap, ◌∙◌, sym, List}
use Rattle.pb_text_tree.specs.declared.term.ArithmeticLink.{ArithmeticLink}
use Rattle.pb_text_meaning.specs.Syntax as syntax
use Rattle.pb_text_meaning.specs.Erase.{of_arithmetic}
use Rattle.pb_protocol_packer.specs.View.{calculated_terms, operations_of, term_of}
use Rattle.std.specs.Prelude.{box_value}
use Rattle.pb_protocol_packer.proofs.Nodes.{arithmetic-says, calculated-more, more-operations}
use Rattle.pb_protocol_packer.proofs.builder.Builder.computed.Goals as goal

pub returns-in_ok-push-in-Arithmetic : goal.returns-in_ok-push-in-Arithmetic
returns-in_ok-push-in-Arithmetic c =
    let x = box_value c.in-Arithmetic.first in
    let old = c.in-Arithmetic.links.items in
    let link : ArithmeticLink = record { place = c.args.self.place; operator = c.args.operator; operand = c.args.right } in
    arithmetic-says c.in-Arithmetic.first c.push.new.self
    ∙ ap (λ (ls : List ArithmeticLink). calculated_terms (term_of x) (operations_of ls)) c.in_ok-push-in-Arithmetic.ensures.items
    ∙ ap (calculated_terms (term_of x)) (more-operations old link)
    ∙ calculated-more (term_of x) (operations_of old) (of_arithmetic c.args.operator) (term_of c.args.right)
    ∙ ap (λ (t : syntax.Term). syntax.Term.Binary (of_arithmetic c.args.operator) t (term_of c.args.right))
    (sym (ap term_of c.in-Arithmetic.is ∙ arithmetic-says c.in-Arithmetic.first c.in-Arithmetic.links))
