use Rattle.std.proofs.Common.{ap, ◌∙◌}
use Rattle.pb_text_tree.specs.Form.{TermForm, chained, term_form, term_links}
use Rattle.pb_text_tree.proofs.FormLemmas.{term-chain}
use Rattle.pb_text_terms.proofs.node.joined.Goals as goal

pub returns : goal.returns
returns c =
    term-chain c.args.connective c.in_ok-first.first c.args.links ∙ ap (λ f. chained (TermForm.connected c.args.connective) (term_form f) (term_links c.args.links.items)) c.in_ok-first.ensures.ok
