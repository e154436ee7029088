use Rattle.std.proofs.Common.{ap, ◌∙◌}
use Rattle.pb_text_tree.specs.Form as form
use Rattle.pb_text_tree.specs.Form.{term_form, arithmetic_links}
use Rattle.pb_text_tree.proofs.FormLemmas.{term-arithmetic}
use Rattle.pb_text_terms.proofs.node.calculated.Goals as goal

pub returns : goal.returns
returns c =
    term-arithmetic c.in_ok-first.first c.args.links ∙ ap (λ f. form.calculated (term_form f) (arithmetic_links c.args.links.items)) c.in_ok-first.ensures.ok
