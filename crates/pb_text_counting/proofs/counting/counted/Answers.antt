use Rattle.std.proofs.Common.{ℕ, List, ap, ◌∙◌, string_bytes}
use Rattle.pb_text_tree.specs.declared.place.Place.{Place}
use Rattle.pb_text_tree.specs.declared.term.Term.{Term}
use Rattle.pb_text_tree.specs.declared.operator.Quantifier.TheVariants.{Exists}
use Rattle.pb_text_tree.specs.Form.{Named, TermForm, argument, no_arguments, argument_forms, named, term_form, variable_forms}
use Rattle.pb_text_tree.proofs.FormLemmas.{term-application}
use Rattle.pb_text_counting.proofs.counting.counted.Goals as goal

abbrev name_at : Place → List ℕ → Named
name_at place text = record { place = place; text = text }

abbrev over : Place → TermForm → Named → TermForm
over place x name = TermForm.application name (argument place x no_arguments)

pub returns : goal.returns
returns c =
    let variables = variable_forms c.args.variables.items in
    let bound = λ (x : Term). TermForm.quantified Exists c.args.place variables (term_form x) in
    let name = c.in-Ok.function in
    term-application name c.in_ok-arguments.arguments
    ∙ ap (λ xs. TermForm.application (named name) (argument_forms xs)) c.in_ok-arguments.ensures.items
    ∙ ap (λ x. over c.args.place (bound x) (named name)) c.in_ok-body.ensures.ok
    ∙ ap (λ p. over c.args.place (bound c.args.body) (name_at p (string_bytes name.text))) c.in-Ok.ensures.place
    ∙ ap (λ t. over c.args.place (bound c.args.body) (name_at c.args.place t)) c.in-Ok.ensures.text
