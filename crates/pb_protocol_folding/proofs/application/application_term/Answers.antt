use Rattle.std.proofs.Common.{◌≡◌, ◌∙◌, subst}
use Rattle.pb_text_meaning.specs.Syntax.{Term}
use Rattle.pb_protocol_folding.specs.Folding.{folded_application}
use Rattle.pb_protocol_folding.specs.View.{terms_of, spec_of}
use Rattle.pb_protocol_folding.proofs.Arguments.{application-of}
use Rattle.pb_protocol_folding.proofs.application.application_term.Goals as goal

pub returns-in-Whole : goal.returns-in-Whole
returns-in-Whole c =
    let spec = spec_of c.args.folding.now.sorts.now in
    application-of c.args.function c.args.arguments
    ∙ subst (λ g. Term.Apply g (terms_of c.args.arguments.items) ≡ folded_application spec g (terms_of c.args.arguments.items)) c.as_str.ensures.value
    (subst (λ xs. Term.Apply c.as_str.result.now (terms_of xs) ≡ folded_application spec c.as_str.result.now (terms_of xs)) c.deref.ensures.value c.in-Whole.ensures)
