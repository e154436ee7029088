use Rattle.std.proofs.Common.{◌∙◌, ap, Some, string_bytes}
use Rattle.pb_text_meaning.specs.Functions.{named_function}
use Rattle.pb_protocol_folding.specs.Folding.{truth_value, function_of_three}
use Rattle.pb_protocol_folding.specs.View.{term_of}
use Rattle.pb_protocol_folding.proofs.Arguments.{application-of, second-chosen, third-chosen, none-chosen}
use Rattle.pb_protocol_folding.proofs.application.choice_term.Goals as goal

pub returns-in-Some-true : goal.returns-in-Some-true
returns-in-Some-true c spec =
    second-chosen spec (string_bytes c.args.function.text) c.args.arguments.items c.index.result.now c.chosen.result c.requires c.index.ensures
    (λ y z whole. c.chosen.ensures y z whole ∙ ap (λ g. function_of_three (named_function g) (truth_value (term_of c.index.result.now.term)) y z whole) c.as_str.ensures.value)
    (c.in-Some-true.is ∙ ap (λ b. Some b) c.in-Some-true.field-0-test) c.taken.result c.taken.ensures

pub returns-in-Some-false : goal.returns-in-Some-false
returns-in-Some-false c spec =
    third-chosen spec (string_bytes c.args.function.text) c.args.arguments.items c.index.result.now c.chosen.result c.requires c.index.ensures
    (λ y z whole. c.chosen.ensures y z whole ∙ ap (λ g. function_of_three (named_function g) (truth_value (term_of c.index.result.now.term)) y z whole) c.as_str.ensures.value)
    (c.in-Some-false.is ∙ ap (λ b. Some b) c.in-Some-false.field-0-test) c.taken-in-Some-false.result c.taken-in-Some-false.ensures

pub returns-in-None : goal.returns-in-None
returns-in-None c spec =
    application-of c.args.function c.args.arguments
    ∙ none-chosen spec (string_bytes c.args.function.text) c.args.arguments.items c.index.result.now c.chosen.result c.requires c.index.ensures
    (λ y z whole. c.chosen.ensures y z whole ∙ ap (λ g. function_of_three (named_function g) (truth_value (term_of c.index.result.now.term)) y z whole) c.as_str.ensures.value)
    c.in-None.is
