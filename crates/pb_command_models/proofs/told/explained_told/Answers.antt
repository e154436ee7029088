-- The text that is explained tells the verdict.
use Rattle.std.proofs.Common.{◌∙◌, ap}
use Rattle.pb_text_tree.specs.Form.{SpecForm, spec_form}
use Rattle.pb_model_translation.specs.Placed.{every_step_form}
use Rattle.pb_model_properties.specs.Words.{words_in}
use Rattle.pb_model_words.specs.Vocabulary.{Vocabulary}
use Rattle.pb_command_models.specs.Models.{solved_form}
use Rattle.pb_command_models.specs.Why.{explanation_lines, shown_by, told_text}
use Rattle.pb_command_models.proofs.PropertyVerdicts.{some_at}
use Rattle.pb_command_models.proofs.Tellings.{ok_more}
use Rattle.pb_command_models.proofs.told.explained_told.Goals as goal

pub told_in-requires : goal.told_in-requires
told_in-requires c =
    let solved = c.args.shown.now.solved.now in
    let place = solved.typed.model.initial.place in
    let some = some_at (solved_form solved).properties c.requires.0 c.requires.1.0 in
    let is = c.requires.1.1 some.0 some.1 in
    record {
      compiled = is.explanation.of_text.compiled;
      trees = is.explanation.of_text.trees;
      explanation = is.explanation.explains;
      property = (some.0.name.place, some.0.formula, is.text.placed);
      steps = (place, every_step_form place, c.in_ok-steps.ensures);
    }

pub returns : goal.returns
returns c = ok_more _ _ (λ told h trees are.
    let shown = c.args.shown.now in
    let e = shown.explained.now in
    let line = λ (words : Vocabulary) (steps : SpecForm).
    told_text c.args.telling.always shown.name.now c.args.telling.verdict
    (explanation_lines c.args.telling.lines (shown_by words shown.denied (spec_form e.typed.spec) steps e.verified trees e.explanation.evidence)) in
    let steps = spec_form c.in_ok-steps.steps.spec in
    h trees are ∙ (ap (λ (v : Vocabulary). line v steps) c.in_ok-vocabulary.ensures
    ∙ ap (λ (s : SpecForm). line (words_in shown.solved.now) s) c.in_ok-steps.ensures))
    c.told_in.result c.told_in.ensures
