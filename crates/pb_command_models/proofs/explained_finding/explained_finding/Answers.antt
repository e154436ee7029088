-- What is found of the property, by its evidence, its negation and the cuts.
use Rattle.std.proofs.Common.{◌∙◌, ◌<◌, ℕ, false, length, refl, rules, sym, true}
use Rattle.pb_text_tree.specs.Form.{spec_form}
use Rattle.pb_model_tree.specs.Form.{ModelForm}
use Rattle.pb_command_models.specs.Outcomes.{IsExplainedAt, IsOutcome, IsOutcomeAt, OfModule}
use Rattle.pb_command_texts.specs.declared.explained.ExplainedText.{ExplainedText}
use Rattle.pb_command_models.specs.declared.outcome.Outcome.{Outcome}
use Rattle.pb_command_models.specs.declared.property_module.PropertyModule.TheVariants as property_module
use Rattle.pb_command_models.proofs.Decisions.{found_shown, has_property, still_has, shown_false, shown_true}
use Rattle.pb_command_models.proofs.PropertyVerdicts.{some_at}
use Rattle.pb_command_models.proofs.Tellings.{explained_truth, ok_more}
use Rattle.pb_command_models.proofs.explained_finding.explained_finding.Goals as goal

pub is_denied-requires-after_bounds : goal.is_denied-requires-after_bounds
is_denied-requires-after_bounds g c κs within = has_property c.args.input.now c.requires.0 c.requires.1 c.args.asked.place c.requires.2.0

-- what becomes of the module becomes of the property at the place
outcome_at : (model : ModelForm) (e : ExplainedText) (place : ℕ) → place < length model.properties → IsExplainedAt model place e
    → (o : Outcome) → OfModule (property_module.Verified e.verified) (λ m q. IsOutcome m q o) → IsOutcomeAt model (record { place = place; outcome = o })
outcome_at model e place within at o becomes =
    let some = some_at model.properties place within in
    let x = at some.0 some.1 in
    record { property = some.0; stands = some.1; outcome = becomes model some.0 (spec_form e.typed.spec, x.text, x.explanation.of_text) }

pub returns-then-explained : goal.returns-then-explained
returns-then-explained g c = record {
  same = search rules;
  found = λ model said (within, at).
      let some = some_at model.properties c.args.asked.place within in
      found_shown false said.protocol model said.is_for c.args.asked.place some.0 some.1 true refl
      (shown_true false said.protocol model said.is_for c.args.asked.place some.0 some.1
      (sym c.if-explained.true ∙ explained_truth model some.0 c.args.explained.now (at some.0 some.1)));
}

pub returns-then-denied : goal.returns-then-denied
returns-then-denied g c = record {
  same = c.is_denied.ensures.same;
  found = λ model said (within, at).
      let some = some_at model.properties c.args.asked.place within in
      found_shown false said.protocol model said.is_for c.args.asked.place some.0 some.1 false refl
      (shown_false false said.protocol model said.is_for c.args.asked.place some.0 some.1 c.args.input.now said.read (c.in_ok-denied.ensures.denied c.if-denied.true)
      (sym c.if-explained.false ∙ explained_truth model some.0 c.args.explained.now (at some.0 some.1)));
}

pub decided-requires-after_bounds : goal.decided-requires-after_bounds
decided-requires-after_bounds g c κs within =
    let given = c.requires in still_has _ c.is_denied.ensures.same
    (given.0, given.1, outcome_at given.0 c.args.explained.now c.args.asked.place given.2.0 given.2.1 c.in_ok-outcome.outcome c.in_ok-outcome.ensures)

pub returns : goal.returns
returns g c =
    let finds = c.decided.ensures false in
    let same = c.is_denied.ensures.same in
    record {
      same = finds.same ∙ same;
      found = ok_more _ _ (λ finding h model said (within, at). h model said
          (outcome_at model c.args.explained.now c.args.asked.place within at c.in_ok-outcome.outcome c.in_ok-outcome.ensures)) c.decided.result (rw same at finds.found);
    }
