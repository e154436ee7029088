-- What is found of the property, by what becomes of the module of its text.
use Rattle.pb_model_tree.specs.Form.{ModelForm}
use Rattle.pb_command_models.specs.Outcomes.{IsModuleAt, IsOutcome, IsOutcomeAt, OfModule}
use Rattle.pb_command_models.specs.declared.outcome.Outcome.{Outcome}
use Rattle.pb_command_models.specs.declared.property_module.AskedModule.{AskedModule}
use Rattle.pb_command_models.proofs.Tellings.{ok_more}
use Rattle.pb_command_models.proofs.decision.decided_by_all.Goals as goal

-- what becomes of the module becomes of the property at its place
outcome_at : (model : ModelForm) (asked : AskedModule) → IsModuleAt model asked → (o : Outcome) → OfModule asked.compiled (λ m q. IsOutcome m q o)
    → IsOutcomeAt model (record { place = asked.place; outcome = o })
outcome_at model asked at o becomes = record {
  property = at.property;
  stands = at.stands;
  outcome = becomes model at.property at.compiled;
}

pub decided-requires-after_bounds : goal.decided-requires-after_bounds
decided-requires-after_bounds g c κs within =
    let given = c.requires in (given.0, given.1, outcome_at given.0 c.args.asked.now given.2 c.in_ok-outcome.outcome c.in_ok-outcome.ensures)

pub returns : goal.returns
returns g c counts =
    let finds = c.decided.ensures counts in
    record {
      same = finds.same;
      found = ok_more _ _ (λ finding h model said at. h model said (outcome_at model c.args.asked.now at c.in_ok-outcome.outcome c.in_ok-outcome.ensures)) c.decided.result finds.found;
    }
