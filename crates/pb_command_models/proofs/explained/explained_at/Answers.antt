-- The text of the property at the place is explained, or the model isn't.
use Rattle.std.proofs.Common.{subst, sym}
use Rattle.pb_base.proofs.Faults.{if_raised}
use Rattle.pb_text_tree.specs.Form.{spec_form}
use Rattle.pb_model_tree.specs.Form.{PropertyForm, model_form, property_form}
use Rattle.pb_command_faults.specs.Errors.{fault_of_model}
use Rattle.pb_model_properties.specs.Refusals.{IsRefusedText}
use Rattle.pb_model_faults.specs.declared.ModelFault.{ModelFault}
use Rattle.pb_model_faults.specs.declared.ModelFault.TheVariants as model_fault
use Rattle.pb_model_properties.specs.declared.solved.SolvedModel.{SolvedModel}
use Rattle.pb_model_properties.specs.Said.{IsTextOf}
use Rattle.pb_typing.specs.declared.typed.Typed.{Typed}
use Rattle.pb_command_models.specs.Outcomes.{IsUnexplainedAt, IsUnexplainedText}
use Rattle.pb_command_models.proofs.PropertyVerdicts.{some_property, text_at_place, unexplained_property}
use Rattle.pb_command_models.proofs.explained.explained_at.Goals as goal

-- a text that isn't well typed isn't explained
refused_text : (solved : SolvedModel) (p : PropertyForm) (fault : ModelFault) → IsRefusedText solved p fault → IsUnexplainedText solved p (fault_of_model fault)
refused_text solved p (model_fault.Typing fault) h = h
refused_text solved p (model_fault.Text fault) h = absurd h
refused_text solved p model_fault.NoProperty h = absurd h

pub returns-in-Err : goal.returns-in-Err
returns-in-Err g c = record {
  explained = tt;
  refused =
      let solved = c.args.solved.now in
      let some = some_property property_form solved.typed.model.properties.items c.args.place c.requires in
      if_raised c.in-Err.error c.raise.result c.raise.ensures
      (λ fault above same h. (some.0, some.1, subst (IsUnexplainedText solved some.0) (sym same) (refused_text solved some.0 fault (h some.0 some.1))))
      c.in-Err.ensures.refused;
}

pub returns-in-Err-explained_typed : goal.returns-in-Err-explained_typed
returns-in-Err-explained_typed g c = record {
  explained = tt;
  refused =
      let solved = c.args.solved.now in
      let model = model_form solved.typed.model in
      let place = c.args.place in
      let text = spec_form c.in-Ok.typed.spec in
      let some = some_property property_form solved.typed.model.properties.items place c.requires in
      let at = text_at_place model place text some c.in-Ok.ensures.text in
      if_raised c.in-Err-explained_typed.error c.error_of_property.result c.error_of_property.ensures
      (λ fault above same h. subst (IsUnexplainedAt solved place) (sym same)
      (unexplained_property solved place text at c.name_place-here.result (c.name_place-here.ensures at.property at.stands) fault h))
      c.in-Err-explained_typed.ensures.refused;
}

pub returns-in-Ok-explained_typed : goal.returns-in-Ok-explained_typed
returns-in-Ok-explained_typed g c = record {
  explained = λ q stands. record {
    text = subst (λ (t : Typed). IsTextOf (model_form c.args.solved.now.typed.model) q (spec_form t.spec)) (sym c.in-Ok-explained_typed.ensures.typed) (c.in-Ok.ensures.text q stands);
    explanation = c.in-Ok-explained_typed.ensures.explained;
  };
  refused = tt;
}
