-- The text of the property that stands at the place.
use Rattle.std.proofs.Common.{refl, rules}
use Rattle.pb_base.proofs.Faults.{if_fault}
use Rattle.pb_model_tree.specs.Form.{property_form}
use Rattle.pb_command_models.proofs.PropertyTexts.{large_text, untyped_text}
use Rattle.pb_command_models.proofs.PropertyVerdicts.{some_property}
use Rattle.pb_command_models.proofs.property_text.asked_text.Goals as goal

pub returns-in-Ok : goal.returns-in-Ok
returns-in-Ok c = record {
  place = refl;
  text =
      let some = some_property property_form c.args.solved.now.typed.model.properties.items c.args.place c.requires in
      record { property = some.0; stands = some.1; text = c.in-Ok.ensures.text some.0 some.1 };
  refused = tt;
}

pub returns-in-Err : goal.returns-in-Err
returns-in-Err c = record {
  place = search rules;
  text =
      let solved = c.args.solved.now in
      let some = some_property property_form solved.typed.model.properties.items c.args.place c.requires in
      large_text solved some.0 c.args.place some.1 c.in-Err.error c.untyped.result c.untyped.ensures.large (if_fault c.in-Err.error (λ fault h. h some.0 some.1) c.in-Err.ensures.refused);
  refused =
      let solved = c.args.solved.now in
      let some = some_property property_form solved.typed.model.properties.items c.args.place c.requires in
      untyped_text solved some.0 c.args.place some.1 c.in-Err.error c.untyped.result c.untyped.ensures.refused (if_fault c.in-Err.error (λ fault h. h some.0 some.1) c.in-Err.ensures.refused);
}
