-- A protocol that keeps the rules is unfolded, and what it is unfolded to solved in its place.
use Rattle.std.proofs.Common.{◌∙◌, List, map, refl, ap, Some}
use Rattle.pb_model_tree.specs.Form.{model_form}
use Rattle.pb_protocol_tree.specs.Form.{protocol_form}
use Rattle.pb_protocol_unfolder.specs.declared.origin.StepOrigin.{StepOrigin}
use Rattle.pb_protocol_unfolder.specs.Origins.{origin_name, origin_place}
use Rattle.pb_model_properties.specs.declared.solved.ToldNames.{ToldNames}
use Rattle.pb_model_properties.specs.Flat.{IsFlatModelFor}
use Rattle.pb_model_properties.specs.Words.{AreNamesOf}
use Rattle.pb_model_properties.proofs.FlatModels.{IsUnfoldedTo, is_unfolded_to, not_unfolded, rules_broken, unfolded_is_flat, unfolded_names}
use Rattle.pb_model_properties.proofs.SolvedModels.{refused_for, solved_for}
use Rattle.pb_model_properties.proofs.unfolded.unfolded_solved.Goals as goal

pub returns-in-Err-clause-refused : goal.returns-in-Err-clause-refused
returns-in-Err-clause-refused c =
    rules_broken (protocol_form c.args.protocol.now) c.in-Err.error c.raise.result c.raise.ensures c.in-Err.ensures.fails

pub returns-in-Err-unfold-clause-refused : goal.returns-in-Err-unfold-clause-refused
returns-in-Err-unfold-clause-refused c =
    not_unfolded (protocol_form c.args.protocol.now) c.requires.unfolds c.in-Err-unfold.error c.as_model_error.result c.as_model_error.ensures c.in-Err-unfold.ensures.refused

-- what it is unfolded to, and the names by which that is told
module _ (c : goal.After-drop-origins-2) where
  unfolded_to : IsUnfoldedTo (protocol_form c.args.protocol.now) c.in-Ok-unfold.unfolded
  unfolded_to =
      let to = c.in-Ok-unfold.ensures in
      let hides = to.hides_nothing (c.models_stand_for_protocols.ensures.enumerators (protocol_form c.args.protocol.now) c.in-Ok.ensures.accepted) in
      is_unfolded_to c.args.protocol.now c.in-Ok-unfold.unfolded c.requires.unfolds c.in-Ok.ensures.accepted to.model hides to.names to.places to.formulas to.told_variables
      to.told_steps to.told_places to.impossible

  abbrev told_by : ToldNames
  told_by = record {
    variables = c.in-Ok-unfold.unfolded.variables;
    steps = c.in_ok-steps.steps;
    places = c.in_ok-places.places;
    impossible = c.in-Ok-unfold.unfolded.impossible;
  }

  flat_for : IsFlatModelFor (protocol_form c.args.protocol.now) (model_form c.in-Ok-unfold.unfolded.model)
  flat_for = unfolded_is_flat c.models_stand_for_protocols.ensures (protocol_form c.args.protocol.now) c.in-Ok-unfold.unfolded c.requires.solvable unfolded_to

  named_for : AreNamesOf (protocol_form c.args.protocol.now) (model_form c.in-Ok-unfold.unfolded.model) (Some told_by)
  named_for =
      unfolded_names (protocol_form c.args.protocol.now) c.in-Ok-unfold.unfolded told_by c.requires.unfolds unfolded_to refl
      (c.in_ok-steps.ensures ∙ ap (λ (xs : List StepOrigin). map origin_name xs) c.deref.ensures.value)
      (c.in_ok-places.ensures ∙ ap (λ (xs : List StepOrigin). map origin_place xs) c.deref-2.ensures.value) refl

pub returns-clause-model : goal.returns-clause-model
returns-clause-model c =
    solved_for (protocol_form c.args.protocol.now) (model_form c.in-Ok-unfold.unfolded.model) (Some (told_by c)) (flat_for c) (named_for c) c.flat_solved.result c.flat_solved.ensures.model

pub returns-clause-refused : goal.returns-clause-refused
returns-clause-refused c =
    refused_for (protocol_form c.args.protocol.now) (model_form c.in-Ok-unfold.unfolded.model) (Some (told_by c)) (flat_for c) (named_for c) c.flat_solved.result c.flat_solved.ensures.refused
