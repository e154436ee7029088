-- The text of the negation is explained, or how it is refused.
use Rattle.pb_base.proofs.Faults.{if_fault, if_raised}
use Rattle.pb_model_tree.specs.Form.{property_form}
use Rattle.pb_command_models.proofs.Known.{first_unexplained, first_within}
use Rattle.pb_command_models.proofs.Negations.{negation_refused, negation_unexplained, refused_rule, text_fault}
use Rattle.pb_command_models.proofs.Tellings.{within_form}
use Rattle.pb_command_models.proofs.denial.explained_negation.Goals as goal

pub refused_by-requires : goal.refused_by-requires
refused_by-requires g c = if_fault c.in-Err.error (λ fault h. refused_rule c.args.input.now c.args.asked.place fault h) c.in-Err.ensures.refused

pub explained_at-requires-after_bounds : goal.explained_at-requires-after_bounds
explained_at-requires-after_bounds g c κs within = first_within c.args.input.now c.args.asked.place c.in-Ok.solved c.in-Ok.ensures.taken

pub unexplained_by-requires : goal.unexplained_by-requires
unexplained_by-requires g c = if_fault c.in-Err-explained_at.error (λ fault h. text_fault c.in-Ok.solved h.0 fault h.2) c.in-Err-explained_at.ensures.refused

pub returns-in-Err : goal.returns-in-Err
returns-in-Err g c = record {
  same = c.take_negation.ensures.same;
  explained = tt;
  refused = if_raised c.in-Err.error c.refused_by.result c.refused_by.ensures
      (λ fault excess made h. negation_refused c.args.input.now c.args.asked.place fault excess h made) c.in-Err.ensures.refused;
}

pub returns-in-Err-explained_at : goal.returns-in-Err-explained_at
returns-in-Err-explained_at g c = record {
  same = c.take_negation.ensures.same;
  explained = tt;
  refused =
      let bytes = c.args.input.now in
      let place = c.args.asked.place in
      let solved = c.in-Ok.solved in
      let of = c.in-Ok.ensures.taken in
      if_raised c.in-Err-explained_at.error c.unexplained_by.result c.unexplained_by.ensures
      (λ fault excess made h. negation_unexplained bytes place solved of fault excess (first_unexplained bytes place solved of fault h) made) c.in-Err-explained_at.ensures.refused;
}

pub returns-in-Ok-explained_at : goal.returns-in-Ok-explained_at
returns-in-Ok-explained_at g c = record {
  same = c.take_negation.ensures.same;
  explained =
      let within = first_within c.args.input.now c.args.asked.place c.in-Ok.solved c.in-Ok.ensures.taken in
      record {
        of = c.in-Ok.ensures.taken;
        explained = (within_form property_form c.in-Ok.solved.typed.model.properties.items 0 within, c.in-Ok-explained_at.ensures.explained);
      };
  refused = tt;
}
