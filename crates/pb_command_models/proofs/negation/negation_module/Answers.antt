-- The module of the negation that is known, or how it is refused.
use Rattle.std.proofs.Common.{rules, Result, subst, sym}
use Rattle.std.specs.Prelude.{IfOk}
use Rattle.std.specs.declared.alloc.AllocError.{AllocError}
use Rattle.pb_model_tree.specs.Form.{model_form}
use Rattle.pb_model_properties.specs.Negations.{IsNegationOf}
use Rattle.pb_command_models.specs.Outcomes.{IsNegationAt, IsRule}
use Rattle.pb_command_models.specs.declared.property_module.PropertyModule.{PropertyModule}
use Rattle.pb_command_models.proofs.Known.{first_within, known_negation}
use Rattle.pb_command_models.proofs.Negations.{negation_ill_typed, negation_module, negation_refused, refused_rule, text_rule}
use Rattle.pb_command_models.proofs.Tellings.{ok_more}
use Rattle.pb_command_models.proofs.negation.negation_module.Goals as goal
use Rattle.pb_command_models.proofs.negation.negation_module.Goals.{In-Some, in-Ok-text_at, in-Err-Memory-text_at, in-Err-Refused-text_at}

-- the negation that is known is that of the property at the place
known : (c : In-Some) → IsNegationOf c.args.input.now c.args.place c.in-Some.negation.solved
known c =
    let read = rw c.input.view_is at c.in-Ok.ensures.read in
    known_negation c.args.input.now c.args.place _ c.in-Some.negation c.in-Some.is read c.in-Ok.ensures.there

pub excess_by-requires : goal.excess_by-requires
excess_by-requires c = subst IsRule (sym c.in-Err-Refused.fault-is)
    (refused_rule c.args.input.now c.args.place c.in-Err-Refused.fault (rw c.input.view_is at rw c.in-Err-Refused.field-0-is at c.in-Err-Refused.ensures.refused))

pub excess_by-requires-in-Err-Refused-text_at : goal.excess_by-requires-in-Err-Refused-text_at
excess_by-requires-in-Err-Refused-text_at c =
    let of = known (goal.at.excess_by-requires-in-Err-Refused-text_at c).In-Some in
    subst IsRule (sym c.in-Err-Refused-text_at.fault-is)
    (text_rule c.in-Some.negation.solved of.negation c.in-Err-Refused-text_at.fault
    ((rw c.in-Err-Refused-text_at.field-0-is at c.in-Err-Refused-text_at.ensures.refused) of.negation of.first))

pub text_at-requires : goal.text_at-requires
text_at-requires c = first_within c.args.input.now c.args.place c.in-Some.negation.solved (known (goal.at.text_at-requires c).In-Some)

pub returns-in-Err-Refused : goal.returns-in-Err-Refused
returns-in-Err-Refused c = record {
  same = search rules;
  compiled = negation_refused c.args.input.now c.args.place c.in-Err-Refused.fault c.excess_by.result
      (rw c.input.view_is at rw c.in-Err-Refused.field-0-is at c.in-Err-Refused.ensures.refused)
      (rw c.in-Err-Refused.fault-is at c.excess_by.ensures);
}

pub returns : goal.returns
returns c = record {
  same = search rules;
  compiled =
      let bytes = c.args.input.now in
      let place = c.args.place in
      let solved = c.in-Some.negation.solved in
      let of = known (goal.at.returns c).In-Some in
      let P = λ (r : Result PropertyModule AllocError). IfOk r (IsNegationAt bytes place) in
      elim c.match-text_at.branch [
        | in-Ok-text_at w ↦ subst P (sym w.result-is) (ok_more _ _ (λ compiled made. negation_module bytes place solved of compiled
            (made (model_form solved.typed.model) of.negation (w.in-Ok-text_at.ensures.text of.negation of.first))) w.property_module.result w.property_module.ensures)
        | in-Err-Memory-text_at w ↦ subst P (sym w.result-is) tt
        | in-Err-Refused-text_at w ↦ subst P (sym w.result-is) (negation_ill_typed bytes place solved of w.in-Err-Refused-text_at.fault w.excess_by-in-Err-Refused-text_at.result
            ((rw w.in-Err-Refused-text_at.field-0-is at w.in-Err-Refused-text_at.ensures.refused) of.negation of.first)
            (rw w.in-Err-Refused-text_at.fault-is at w.excess_by-in-Err-Refused-text_at.ensures))
      ];
}
