-- What the negation shows is told, or it is refused.
use Rattle.std.proofs.Common.{true, false, refl, string_bytes, sym, subst, inl, inr}
use Rattle.pb_base.specs.OrMemory.{IfFault}
use Rattle.pb_base.specs.declared.or_memory.OrMemory.{OrMemory}
use Rattle.pb_command_faults.specs.declared.solve_fault.SolveFault.{SolveFault}
use Rattle.pb_model_properties.specs.Words.{words_in}
use Rattle.pb_model_properties.specs.declared.verdicts.Verdict.TheVariants as verdict
use Rattle.pb_command_models.specs.Models.{solved_form}
use Rattle.pb_text_tree.specs.Form.{spec_form}
use Rattle.pb_command_models.specs.Why.{IsUnexplainedOf, steps_of}
use Rattle.pb_command_models.proofs.Decisions.{has_property, large_unexplained, same_at}
use Rattle.pb_command_models.proofs.Denied.{denial_refused, denial_told, false_verdict, unknown_verdict}
use Rattle.pb_command_models.proofs.PropertyVerdicts.{some_at}
use Rattle.pb_command_models.proofs.Tellings.{asked_told, shown_by_cut, there_told, told_by, wanting}
use Rattle.pb_command_models.proofs.told.cut_told.Goals as goal

pub explained_negation-requires-after_bounds : goal.explained_negation-requires-after_bounds
explained_negation-requires-after_bounds g c κs within =
    has_property c.args.input.now (solved_form c.args.shown.now.solved.now) c.requires.said.said c.args.asked.place c.requires.own.explained.0

pub returns-in-Err-Refused : goal.returns-in-Err-Refused
returns-in-Err-Refused g c = record {
  same = c.explained_negation.ensures.same;
  told = tt;
  refused =
      let bytes = c.args.input.now in
      let shown = c.args.shown.now in
      let model = solved_form shown.solved.now in
      let place = c.args.asked.place in
      let said = c.requires.said.said in
      let some = some_at model.properties place c.requires.own.explained.0 in
      let own = same_at said.protocol model said.protocol.properties model.properties place some.0 said.is_for.solved.properties some.1 in
      let large = denial_refused bytes model said place own.0 some.0 own.1 some.1 shown.explained.now (c.requires.own.explained.1 some.0 some.1) c.requires.cut
      c.in-Err-Refused.excess (rw c.in-Err-Refused.field-0-is at c.in-Err-Refused.ensures.refused) in
      subst (λ (e : OrMemory SolveFault). IfFault e (IsUnexplainedOf bytes model place)) (sym (c.refused_property.ensures some.0 some.1))
      (large_unexplained bytes model said place some.0 some.1 c.in-Err-Refused.excess (inr large) _ refl);
}

pub returns-in_err-explained_told-2 : goal.returns-in_err-explained_told-2
returns-in_err-explained_told-2 g c =
    wanting c.args.asked c.args.shown.now.solved.now c.args.input.now c.explained_negation.new.input c.from_residual-in_err-explained_told-2.result c.explained_negation.ensures.same
    c.from_residual-in_err-explained_told-2.ensures.1

pub returns-then-not-denial : goal.returns-then-not-denial
returns-then-not-denial g c = record {
  same = c.explained_negation.ensures.same;
  told = λ said p q stands there.
      let asked = c.args.asked in
      let shown = c.args.shown.now in
      let solved = shown.solved.now in
      let model = solved_form solved in
      let text = c.requires.own.explained.1 q there in
      let told = c.in_ok-explained_told.field-0 in
      record {
        verdict = verdict.Unknown;
        of_verdict = unknown_verdict c.args.input.now model said asked.place p q stands there shown.explained.now text c.requires.cut
            c.in-Ok.denial c.in-Ok.ensures.explained c.if-not-denial.true;
        shown = inl (told_by asked.options.lines asked.always false (words_in solved) model q q.name.text verdict.Unknown shown.explained.now text
            (λ e. absurd (cc e)) (string_bytes told)
            (there_told asked verdict.Unknown c.telling_of-telling.result shown told false q.name.text c.telling_of-telling.ensures c.requires.own.own
            (c.requires.own.name q there) c.in_ok-explained_told.ensures));
      };
  refused = tt;
}

pub returns : goal.returns
returns g c = record {
  same = c.explained_negation.ensures.same;
  told = λ said p q stands there.
      let asked = c.args.asked in
      let shown = c.args.shown.now in
      let model = solved_form shown.solved.now in
      let text = c.requires.own.explained.1 q there in
      let denial = c.in-Ok.denial in
      let told = string_bytes c.in_ok-explained_told-2.field-0 in
      record {
        verdict = verdict.False;
        of_verdict = false_verdict c.args.input.now model said asked.place p q stands there shown.explained.now text c.requires.cut
            c.in-Ok.denial c.in-Ok.ensures.explained c.if-not-denial.false;
        shown = inr (
          refl,
          shown_by_cut model q shown.explained.now text c.requires.cut,
          denial_told c.args.input.now model said asked.place p q stands there shown.explained.now text c.requires.cut
              denial c.in-Ok.ensures.explained c.if-not-denial.false asked.options.lines asked.always q.name.text told
              (asked_told asked verdict.False c.telling_of-telling-2.result true (words_in denial.solved) (spec_form denial.explained.typed.spec) (steps_of (solved_form denial.solved))
              denial.explained.verified denial.explained.explanation.evidence told q.name.text shown.name.now c.telling_of-telling-2.ensures (c.requires.own.name q there)
              c.in_ok-explained_told-2.ensures),
        );
      };
  refused = tt;
}
