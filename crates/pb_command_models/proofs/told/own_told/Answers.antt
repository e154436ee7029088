-- What is found of the property is told, or something is too large for a verdict.
use Rattle.std.proofs.Common.{◌∙◌, false, refl, string_bytes, sym, subst, inl}
use Rattle.pb_base.specs.OrMemory.{IfFault}
use Rattle.pb_base.specs.declared.or_memory.OrMemory.{OrMemory}
use Rattle.pb_command_faults.specs.declared.solve_fault.SolveFault.{SolveFault}
use Rattle.pb_model_properties.specs.Words.{words_in}
use Rattle.pb_command_models.specs.Models.{solved_form}
use Rattle.pb_command_models.specs.Why.{IsUnexplainedOf}
use Rattle.pb_command_models.proofs.Decisions.{finding_at, found_unexplained, found_verdict, large_unexplained}
use Rattle.pb_command_models.proofs.PropertyVerdicts.{some_at}
use Rattle.pb_command_models.proofs.Tellings.{known_rests, there_told, told_by}
use Rattle.pb_command_models.proofs.told.own_told.Goals as goal

pub explained_finding-requires-after_bounds : goal.explained_finding-requires-after_bounds
explained_finding-requires-after_bounds g c κs within = (solved_form c.args.shown.now.solved.now, c.requires.said.said, c.requires.own.explained)

pub returns-in-Err : goal.returns-in-Err
returns-in-Err g c = record {
  same = c.explained_finding.ensures.same;
  told = tt;
  refused =
      let bytes = c.args.input.now in
      let model = solved_form c.args.shown.now.solved.now in
      let place = c.args.asked.place in
      let said = c.requires.said.said in
      let some = some_at model.properties place c.requires.own.explained.0 in
      let found = c.in_ok-finding.ensures.found model said c.requires.own.explained in
      let large = found_unexplained bytes model said place some.0 some.1 c.in_ok-finding.finding found c.in-Err.excess (sym c.verdict_in.ensures ∙ c.in-Err.is) in
      subst (λ (e : OrMemory SolveFault). IfFault e (IsUnexplainedOf bytes model place)) (sym (c.refused_property.ensures some.0 some.1))
      (large_unexplained bytes model said place some.0 some.1 c.in-Err.excess large _ refl);
}

pub returns-in_ok-explained_told-in-Ok : goal.returns-in_ok-explained_told-in-Ok
returns-in_ok-explained_told-in-Ok g c = record {
  same = c.explained_finding.ensures.same;
  told = λ said p q stands there.
      let asked = c.args.asked in
      let shown = c.args.shown.now in
      let solved = shown.solved.now in
      let model = solved_form solved in
      let v = c.in-Ok.verdict in
      let told = c.in_ok-explained_told-in-Ok.field-0 in
      let text = c.requires.own.explained.1 q there in
      let found = c.in_ok-finding.ensures.found model said c.requires.own.explained in
      let finding = finding_at false said.protocol model asked.place c.in_ok-finding.finding found p q stands there in
      record {
        verdict = v;
        of_verdict = found_verdict said.protocol model asked.place p q stands there c.in_ok-finding.finding finding v (sym c.verdict_in.ensures ∙ c.in-Ok.is);
        shown = inl (told_by asked.options.lines asked.always false (words_in solved) model q q.name.text v shown.explained.now text
            (λ e. known_rests shown.explained.now text.explanation false c.requires.within) (string_bytes told)
            (there_told asked v c.telling_of-telling.result shown told false q.name.text c.telling_of-telling.ensures c.requires.own.own (c.requires.own.name q there)
            c.in_ok-explained_told-in-Ok.ensures));
      };
  refused = tt;
}
