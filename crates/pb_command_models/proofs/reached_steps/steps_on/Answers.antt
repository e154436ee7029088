-- What is found of one more step.
use Rattle.std.proofs.Common.{◌≡◌, ◌∙◌, ◌+◌, ℕ, true, [], ◌∷◌, ap, length, length-append, arith, rules}
use Rattle.std.proofs.lemmas.List.{length-map}
use Rattle.pb_model_tree.specs.Form.{model_form, step_form}
use Rattle.pb_command_faults.proofs.HandedUp.{handed_on}
use Rattle.pb_command_models.specs.ReachedSteps.{AreStepsFound, IsUntypedStep}
use Rattle.pb_command_models.proofs.StepFindings.{module_of_step, nothing_found, step_pushed}
use Rattle.pb_command_models.proofs.reached_steps.steps_on.Goals as goal

pub loop-step-init : goal.loop-step-init
loop-step-init g c = record {
  count = ap length c.new-findings.ensures.items;
  within = omega arith;
  found = nothing_found (model_form c.args.solved.now.typed.model) c.new-findings.result.items c.new-findings.ensures.items;
}

pub loop-step-preserved : goal.loop-step-preserved
loop-step-preserved g c =
    let before = c.loop-step.invariant in
    let model = model_form c.args.solved.now.typed.model in
    let steps = c.args.solved.now.typed.model.steps in
    let xs = c.loop-step.findings.items in
    let pushed : length c.push.new.self.items ≡ length xs + 1 = ap length c.in_ok-push.ensures.items ∙ length-append xs (c.in_ok-finding.finding ∷ []) in
    record {
      count = pushed ∙ ap (λ (k : ℕ). k + 1) before.count;
      within = omega (arith, c.len-step-end.ensures, c.loop-step-test.true, steps.ok.0);
      found = step_pushed model c.push.new.self.items xs c.loop-step.step c.in_ok-finding.finding c.in_ok-push.ensures.items
          before.count before.found (c.in_ok-finding.ensures model c.loop-step.step
          (module_of_step model c.loop-step.step c.in_ok-asked.asked.text c.in_ok-compiled.compiled c.in_ok-asked.ensures.text c.in_ok-compiled.ensures));
    }

pub step_text-requires : goal.step_text-requires
step_text-requires g c = omega (arith, c.len-step-end.ensures, c.loop-step-test.true, c.args.solved.now.typed.model.steps.ok.0)

pub returns : goal.returns
returns g c = record {
  found =
      let before = c.loop-step.invariant in
      let model = model_form c.args.solved.now.typed.model in
      let steps = c.args.solved.now.typed.model.steps in
      let found : AreStepsFound model c.loop-step.findings.items = record {
        count = omega (arith, before.count, before.within, c.len-step-end.ensures, c.loop-step-test.false, length-map steps.items step_form, steps.ok.0);
        found = before.found;
      } in
      search rules;
  refused = tt;
}

pub returns-in_err-asked : goal.returns-in_err-asked
returns-in_err-asked g c = record {
  found = search rules;
  refused =
      let solved = c.args.solved.now in
      handed_on (IsUntypedStep solved) (λ fault. (c.args.options.now.counts ≡ true) × IsUntypedStep solved fault) (λ fault h. (counted, h))
      c.in_err-asked.field-0.0 c.from_residual.result c.in_err-asked.ensures.refused c.from_residual.ensures.1;
}
  where
    counted : c.args.options.now.counts ≡ true
    counted = c.if-not-options.false
