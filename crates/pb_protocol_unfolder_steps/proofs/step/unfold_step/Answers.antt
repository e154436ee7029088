use Rattle.pb_protocol_unfolder_steps.specs.StepFaults.{IsFaultInStep, OnTerm, placed_instance}
use Rattle.pb_protocol_unfolder_steps.specs.Unfolder.{form_in}
use Rattle.pb_protocol_unfolder_steps.proofs.RefusalLemmas.{refused-so}
use Rattle.pb_protocol_unfolder_steps.proofs.StepFaultLemmas.{term-in}
use Rattle.pb_protocol_unfolder_steps.proofs.step.unfold_step.Goals as goal

pub returns-clause-refused : goal.returns-clause-refused
returns-clause-refused c =
    let Q = IsFaultInStep (form_in c.args.unfolder.now) (placed_instance c.args.instance.now) in
    refused-so _ (OnTerm Q) c.unfold_in_scope.result (term-in _ Q (λ r p o. o tt)) c.unfold_in_scope.ensures.refused
