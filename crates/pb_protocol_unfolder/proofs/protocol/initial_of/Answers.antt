use Rattle.std.proofs.Common.{◌<◌, arith, length}
use Rattle.pb_protocol_tree.specs.Form.{protocol_form}
use Rattle.pb_protocol_meaning.specs.Erase.{protocol_of}
use Rattle.pb_protocol_unfolding.specs.Unfolding.{all_elements}
use Rattle.pb_protocol_unfolder_steps.specs.StepFaults.{IsFaultAtStart, IsTermOr}
use Rattle.pb_protocol_unfolder.specs.Faults.{OfTerm}
use Rattle.pb_protocol_unfolder.specs.Parts.{IsFaultBy}
use Rattle.pb_protocol_unfolder.proofs.FaultLemmas.{raised-so}
use Rattle.pb_protocol_unfolder.proofs.NameFaults.{of-steps-term}
use Rattle.pb_protocol_unfolder.proofs.protocol.initial_of.Goals as goal

pub returns-in-Err-clause-refused : goal.returns-in-Err-clause-refused
returns-in-Err-clause-refused c =
    let more = 8192 < length (all_elements (protocol_of c.args.protocol.now)) in
    let P = IsFaultAtStart (protocol_form c.args.protocol.now) in
    raised-so (IsTermOr more P) (IsFaultBy (OfTerm P)) c.in-Err.error c.of_steps.result (of-steps-term more (λ h. omega (arith, h, c.requires.few)) P) c.of_steps.ensures c.in-Err.ensures.refused
