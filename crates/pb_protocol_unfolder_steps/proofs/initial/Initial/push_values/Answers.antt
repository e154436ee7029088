use Rattle.pb_protocol_tree.specs.Form.{protocol_form}
use Rattle.std.proofs.Common.{◌<◌, length, rules}
use Rattle.pb_base.specs.OrMemory.{IfRefused}
use Rattle.pb_protocol_meaning.specs.Erase.{protocol_of}
use Rattle.pb_protocol_meaning.specs.Steps.{data_of}
use Rattle.pb_protocol_unfolding.specs.Written.{written_tuples}
use Rattle.pb_protocol_unfolder_steps.specs.Initial.{indices_said}
use Rattle.pb_protocol_unfolder_steps.specs.StepFaults.{IsFaultInValue, IsTermOr, OnTerm, argument_form}
use Rattle.pb_protocol_unfolder_steps.proofs.RefusalLemmas.{refused-so}
use Rattle.pb_protocol_unfolder_steps.proofs.StepFaultLemmas.{term-alone}
use Rattle.pb_protocol_unfolder_steps.proofs.initial.Initial.push_values.Goals as goal

pub returns-clause-refused : goal.returns-clause-refused
returns-clause-refused c =
    let m = c.args.self.now in
    let is = indices_said c.args.variable.now in
    let Q = IsFaultInValue (protocol_form m) is (argument_form c.args.value.now) in
    let faults : IfRefused c.push_at.result (OnTerm Q) = search rules in
    refused-so (OnTerm Q) (IsTermOr (8192 < length (written_tuples (data_of (protocol_of m)) is)) Q) c.push_at.result (term-alone _ Q) faults
