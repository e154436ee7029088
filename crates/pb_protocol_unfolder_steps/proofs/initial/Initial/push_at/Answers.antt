use Rattle.pb_protocol_tree.specs.Form.{protocol_form}
use Rattle.std.proofs.Common.{List, map, subst}
use Rattle.pb_protocol_unfolder_terms.specs.declared.written.Written.{Written}
use Rattle.pb_protocol_unfolder_terms.specs.Values.{tuple_of, written_term}
use Rattle.pb_protocol_unfolder_terms.specs.View.{variable_of}
use Rattle.pb_protocol_unfolder_steps.specs.StepFaults.{IsFaultAtValues, IsFaultAtSome, OnTerm, argument_form}
use Rattle.pb_protocol_unfolder_steps.proofs.StepFaultLemmas.{term-in}
use Rattle.pb_protocol_unfolder_terms.proofs.MetLemmas.{item-in, mapped-in}
use Rattle.pb_protocol_unfolder_steps.proofs.RefusalLemmas.{refused}
use Rattle.pb_protocol_unfolder_steps.proofs.initial.Initial.push_at.Goals as goal

pub returns-in_err-term-clause-refused : goal.returns-in_err-term-clause-refused
returns-in_err-term-clause-refused c =
    let F = protocol_form c.args.self.now in
    let is = map variable_of c.args.indices.now in
    let x = argument_form c.args.value.now in
    let ts = c.args.tuples.now in
    let v = c.values-item.result in
    let P = IsFaultAtValues F is x (map written_term c.deref.result.now) in
    let Q = IsFaultAtSome F is x (map tuple_of ts) in
    let there = mapped-in tuple_of ts v (item-in ts c.loop-values.values-index v c.loop-values-test.true c.values-item.is) in
    refused c.from_residual.result c.in_err-term.field-0.0 (OnTerm P) (OnTerm Q) c.from_residual.ensures.1
    (term-in P Q (λ r p o. (tuple_of v, there, subst (λ (ws : List Written). IsFaultAtValues F is x (map written_term ws) r p) c.deref.ensures.value o))) c.in_err-term.ensures.refused
