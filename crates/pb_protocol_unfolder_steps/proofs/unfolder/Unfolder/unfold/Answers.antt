use Rattle.std.proofs.Common.{subst}
use Rattle.pb_text_tree.specs.Form.{term_form}
use Rattle.pb_protocol_tree.specs.declared.protocol.Protocol.{Protocol}
use Rattle.pb_protocol_tree.specs.Form.{protocol_form}
use Rattle.pb_protocol_unfolder_steps.specs.TermContexts.{IsContextOf}
use Rattle.pb_protocol_unfolder_terms.specs.TermFaults.{HasValues, IsFaultInTerm, surroundings_of}
use Rattle.pb_protocol_unfolder_steps.specs.Unfolder.{form_in, protocol_in, scope_within}
use Rattle.pb_protocol_unfolder_steps.proofs.StepFaultLemmas.{term-told-so}
use Rattle.pb_protocol_unfolder_steps.proofs.unfolder.Unfolder.unfold.Goals as goal

pub returns-in-Ok-clause-term : goal.returns-in-Ok-clause-term
returns-in-Ok-clause-term c =
    let m = c.args.self.now in
    let here = subst (λ (p : Protocol). IsContextOf (protocol_form p) c.self.inside.context) c.self.view_is c.self.invariant.0 in
    (c.in-Ok.ensures.term (protocol_in m) here.context).term

pub returns-in-Err-clause-refused : goal.returns-in-Err-clause-refused
returns-in-Err-clause-refused c =
    let u = c.args.self.now in
    let M = surroundings_of (form_in u) in
    let here = subst (λ (p : Protocol). IsContextOf (protocol_form p) c.self.inside.context) c.self.view_is c.self.invariant.0 in
    term-told-so (HasValues c.args.scope.now) (IsFaultInTerm M (scope_within u c.args.scope.now) (term_form c.args.term.now)) c.in-Err.error c.of_term.result c.of_term.ensures
    (c.in-Err.ensures.faults M here.surroundings)
