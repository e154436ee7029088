use Rattle.pb_protocol_tree.specs.Form.{protocol_form}
use Rattle.pb_protocol_meaning.specs.Erase.{protocol_of}
use Rattle.pb_protocol_unfolder_terms.specs.Contexts.{without_state}
use Rattle.std.proofs.Common.{map, subst}
use Rattle.pb_text_tree.specs.Form.{term_form}
use Rattle.pb_protocol_tree.specs.declared.protocol.Protocol.{Protocol}
use Rattle.pb_protocol_unfolder_steps.specs.TermContexts.{IsContextAtStart}
use Rattle.pb_protocol_unfolder_terms.specs.TermFaults.{surroundings_at_start}
use Rattle.pb_protocol_unfolder_terms.specs.Values.{written_term}
use Rattle.pb_protocol_unfolder_terms.specs.View.{variable_of}
use Rattle.pb_protocol_unfolder_steps.specs.StepFaults.{IsFaultAtValues}
use Rattle.pb_protocol_unfolder_steps.proofs.StepFaultLemmas.{term-told}
use Rattle.pb_protocol_unfolder_steps.proofs.initial.Initial.unfold_at.Goals as goal

pub returns-in-Ok-clause-term : goal.returns-in-Ok-clause-term
returns-in-Ok-clause-term c =
    let here = subst (λ (p : Protocol). IsContextAtStart (protocol_form p) c.self.inside.context) c.self.view_is c.self.invariant in
    (c.in-Ok.ensures.term (without_state (protocol_of c.args.self.now)) here.context).term

pub returns-in-Err-clause-refused : goal.returns-in-Err-clause-refused
returns-in-Err-clause-refused c =
    let F = protocol_form c.args.self.now in
    let here = subst (λ (p : Protocol). IsContextAtStart (protocol_form p) c.self.inside.context) c.self.view_is c.self.invariant in
    term-told (IsFaultAtValues F (map variable_of c.args.indices.now) (term_form c.args.term.now) (map written_term c.args.values.now)) c.in-Err.error c.of_term.result c.of_term.ensures
    (c.in-Err.ensures.faults (surroundings_at_start F) here.surroundings tt)
