use Rattle.std.proofs.Common.{◌≡◌, ◌∙◌, ap, sym}
use Rattle.std.proofs.lemmas.Result.{IfOk-weaker}
use Rattle.pb_base.proofs.Faults.{if_refused}
use Rattle.pb_text_tree.specs.Form.{term_form}
use Rattle.pb_protocol_folding.specs.View.{term_of}
use Rattle.pb_protocol_tree.specs.Form.{ProtocolForm}
use Rattle.pb_protocol_meaning.specs.Erase.{erase}
use Rattle.pb_protocol_unfolder_terms.specs.Contexts.{without_state}
use Rattle.pb_protocol_unfolder_terms.specs.TermFaults.{surroundings_at_start}
use Rattle.pb_protocol_constants.specs.Contexts.{IsOfConstants}
use Rattle.pb_protocol_constants.specs.Settled.{number_in, unfolded_value}
use Rattle.pb_protocol_constants.proofs.Refusals.{no-value, term-refused}
use Rattle.pb_protocol_constants.proofs.valued.unfolded_number.Goals as goal
use Rattle.pb_protocol_constants.proofs.valued.unfolded_number.Goals.{In-Ok}

-- what is unfolded is the value's term
unfolded : (c : In-Ok) (m : ProtocolForm) → IsOfConstants m c.args.context.now → term_of c.in-Ok.unfolded.term ≡ unfolded_value m (term_form c.args.value.now)
unfolded c m here = (c.in-Ok.ensures.term (without_state (erase m)) here.context).term

pub returns-in-Ok-clause-value : goal.returns-in-Ok-clause-value
returns-in-Ok-clause-value c = λ m here.
    let same = unfolded (goal.at.returns-in-Ok-clause-value c).In-Ok m here in
    IfOk-weaker c.written_number-number.result _ _ (λ v e. sym (ap number_in same) ∙ e) c.written_number-number.ensures.number

pub returns-in-Ok-clause-refused : goal.returns-in-Ok-clause-refused
returns-in-Ok-clause-refused c = λ m here.
    let same = unfolded (goal.at.returns-in-Ok-clause-refused c).In-Ok m here in
    if_refused c.written_number-number.result (λ f h. no-value m c.args.place (term_form c.args.value.now) f (sym (ap number_in same) ∙ h.1) h.0)
    c.written_number-number.ensures.refused

pub returns-in-Err-clause-refused : goal.returns-in-Err-clause-refused
returns-in-Err-clause-refused c = λ m here.
    term-refused m c.args.place (term_form c.args.value.now) c.in-Err.error c.of_term.result c.of_term.ensures
    (c.in-Err.ensures.faults (surroundings_at_start m) here.surroundings tt)
