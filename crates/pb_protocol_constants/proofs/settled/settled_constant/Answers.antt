use Rattle.std.proofs.Common.{◌∙◌, ap, rules}
use Rattle.std.specs.Prelude.{FitsSigned}
use Rattle.std.specs.Int.{w32}
use Rattle.std.proofs.lemmas.Int.{to_z-of_z}
use Rattle.pb_protocol_constants.specs.Settled.{number_at}
use Rattle.pb_text_tree.specs.Form.{named, term_form, variable_forms}
use Rattle.pb_protocol_tree.specs.Form.{definition_form, protocol_form}
use Rattle.pb_protocol_constants.proofs.Definitions.{constant-is}
use Rattle.pb_protocol_constants.proofs.Refusals.{handed-on}
use Rattle.pb_protocol_constants.proofs.Values.{has-number, value-is}
use Rattle.pb_protocol_constants.specs.Faults.{IsConstantFault}
use Rattle.pb_protocol_constants.proofs.settled.settled_constant.Goals as goal

pub returns-clause-definition : goal.returns-clause-definition
returns-clause-definition c = λ none.
    let m = protocol_form c.args.constants.now in
    let d = definition_form c.args.constant.now in
    let v = c.in_ok-value.value in
    let fits : FitsSigned w32 v = search rules in
    let term = c.in-Ok.ensures ∙ ap (number_at c.args.place) (to_z-of_z w32 v fits) in
    constant-is m c.args.place d (named c.in_ok-name.name) (variable_forms c.new.result.items) (term_form c.in-Ok.term) v c.in_ok-name.ensures (ap variable_forms c.new.ensures.items) term
    (value-is m none d.term v c.in_ok-value.ensures.value)

pub returns-clause-number : goal.returns-clause-number
returns-clause-number c = λ none.
    let d = definition_form c.args.constant.now in
    has-number (protocol_form c.args.constants.now) none d.term c.in_ok-value.value c.in_ok-value.ensures.value

pub returns-in_err-value-clause-refused : goal.returns-in_err-value-clause-refused
returns-in_err-value-clause-refused c =
    let F = IsConstantFault (protocol_form c.args.constants.now) c.args.place (definition_form c.args.constant.now) in
    handed-on F F (λ f h. h) c.in_err-value.field-0.0 c.from_residual.result c.in_err-value.ensures.refused c.from_residual.ensures.1
