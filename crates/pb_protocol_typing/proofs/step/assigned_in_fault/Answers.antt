use Rattle.std.proofs.Common.{◌∙◌, ap, sym, Option}
use Rattle.pb_protocol_tree.specs.Form.{assignment_form}
use Rattle.pb_protocol_typing.specs.Scopes.{Signature}
use Rattle.pb_protocol_typing.specs.Steps.{assigned_fault}
use Rattle.pb_protocol_typing.specs.View.{scope_of, signature_behind}
use Rattle.pb_protocol_typing.proofs.step.assigned_in_fault.Goals as goal

pub returns-in-Some : goal.returns-in-Some
returns-in-Some c =
    let s = scope_of c.args.scope.now in
    c.assigned_fault.ensures
    ∙ ap (λ (o : Option Signature). assigned_fault s o (assignment_form c.args.assignment.now))
    (ap signature_behind (sym c.in-Some.is) ∙ c.signature.ensures ∙ ap s.signatures c.as_str.ensures.value)
