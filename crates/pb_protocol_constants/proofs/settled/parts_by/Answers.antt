use Rattle.std.proofs.Common.{inl, inr}
use Rattle.std.specs.Prelude.{◌⊎◌, map}
use Rattle.pb_protocol_tree.specs.Form.{bounds_form, protocol_form}
use Rattle.pb_base.proofs.Faults.{if_fault}
use Rattle.pb_protocol_constants.specs.Faults.{IsBoundsFault, IsConstantsFault, IsFaultOfSome}
use Rattle.pb_protocol_constants.proofs.Refusals.{handed-on}
use Rattle.pb_protocol_constants.proofs.settled.parts_by.Goals as goal

pub returns-in-Err-clause-refused : goal.returns-in-Err-clause-refused
returns-in-Err-clause-refused c = λ none. if_fault c.in-Err.error (λ f h. inr h) (c.in-Err.ensures.refused none)

pub returns-in_err-definitions-clause-refused : goal.returns-in_err-definitions-clause-refused
returns-in_err-definitions-clause-refused c = λ none.
    let m = protocol_form c.args.constants.now in
    let P = IsConstantsFault m c.args.places.now in
    handed-on P (λ f. P f ⊎ IsFaultOfSome (IsBoundsFault m) (map bounds_form c.args.bounds.items) f) (λ f h. inl h)
    c.in_err-definitions.field-0.0 c.from_residual.result c.in_err-definitions.ensures.refused c.from_residual.ensures.1
