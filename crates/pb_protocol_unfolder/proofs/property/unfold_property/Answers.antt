use Rattle.std.proofs.Common.{[]}
use Rattle.pb_protocol_meaning.specs.Erase.{erase, erased_formula}
use Rattle.pb_protocol_tree.specs.Form.{formula_form, property_form}
use Rattle.pb_protocol_unfolder_steps.specs.Unfolder.{form_in}
use Rattle.pb_protocol_unfolder.specs.Faults.{IsFaultOfProperty}
use Rattle.pb_protocol_unfolder.specs.Operators.{HasManyWritten}
use Rattle.pb_protocol_unfolder.proofs.FaultLemmas.{part-of}
use Rattle.pb_protocol_unfolder.proofs.OperatorLemmas.{within-room}
use Rattle.pb_protocol_unfolder.proofs.ValueFaults.{fault-so}
use Rattle.pb_protocol_unfolder.proofs.property.unfold_property.Goals as goal

pub returns-in_err-formula-clause-refused : goal.returns-in_err-formula-clause-refused
returns-in_err-formula-clause-refused c =
    let m = form_in c.args.formulas.now in
    let f = formula_form c.args.property.now.formula in
    part-of c.from_residual-in_err-formula.result c.in_err-formula.field-0.0 _
    (IsFaultOfProperty m (property_form c.args.property.now)) c.from_residual-in_err-formula.ensures.1 c.in_err-formula.ensures.refused
    (λ p is. fault-so m _ (HasManyWritten (erase m) (erased_formula f)) (within-room _ _ c.whole-room.ensures) p [] f is)
