use Rattle.std.proofs.Common.{◌∙◌, refl, sym}
use Rattle.pb_protocol_typing.specs.View.{scope_of, shapes_in}
use Rattle.pb_protocol_typing.proofs.FormulaRows.{union-fault}
use Rattle.pb_protocol_typing.proofs.Rows.{found, left_out}
use Rattle.pb_protocol_typing.proofs.step_set.+step_sets.Goals as goal

pub set_fault-returns-in-Some : goal.set_fault-returns-in-Some
set_fault-returns-in-Some t c =
    let n = c.in-Union in
    found _ _ _ c.in-Some.fault
    (union-fault (shapes_in c.args.steps.now) (scope_of c.args.scope.now) c.args.set.now c.deref-in-Union.result.now n.first n.links n.links.items n.is c.deref-in-Union.ensures refl)
    c.in-Some.ensures

pub set_fault-returns-in_default : goal.set_fault-returns-in_default
set_fault-returns-in_default t c =
    let n = c.in-Union in
    let ls = c.deref-in-Union-2.result.now in
    c.sets_fault.ensures
    ∙ sym (left_out _ _ _
    (union-fault (shapes_in c.args.steps.now) (scope_of c.args.scope.now) c.args.set.now c.deref-in-Union.result.now
    n.first n.links ls n.is c.deref-in-Union.ensures c.deref-in-Union-2.ensures.value)
    c.in_default.ensures)
