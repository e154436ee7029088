use Rattle.std.proofs.Common.{◌≡◌, ◌+◌, ◌∙◌, List, drop, map, sym, ap}
use Rattle.pb_text_tree.specs.declared.name.Name.{Name}
use Rattle.pb_text_tree.specs.Form.{argument_forms, named, variable_forms}
use Rattle.pb_protocol_typing.specs.Fault.{first_fault, either_fault}
use Rattle.pb_protocol_typing.specs.Steps.{copied_fault, copies_fault}
use Rattle.pb_protocol_typing.specs.View.{scope_of}
use Rattle.pb_protocol_typing.proofs.Groups.{group-first}
use Rattle.pb_protocol_typing.proofs.Rows.{found, left_out}
use Rattle.pb_protocol_typing.proofs.copies.copies_fault.Goals as goal
use Rattle.pb_protocol_typing.proofs.copies.copies_fault.Goals.{After-deref}

-- the fault of a group's names, or of those behind it
next : (c : After-deref) →
    let s = scope_of c.args.scope.now in
    let index = argument_forms c.args.index.now in
    let rest = copies_fault s index (variable_forms (drop (c.loop-group.group-index + 1) c.args.groups.now)) in
    copies_fault s index (variable_forms c.args.groups.now) ≡ either_fault (first_fault (copied_fault s index) (map named c.deref.result.now)) rest
next c =
    let s = scope_of c.args.scope.now in
    let index = argument_forms c.args.index.now in
    let rest = copies_fault s index (variable_forms (drop (c.loop-group.group-index + 1) c.args.groups.now)) in
    c.loop-group.invariant
    ∙ (group-first (copied_fault s index) c.args.groups.now c.loop-group.group-index c.group-item.result c.loop-group-test.true c.group-item.is
    ∙ ap (λ (ns : List Name). either_fault (first_fault (copied_fault s index) (map named ns)) rest) (sym c.deref.ensures.value))

pub returns-in-Some : goal.returns-in-Some
returns-in-Some c = found _ _ _ c.in-Some.fault (next (goal.at.returns-in-Some c).After-deref) c.in-Some.ensures

pub loop-group-preserved : goal.loop-group-preserved
loop-group-preserved c = left_out _ _ _ (next (goal.at.loop-group-preserved c).After-deref) c.in_default.ensures
