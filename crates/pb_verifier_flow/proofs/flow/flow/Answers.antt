use Rattle.std.proofs.Common.{rules, ◌≡◌, to_z, of_z, w32}
use Rattle.pb_bytecode_program.specs.declared.instruction.Op.TheVariants as op
use Rattle.pb_verifier_flow.proofs.Dispatch.{flows_to, fails, named, named_on}
use Rattle.pb_verifier_flow.proofs.flow.flow.Goals as goal

pub returns-in-JumpIf-clause-flows : goal.returns-in-JumpIf-clause-flows
returns-in-JumpIf-clause-flows c = flows_to _ _ c.args.state (op.JumpIf c.in-JumpIf.condition c.in-JumpIf.target) c.args.op c.jump_if.result c.in-JumpIf.is c.jump_if.ensures.flows

pub returns-in-JumpIf-clause-refused : goal.returns-in-JumpIf-clause-refused
returns-in-JumpIf-clause-refused c = fails _ _ c.args.state (op.JumpIf c.in-JumpIf.condition c.in-JumpIf.target) c.args.op c.jump_if.result c.in-JumpIf.is c.jump_if.ensures.refused

pub returns-in-InRange-clause-flows : goal.returns-in-InRange-clause-flows
returns-in-InRange-clause-flows c =
    let low : to_z w32 (of_z w32 c.in-InRange.low) ≡ c.in-InRange.low = search rules in
    let high : to_z w32 (of_z w32 c.in-InRange.high) ≡ c.in-InRange.high = search rules in
    flows_to _ _ c.args.state (op.InRange c.in-InRange.low c.in-InRange.high c.in-InRange.target) c.args.op
    c.in_range.result c.in-InRange.is (rw (c.range_between.ensures.range, low, high) at (c.in_range.ensures.flows))

pub returns-in-InRange-clause-refused : goal.returns-in-InRange-clause-refused
returns-in-InRange-clause-refused c =
    let low : to_z w32 (of_z w32 c.in-InRange.low) ≡ c.in-InRange.low = search rules in
    let high : to_z w32 (of_z w32 c.in-InRange.high) ≡ c.in-InRange.high = search rules in
    fails _ _ c.args.state (op.InRange c.in-InRange.low c.in-InRange.high c.in-InRange.target) c.args.op
    c.in_range.result c.in-InRange.is (rw (c.range_between.ensures.range, low, high) at (c.in_range.ensures.refused))

pub returns-in-SlotInRange-clause-flows : goal.returns-in-SlotInRange-clause-flows
returns-in-SlotInRange-clause-flows c =
    let low : to_z w32 (of_z w32 c.in-SlotInRange.low) ≡ c.in-SlotInRange.low = search rules in
    let high : to_z w32 (of_z w32 c.in-SlotInRange.high) ≡ c.in-SlotInRange.high = search rules in
    flows_to _ _ c.args.state
    (op.SlotInRange c.in-SlotInRange.slot c.in-SlotInRange.low c.in-SlotInRange.high c.in-SlotInRange.target)
    c.args.op c.slot_in_range.result c.in-SlotInRange.is
    (rw (c.range_between-in-SlotInRange.ensures.range, low, high) at (c.slot_in_range.ensures.flows))

pub returns-in-SlotInRange-clause-refused : goal.returns-in-SlotInRange-clause-refused
returns-in-SlotInRange-clause-refused c =
    let low : to_z w32 (of_z w32 c.in-SlotInRange.low) ≡ c.in-SlotInRange.low = search rules in
    let high : to_z w32 (of_z w32 c.in-SlotInRange.high) ≡ c.in-SlotInRange.high = search rules in
    fails _ _ c.args.state
    (op.SlotInRange c.in-SlotInRange.slot c.in-SlotInRange.low c.in-SlotInRange.high c.in-SlotInRange.target)
    c.args.op c.slot_in_range.result c.in-SlotInRange.is
    (rw (c.range_between-in-SlotInRange.ensures.range, low, high) at (c.slot_in_range.ensures.refused))

pub returns-in-JumpIf-clause-rule : goal.returns-in-JumpIf-clause-rule
returns-in-JumpIf-clause-rule c =
    named c.args.sorts.now c.args.callees.now c.args.state
    (op.JumpIf c.in-JumpIf.condition c.in-JumpIf.target) c.args.op c.jump_if.result c.in-JumpIf.is c.jump_if.ensures.rule

pub returns-in-InRange-clause-rule : goal.returns-in-InRange-clause-rule
returns-in-InRange-clause-rule c =
    let low : to_z w32 (of_z w32 c.in-InRange.low) ≡ c.in-InRange.low = search rules in
    let high : to_z w32 (of_z w32 c.in-InRange.high) ≡ c.in-InRange.high = search rules in
    named c.args.sorts.now c.args.callees.now c.args.state
    (op.InRange c.in-InRange.low c.in-InRange.high c.in-InRange.target) c.args.op c.in_range.result c.in-InRange.is
    (rw (c.range_between.ensures.range, low, high) at (c.in_range.ensures.rule))

pub returns-in-SlotInRange-clause-rule : goal.returns-in-SlotInRange-clause-rule
returns-in-SlotInRange-clause-rule c =
    let low : to_z w32 (of_z w32 c.in-SlotInRange.low) ≡ c.in-SlotInRange.low = search rules in
    let high : to_z w32 (of_z w32 c.in-SlotInRange.high) ≡ c.in-SlotInRange.high = search rules in
    named c.args.sorts.now c.args.callees.now c.args.state
    (op.SlotInRange c.in-SlotInRange.slot c.in-SlotInRange.low c.in-SlotInRange.high c.in-SlotInRange.target)
    c.args.op c.slot_in_range.result c.in-SlotInRange.is
    (rw (c.range_between-in-SlotInRange.ensures.range, low, high) at (c.slot_in_range.ensures.rule))

pub returns-in-End-clause-rule : goal.returns-in-End-clause-rule
returns-in-End-clause-rule c = named_on c.args.sorts.now c.args.callees.now c.args.state op.End c.args.op c.in-Err.rule c.in-End.is c.in-Err.ensures.rule
