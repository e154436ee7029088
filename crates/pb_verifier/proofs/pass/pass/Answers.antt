use Rattle.std.proofs.Common.{length, ◌≤◌, ap, arith}
use Rattle.pb_bytecode_program.specs.declared.instruction.Op.TheVariants as op
use Rattle.pb_base.proofs.Faults.{if_raised}
use Rattle.pb_verifier.specs.Names.{program_in_module}
use Rattle.pb_verifier.proofs.Steps.{op_here, passes_begin, passes_next, passes_not, passes_end}
use Rattle.pb_verifier.proofs.pass.pass.Goals as goal

pub loop-place-init : goal.loop-place-init
loop-place-init c =
    passes_begin (program_in_module c.args.checked.now) c.in_ok-pass.pass.open_loops c.in_ok-pass.pass.table.items c.in_ok-pass.ensures.open_loops
    (c.in_ok-pass.ensures.table c.args.checked.now.names.sorts.now c.args.checked.now.names.callees.now)

pub opening-requires : goal.opening-requires
opening-requires c = omega (arith, c.args.checked.now.within_limits.some, c.args.checked.now.equation.now.code.ok.0)

pub step-requires : goal.step-requires
step-requires c =
    (op_here c.deref-instruction-items.result.now c.args.checked.now.equation.now.code.items c.loop-place.place op.End c.deref-instruction-items.ensures.value c.loop-place-test.true)

pub loop-place-preserved : goal.loop-place-preserved
loop-place-preserved c =
    passes_next (program_in_module c.args.checked.now)
    c.args.checked.now.equation.now.code.items c.loop-place.place _ c.loop-place.pass.open_loops c.step.new.self.open_loops
    c.loop-place.pass.table.items c.step.new.self.table.items _
    (op_here c.deref-instruction-items.result.now c.args.checked.now.equation.now.code.items c.loop-place.place op.End c.deref-instruction-items.ensures.value c.loop-place-test.true)
    c.in-Ok.ensures.flows c.in-Ok.ensures.open_loops c.loop-place.invariant

pub returns-in-Err-clause-refused : goal.returns-in-Err-clause-refused
returns-in-Err-clause-refused c =
    let refused =
    passes_not (program_in_module c.args.checked.now)
    c.args.checked.now.equation.now.code.items c.loop-place.place _ c.loop-place.pass.open_loops c.loop-place.pass.table.items _
    (op_here c.deref-instruction-items.result.now c.args.checked.now.equation.now.code.items c.loop-place.place op.End c.deref-instruction-items.ensures.value c.loop-place-test.true)
    in
    if_raised c.in-Err.error c.at_place.result c.at_place.ensures (λ rule fault made none. refused none c.loop-place.invariant) c.in-Err.ensures.refused

pub returns-clause-passes : goal.returns-clause-passes
returns-clause-passes c =
    let past : length c.args.checked.now.equation.now.code.items ≤ c.loop-place.place = omega (arith, c.loop-place-test.false, ap length c.deref-instruction-items.ensures.value) in
    passes_end (program_in_module c.args.checked.now)
    c.args.checked.now.equation.now.code.items c.loop-place.place c.loop-place.pass.open_loops c.loop-place.pass.table.items _
    past c.loop-place.invariant
