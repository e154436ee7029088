use Rattle.std.proofs.Common.{rules, arith, length, Fits, FitsSigned, w64, to_z, of_z}
use Rattle.pb_bytecode_program.specs.declared.instruction.Op.TheVariants as op
use Rattle.pb_machine.specs.Underway.{StaysUnderway}
use Rattle.pb_machine.proofs.Runs.{can_execute, handed, keeps, stands_within, still_running}
use Rattle.pb_machine.proofs.machine.Machine.try_constant.Goals as goal
use Rattle.pb_machine.proofs.machine.Machine.try_constant.Goals.{After-push_int}

pub instruction-requires : goal.instruction-requires
instruction-requires c = stands_within c.requires.underway

pub push_int-requires : goal.push_int-requires
push_int-requires c =
    let value = c.in-PushInt.value in
    let fit : FitsSigned w64 value = search rules in
    let fit_code : Fits w64 (length c.args.code.now.instructions.now) = search rules in
    can_execute (op.PushInt (to_z w64 (of_z w64 value))) (omega arith) c.requires c.instruction.ensures (handed value fit c.in-PushInt.is)

pushed : (c : After-push_int) → FitsSigned w64 c.in-PushInt.value
    → StaysUnderway c.args.code.now.instructions.now c.args.self.now c.args.registers.now c.push_int.new.self c.push_int.new.registers
pushed c fit =
    let value = c.in-PushInt.value in
    keeps (op.PushInt (to_z w64 (of_z w64 value))) c.push_int.new.self c.push_int.new.registers c.instruction.ensures (handed value fit c.in-PushInt.is) c.push_int.ensures

pub try_operator-requires : goal.try_operator-requires
try_operator-requires c =
    let fit : FitsSigned w64 c.in-PushInt.value = search rules in
    still_running c.requires (pushed (goal.at.try_operator-requires c).After-push_int fit)

pub returns-in-PushInt : goal.returns-in-PushInt
returns-in-PushInt c p n tokens run =
    let fit : FitsSigned w64 c.in-PushInt.value = search rules in
    c.try_operator.ensures p n tokens (pushed (goal.at.returns-in-PushInt c).After-push_int fit p n tokens run)
