use Rattle.std.proofs.Common.{◌∙◌, ◌-◌, Some, true, ap, rules, arith, length, Fits, FitsSigned, w64, to_z, of_z}
use Rattle.pb_bytecode_program.specs.declared.instruction.Op.TheVariants as op
use Rattle.pb_machine.specs.Underway.{IsRunning}
use Rattle.pb_machine.proofs.Runs.{advanced, can_execute, handed, keeps, ready, stands_within, still_running}
use Rattle.pb_machine.proofs.machine.Machine.advance.Goals as goal
use Rattle.pb_machine.proofs.machine.Machine.advance.Goals.{After-instruction-op}

pub instruction-op-requires : goal.instruction-op-requires
instruction-op-requires c = stands_within c.requires.5

running : (c : After-instruction-op) → IsRunning c.args.code.now.instructions.now c.args.self.now c.args.registers.now
running c = record { program = c.requires.0; steps = c.requires.1; tokens = c.requires.2; underway = c.requires.5 }

pub push_int-requires : goal.push_int-requires
push_int-requires c =
    let value = c.in-PushInt.value in
    let fit : FitsSigned w64 value = search rules in
    let fit_code : Fits w64 (length c.args.code.now.instructions.now) = search rules in
    can_execute (op.PushInt (to_z w64 (of_z w64 value))) (omega arith) (running (goal.at.push_int-requires c).After-instruction-op) c.instruction-op.ensures (handed value fit c.in-PushInt.is)

pub try_operator-requires : goal.try_operator-requires
try_operator-requires c =
    let value = c.in-PushInt.value in
    let fit : FitsSigned w64 value = search rules in
    still_running (running (goal.at.try_operator-requires c).After-instruction-op)
    (keeps (op.PushInt (to_z w64 (of_z w64 value))) c.push_int.new.self c.push_int.new.registers c.instruction-op.ensures (handed value fit c.in-PushInt.is) c.push_int.ensures)

pub returns-in-PushInt : goal.returns-in-PushInt
returns-in-PushInt c p n tokens calls loops run =
    let value = c.in-PushInt.value in
    let fit : FitsSigned w64 value = search rules in
    c.try_operator.ensures p (n - 1) tokens
    (advanced (op.PushInt (to_z w64 (of_z w64 value))) c.push_int.new.self c.push_int.new.registers true run
    (c.instruction-op.ensures ∙ ap Some (handed value fit c.in-PushInt.is)) (c.push_int.ensures p))

pub get-requires : goal.get-requires
get-requires c =
    let here = goal.at.get-requires c in
    let x = c.in-Get in
    let fit : Fits w64 (length c.args.code.now.instructions.now) = search rules in
    can_execute (op.Get x.slot) (omega arith) (running here.After-instruction-op) c.instruction-op.ensures x.is

pub try_constant-requires : goal.try_constant-requires
try_constant-requires c =
    let here = goal.at.try_constant-requires c in
    let x = c.in-Get in
    still_running (running here.After-instruction-op) (keeps (op.Get x.slot) c.get.new.self c.get.new.registers c.instruction-op.ensures x.is c.get.ensures)

pub returns-in-Get : goal.returns-in-Get
returns-in-Get c p n tokens calls loops run =
    let x = c.in-Get in
    c.try_constant.ensures p (n - 1) tokens
    (advanced (op.Get x.slot) c.get.new.self c.get.new.registers true run (c.instruction-op.ensures ∙ ap Some x.is) (c.get.ensures p))

pub execute-requires : goal.execute-requires
execute-requires c =
    let fit : Fits w64 (length c.args.code.now.instructions.now) = search rules in
    (c.requires.0, c.requires.3, c.requires.4, ready c.instruction-op.result.now (omega arith) c.requires.5 c.instruction-op.ensures)

pub returns-in_default-op : goal.returns-in_default-op
returns-in_default-op c p n tokens calls loops run =
    advanced c.instruction-op.result.now c.execute.new.self c.execute.new.registers c.execute.result run c.instruction-op.ensures (c.execute.ensures p calls loops)
