use Rattle.std.proofs.Common.{rules, arith, length, Fits, w64}
use Rattle.pb_bytecode_program.specs.declared.instruction.Op.TheVariants as op
use Rattle.pb_machine.proofs.Runs.{can_execute, keeps, stands_within}
use Rattle.pb_machine.proofs.machine.Machine.try_jump.Goals as goal

pub instruction-requires : goal.instruction-requires
instruction-requires c = stands_within c.requires.underway

pub jump_if-requires : goal.jump_if-requires
jump_if-requires c =
    let x = c.in-JumpIf in
    let fit : Fits w64 (length c.args.code.now.instructions.now) = search rules in
    can_execute (op.JumpIf x.condition x.target) (omega arith) c.requires c.instruction.ensures x.is

pub returns-in-JumpIf : goal.returns-in-JumpIf
returns-in-JumpIf c =
    let x = c.in-JumpIf in
    keeps (op.JumpIf x.condition x.target) c.args.self.now c.jump_if.new.registers c.instruction.ensures x.is c.jump_if.ensures
