use Rattle.std.proofs.Common.{rules, arith, length, Fits, w64}
use Rattle.pb_bytecode_program.specs.declared.instruction.Op.TheVariants as op
use Rattle.pb_machine.proofs.Runs.{can_execute, keeps, stands_within}
use Rattle.pb_machine.proofs.machine.Machine.try_not.Goals as goal

pub instruction-requires : goal.instruction-requires
instruction-requires c = stands_within c.requires.underway

pub not-requires : goal.not-requires
not-requires c =
    let fit : Fits w64 (length c.args.code.now.instructions.now) = search rules in
    can_execute op.Not (omega arith) c.requires c.instruction.ensures c.in-Not.is

pub returns-in-Not : goal.returns-in-Not
returns-in-Not c = keeps op.Not c.not.new.self c.not.new.registers c.instruction.ensures c.in-Not.is c.not.ensures
