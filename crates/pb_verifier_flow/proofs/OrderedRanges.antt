-- That an instruction's range isn't empty is a proposition, so that a struct can carry it.
use Rattle.std.proofs.Props.{props}
use Rattle.pb_bytecode_program.specs.Monotone.{HasOrderedRange}
use Rattle.pb_bytecode_program.specs.declared.instruction.Op.{Op}
use Rattle.pb_bytecode_program.specs.declared.instruction.Op.TheVariants as op

pub ordered_range-prop : (i : Op) → IsProp (HasOrderedRange i)
ordered_range-prop (op.InRange low high to) = hlevel props
ordered_range-prop (op.SlotInRange i low high to) = hlevel props
ordered_range-prop _ = hlevel props
