use Rattle.std.proofs.Common.{subst}
use Rattle.pb_bytecode_program.specs.declared.instruction.Leaf.{Leaf}
use Rattle.pb_bytecode_program.specs.declared.instruction.Op.TheVariants as op
use Rattle.pb_assembler_scheme.specs.Pieces.{Plain}
use Rattle.pb_assembler.specs.Emitted.{Emits, nowhere}
use Rattle.pb_assembler.proofs.Emitting.{emits_then, unless_emitted}
use Rattle.pb_assembler.proofs.formula.emit_test.Goals as goal

pub returns : goal.returns
returns c =
    emits_then c.in_ok-emit_tested.ensures
    (unless_emitted c.in_ok-passed.ensures.label c.in_ok-passed.ensures.ok (rw c.neutral.ensures at c.in_ok-emit_jump.ensures.ok)
    (subst (λ (f : Leaf). Emits (Plain (op.Emit f)) nowhere c.emit_jump.new.self c.emit_plain.new.builder) c.deciding.ensures c.in_ok-emit_plain.ensures)
    c.place.ensures)
