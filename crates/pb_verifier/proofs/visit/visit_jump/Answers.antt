use Rattle.std.proofs.Common.{◌∙◌, sym}
use Rattle.pb_bytecode_program.specs.Accepted.{state_at}
use Rattle.pb_bytecode_program.specs.declared.instruction.Op.TheVariants as op
use Rattle.pb_verifier.proofs.Taken.{flows_nowhere, nothing_known}
use Rattle.pb_verifier.proofs.visit.visit_jump.Goals as goal

pub returns-then-not-is_reached-clause-ok : goal.returns-then-not-is_reached-clause-ok
returns-then-not-is_reached-clause-ok c = λ names p homes a b.
    let none = nothing_known (state_at c.deref.result.now c.args.place) (sym c.is_reached.ensures ∙ c.if-not-is_reached.true) in
    flows_nowhere p c.args.place (op.Jump c.args.target) homes c.args.table.now.items (rw (c.deref.ensures.value) at none)
