use Rattle.std.proofs.Common.{◌<◌, List, length, Contains, true≢false, refl, sym, subst}
use Rattle.pb_bytecode_program.specs.Accepted.{loop_slots}
use Rattle.pb_bytecode_program.specs.Counts.{loops_around}
use Rattle.pb_bytecode_program.specs.declared.instruction.Op.{Op}
use Rattle.pb_verifier_structure.proofs.check.check_loop.Goals as goal

pub returns-clause-ok : goal.returns-clause-ok
returns-clause-ok c = λ p e. (
  (c.if-not-is_loop_slot.ensures p e).0 refl,
  subst (λ (code : List Op). Contains (loop_slots code (loops_around code c.args.place)) c.args.slot → ⊥) (sym e.same_code) (λ h. true≢false (sym (c.if-is_around.ensures.1 h))),
  subst (λ (code : List Op). length (loops_around code c.args.place) < 8) (sym e.same_code) (c.requires.nested.each _ _ c.requires.here),
)
