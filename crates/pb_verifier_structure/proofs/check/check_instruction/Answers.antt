use Rattle.std.proofs.Common.{List, sym, subst}
use Rattle.pb_bytecode_program.specs.declared.instruction.Op.{Op}
use Rattle.pb_verifier_structure.specs.Nesting.{NestsAt}
use Rattle.pb_verifier_structure.proofs.Whole.{NamesNothing, free}
use Rattle.pb_verifier_structure.proofs.check.check_instruction.Goals as goal

pub returns-in_default : goal.returns-in_default
returns-in_default c = record {
  ok = λ p e.
      let names : NamesNothing c.args.instruction =
      record {
        get = c.in_default.not-Get;
        jump = c.in_default.not-Jump;
        jump_if =
            c.in_default.not-JumpIf;
        in_range = c.in_default.not-InRange;
        slot_in_range =
            c.in_default.not-SlotInRange;
        loop = c.in_default.not-Loop;
        call = c.in_default.not-Call;
      } in
      free p c.args.place c.args.instruction (subst (λ (code : List Op). NestsAt code c.args.place c.args.instruction) (sym e.same_code) (c.requires.nested.each _ _ c.requires.here)) names;
  err = tt;
}
