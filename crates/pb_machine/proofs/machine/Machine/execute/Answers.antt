use Rattle.std.proofs.Common.{◌≡◌, ◌∙◌, true, ℤ, sym, ap, subst, rules, FitsSigned, w32, to_z, of_z}
use Rattle.std.proofs.lemmas.Int.{to_z-of_z}
use Rattle.pb_bytecode_program.specs.declared.instruction.Op.{Op}
use Rattle.pb_bytecode_program.specs.declared.instruction.Op.TheVariants as op
use Rattle.pb_machine.specs.Mirror.{Executes}
use Rattle.pb_machine.specs.declared.results.Bounds.{Bounds}
use Rattle.pb_machine.proofs.machine.Machine.execute.Goals as goal

-- an instruction with bounds that were handed on is the one with the bounds themselves
same_bounds : (f : ℤ → ℤ → Op) (low high : ℤ) (b : Bounds) → FitsSigned w32 low → FitsSigned w32 high
    → b ≡ record { low = to_z w32 (of_z w32 low); high = to_z w32 (of_z w32 high) } → f b.low b.high ≡ f low high
same_bounds f low high b low_fits high_fits made =
    ap (λ (d : Bounds). f d.low d.high) made
    ∙ ap (λ (z : ℤ). f z (to_z w32 (of_z w32 high))) (to_z-of_z w32 low low_fits)
    ∙ ap (f low) (to_z-of_z w32 high high_fits)

pub returns-in-InRange : goal.returns-in-InRange
returns-in-InRange c p calls loops =
    let x = c.in-InRange in
    let same = same_bounds (λ (l h : ℤ). op.InRange l h x.target) x.low x.high c.new.result (search rules) (search rules) c.new.ensures in
    subst (λ (i : Op). Executes p i c.args.self.now c.args.registers.now c.args.self.now c.in_range.new.registers true) (same ∙ sym x.is) (c.in_range.ensures p)

pub returns-in-SlotInRange : goal.returns-in-SlotInRange
returns-in-SlotInRange c p calls loops =
    let x = c.in-SlotInRange in
    let same = same_bounds (λ (l h : ℤ). op.SlotInRange x.slot l h x.target) x.low x.high c.new-in-SlotInRange.result (search rules) (search rules) c.new-in-SlotInRange.ensures in
    subst (λ (i : Op). Executes p i c.args.self.now c.args.registers.now c.args.self.now c.slot_in_range.new.registers true) (same ∙ sym x.is) (c.slot_in_range.ensures p)
