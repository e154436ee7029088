use Rattle.std.proofs.Common.{◌≡◌, ◌-◌, ◌*◌, ◌<◌, ℕ, List, Some, length, get_or, refl, ◌∙◌, ap, arith, min}
use Rattle.std.specs.Prelude.{slice_get}
use Rattle.std.proofs.lemmas.Option.{slice_get-get_or}
use Rattle.pb_bytecode_program.specs.Machine.{Program}
use Rattle.pb_bytecode_program.specs.Counts.{loop_effect, loops_around, tokens_of}
use Rattle.pb_bytecode_program.specs.declared.instruction.Op.{Op}
use Rattle.pb_bytecode_program.specs.declared.instruction.Op.TheVariants as op
use Rattle.pb_verifier_structure.specs.Structure.{IsStructured}
use Rattle.pb_verifier_structure.specs.declared.counts.TheConstants.{SATURATED}
use Rattle.pb_verifier_structure.proofs.Nests.{quiet}
use Rattle.pb_verifier_structure.proofs.Programs.{some_program, of_code}
use Rattle.pb_verifier_structure.proofs.Weights.{IsCounted, begun, counted_in, counted_out, counted_on, counted_all, stacked_long}
use Rattle.pb_verifier_structure.proofs.counts.static_counts.Goals as goal
use Rattle.pb_verifier_structure.proofs.counts.static_counts.Goals.{in-Loop, in-Next, in_default}

-- the instruction at a place, in the program
at_place : (p : Program) (code : List Op) (q : ℕ) (i : Op) → p.code ≡ code → q < length code → get_or code q op.End ≡ i → slice_get p.code q ≡ Some i
at_place p code q i e l h = ap (λ (is : List Op). slice_get is q) e ∙ slice_get-get_or code q op.End l ∙ ap Some h

-- there is room for one more loop, and a loop to leave
room : (p : Program) (q s t : ℕ) (items : List ℕ) (slot : ℕ) → IsStructured p → IsCounted p q items s t → slice_get p.code q ≡ Some (op.Loop slot) → length items < 8
room p q s t items slot w h at =
    let less : length (loops_around p.code q) < 8 = (w.sited q (op.Loop slot) at).2 in
    let d = h.deep in
    omega (arith, ap (λ (xs : List ℕ). length xs) h.same, stacked_long h.weights)

some : (p : Program) (q s t : ℕ) (items : List ℕ) → IsStructured p → IsCounted p q items s t → slice_get p.code q ≡ Some op.Next → 0 < length items
some p q s t items w h at =
    let more = w.closes q op.Next at refl in
    let d = h.deep in
    omega (arith, ap (λ (xs : List ℕ). length xs) h.same, stacked_long h.weights)

pub loop-instruction-init : goal.loop-instruction-init
loop-instruction-init c = λ p e. rw (c.new-weights.ensures) (begun p)

pub turns-requires : goal.turns-requires
turns-requires c =
    let p = some_program c.args.code.now in
    let e = of_code c.args.code.now in
    let w = c.requires p e in
    let at = at_place p c.args.code.now.instructions.now c.loop-instruction.instruction-index (op.Loop c.in-Loop.slot) e.same_code c.loop-instruction-test.true c.in-Loop.is in
    (p, e, (w.sited c.loop-instruction.instruction-index (op.Loop c.in-Loop.slot) at).0)

pub push-requires : goal.push-requires
push-requires c =
    let p = some_program c.args.code.now in
    let e = of_code c.args.code.now in
    let w = c.requires p e in
    let at = at_place p c.args.code.now.instructions.now c.loop-instruction.instruction-index (op.Loop c.in-Loop.slot) e.same_code c.loop-instruction-test.true c.in-Loop.is in
    (omega arith, room p c.loop-instruction.instruction-index _ _ c.loop-instruction.weights.items c.in-Loop.slot w (c.loop-instruction.invariant p e) at)

pub overflow_sub-len : goal.overflow_sub-len
overflow_sub-len c =
    let p = some_program c.args.code.now in
    let e = of_code c.args.code.now in
    let w = c.requires p e in
    let at = at_place p c.args.code.now.instructions.now c.loop-instruction.instruction-index op.Next e.same_code c.loop-instruction-test.true c.in-Next.is in
    let more = some p c.loop-instruction.instruction-index _ _ c.loop-instruction.weights.items w (c.loop-instruction.invariant p e) at in
    omega (arith, c.len.ensures.value)

pub loop-instruction-preserved : goal.loop-instruction-preserved
loop-instruction-preserved c = λ p e.
    let w = c.requires p e in
    let q = c.loop-instruction.instruction-index in
    let items = c.loop-instruction.weights.items in
    let i = get_or c.args.code.now.instructions.now q op.End in
    let at = at_place p c.args.code.now.instructions.now q i e.same_code c.loop-instruction-test.true refl in
    let h = c.loop-instruction.invariant p e in
    let x = c.multiplier-weight.result in
    let y = c.product.result in
    let weight : x ≡ get_or items (length items - 1) 1 = c.multiplier-weight.ensures ∙ ap (λ (xs : List ℕ). get_or xs (length xs - 1) 1) c.as_slice.ensures.value in
    let written : y ≡ min (x * tokens_of i) SATURATED = c.product.ensures ∙ ap (λ n. min (x * n) SATURATED) c.tokens_of.ensures in
    rw (c.sum-steps.ensures, c.sum-tokens.ensures) (elim c.match-instruction.branch [
      | in-Loop v ↦ rw (v.weights-is, v.push.ensures.items)
          (counted_in p w q items _ _ h i at x y weight written v.in-Loop.slot v.product-in-Loop.result
          (ap loop_effect v.in-Loop.is) (v.product-in-Loop.ensures ∙ ap (λ n. min (x * n) SATURATED) (v.turns.ensures p e)))
      | in-Next v ↦ rw (v.weights-is, v.truncate.ensures.items, v.len.ensures.value) (counted_out p w q items _ _ h i at x y weight written (ap loop_effect v.in-Next.is))
      | in_default v ↦ rw (v.weights-is) (counted_on p w q items _ _ h i at x y weight written (quiet i v.in_default.not-Loop v.in_default.not-Next))
    ])

pub returns-clause-steps : goal.returns-clause-steps
returns-clause-steps c =
    λ p e. (counted_all p c.loop-instruction.instruction-index _ _ _ (c.loop-instruction.invariant p e)
    (let l = ap (λ (is : List Op). length is) e.same_code in let t = c.loop-instruction-test.false in omega arith)).0

pub returns-clause-tokens : goal.returns-clause-tokens
returns-clause-tokens c =
    λ p e. (counted_all p c.loop-instruction.instruction-index _ _ _ (c.loop-instruction.invariant p e)
    (let l = ap (λ (is : List Op). length is) e.same_code in let t = c.loop-instruction-test.false in omega arith)).1
