use Rattle.std.proofs.Common.{◌∙◌, ℕ, refl, sym, ap, Option, option_map, ◌∷◌, [], ◌++◌, SFits, w32, to_z, of_z, to_z-of_z, arith}
use Rattle.std.specs.Prelude.{ℤ}
use Rattle.std.proofs.lemmas.List.{nil_from_length}
use Rattle.pb_assembler_builder.specs.Draft.{Draft}
use Rattle.pb_sorts.specs.declared.carrier.Range.{Range}
use Rattle.pb_assembler_builder.specs.declared.builder.Label.{Label}
use Rattle.pb_assembler_builder.specs.declared.instruction.Instruction.TheVariants as instruction
use Rattle.pb_assembler_builder.specs.declared.instruction.Jump.TheVariants as jump
use Rattle.pb_assembler.proofs.Calls.{argument_alone, argument_first, popped}
use Rattle.pb_assembler.proofs.Emitting.{adds_from, guard_emitted, on_ok}
use Rattle.pb_assembler.proofs.call.+emit_arguments.Goals as goal

-- the label of the block around, if there is one
abbrev label : Option Label → Option ℕ
label l = option_map (λ (l : Label). l.number) l

-- the bounds of a range that is tested, if one is
abbrev bounds : Option Range → Option (ℤ × ℤ)
bounds r = option_map (λ (r : Range). (r.low, r.high)) r

pub returns-in_default-split_first : goal.returns-in_default-split_first
returns-in_default-split_first t c =
    on_ok c.emit_arguments.result _ _ c.emit_arguments.ensures
    (argument_alone c.args.called.equation (label c.args.called.end) (nil_from_length c.args.carriers.now c.in_default-split_first.ensures.cases) c.in-Some.ensures.cases.0 c.in_ok-emit_term.ensures)

pub returns-in_ok-emit_plain : goal.returns-in_ok-emit_plain
returns-in_ok-emit_plain t c =
    argument_first c.args.called.equation (label c.args.called.end) c.in-Some-split_first.ensures.cases.0 c.in-Some.ensures.cases.0
    c.in_default-tested_range.ensures (sym c.if-any_tested.true ∙ c.any_tested.ensures) c.in_ok-emit_term.ensures
    (popped c.in_ok-emit_arguments.ensures c.in_ok-emit_plain.ensures)

pub returns-else-any_tested : goal.returns-else-any_tested
returns-else-any_tested t c =
    argument_first c.args.called.equation (label c.args.called.end) c.in-Some-split_first.ensures.cases.0 c.in-Some.ensures.cases.0
    c.in_default-tested_range.ensures (sym c.if-any_tested.false ∙ c.any_tested.ensures) c.in_ok-emit_term.ensures
    c.in_ok-emit_arguments.ensures

pub returns : goal.returns
returns t c =
    let range = c.in-Some-tested_range.range in
    let low_fits : SFits w32 range.low = record { sfits = omega arith } in
    let high_fits : SFits w32 range.high = record { sfits = omega arith } in
    let d = c.label.new.self in
    let made : ℤ → ℤ → Draft = λ low high. record d { ops = d.ops ++ instruction.Jump (jump.InRange low high) c.in_ok-outside.outside.number ∷ [] } in
    let added = c.in_ok-emit_jump.ensures.ok ∙ ap (λ i. made i (to_z w32 (of_z w32 range.high))) (to_z-of_z low_fits) ∙ ap (λ i. made range.low i) (to_z-of_z high_fits) in
    on_ok c.emit.result _ _ c.emit.ensures.ok (λ h.
    argument_first c.args.called.equation (label c.args.called.end) c.in-Some-split_first.ensures.cases.0 c.in-Some.ensures.cases.0
    (ap bounds (sym c.in-Some-tested_range.is) ∙ c.tested_range.ensures) refl c.in_ok-emit_term.ensures
    (guard_emitted c.in_ok-outside.ensures.label c.in_ok-outside.ensures.ok added (c.in_ok-emit_arguments-2).ensures c.place.ensures (adds_from c.place.new.self c.emit.new.self _ h)))
