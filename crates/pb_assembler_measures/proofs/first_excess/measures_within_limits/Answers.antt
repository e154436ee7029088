use Rattle.std.proofs.Common.{◌≡◌, ℕ, List, length, refl, sym, subst, arith}
use Rattle.std.proofs.lemmas.Option.{slice_get_read}
use Rattle.pb_normal.specs.Text.{said}
use Rattle.pb_normal.specs.declared.normal.Equation.{Equation}
use Rattle.pb_normal.specs.declared.normal.Normal.{Normal}
use Rattle.pb_normal.proofs.FormulaSet.{rights-are}
use Rattle.pb_base.specs.OrMemory.{IfFault}
use Rattle.pb_assembler_measures.specs.Excess.{IsFirstExcess}
use Rattle.pb_assembler_measures.specs.MeasureEquations.{AreMeasuresOfAll}
use Rattle.pb_assembler_measures.proofs.MeasureExcess.{all_keep, all_measured, exceeds, first_found, keeps, measured_more}
use Rattle.pb_assembler_measures.proofs.MeasureMade.{AreFormsOf}
use Rattle.pb_assembler_measures.proofs.first_excess.measures_within_limits.Goals as goal

forms : (normal : Normal) (es : List Equation) → es ≡ normal.equations.items → AreFormsOf (said normal.typed.now) (said normal.typed.now).equations normal.typed.now.layout es
forms normal es e =
    subst (λ (ds : List Equation). AreFormsOf (said normal.typed.now) (said normal.typed.now).equations normal.typed.now.layout ds) (sym e)
    (record { rights = rights-are normal; loops = normal.loops; parameters = normal.typed.now.laid_out.shapes })

pub returns-in-Some-clause-refused : goal.returns-in-Some-clause-refused
returns-in-Some-clause-refused c =
    let normal = c.args.normal.now in
    let layout = normal.typed.now.layout in
    let es = c.deref-equation-items.result.now in
    let k = c.loop-equation.equation-index in
    let e = c.equation-item.result in
    let h = c.loop-equation.invariant in
    let long = h.long in
    let place : k ≡ c.len-equation.result = omega (arith, c.len-equation.ensures, c.loop-equation.all.ok.0, long) in
    subst (λ e. IfFault e (IsFirstExcess (said normal.typed.now))) (sym c.into.ensures)
    (subst (λ (n : ℕ). IsFirstExcess (said normal.typed.now) (record { limit = c.in-Some.limit; equation = n })) place
    (first_found (said normal.typed.now) layout es (forms normal es c.deref-equation-items.ensures.value) k e c.in-Some.limit
    (slice_get_read es (length es) k e refl c.loop-equation-test.true c.equation-item.is)
    (exceeds layout e c.measure-measures.result c.first_excess.result c.in-Some.limit c.measure-measures.ensures c.first_excess.ensures c.in-Some.is)
    h.keep))

pub loop-equation-preserved : goal.loop-equation-preserved
loop-equation-preserved c =
    let layout = c.args.normal.now.typed.now.layout in
    let es = c.deref-equation-items.result.now in
    let k = c.loop-equation.equation-index in
    let e = c.equation-item.result in
    measured_more layout es k e c.loop-equation.all.items c.push_measures.new.all.items c.measure-measures.result
    (slice_get_read es (length es) k e refl c.loop-equation-test.true c.equation-item.is)
    c.in_ok-push_measures.ensures c.measure-measures.ensures
    (keeps layout e c.measure-measures.result c.first_excess.result c.measure-measures.ensures c.first_excess.ensures c.in_default.is)
    c.loop-equation.invariant

pub returns-clause-measured : goal.returns-clause-measured
returns-clause-measured c =
    let layout = c.args.normal.now.typed.now.layout in
    let es = c.deref-equation-items.result.now in
    let k = c.loop-equation.equation-index in
    let behind = c.loop-equation-test.false in
    let within = c.loop-equation.auto.equation-index-end in
    let all : k ≡ length es = omega (arith, behind, within) in
    subst (λ (ds : List Equation). AreMeasuresOfAll layout ds c.loop-equation.all.items) c.deref-equation-items.ensures.value
    (all_measured layout es k c.loop-equation.all.items all c.loop-equation.invariant)

pub returns-clause-kept : goal.returns-clause-kept
returns-clause-kept c =
    let normal = c.args.normal.now in
    let es = c.deref-equation-items.result.now in
    all_keep (said normal.typed.now) normal.typed.now.layout es (forms normal es c.deref-equation-items.ensures.value)
    c.loop-equation.equation-index c.loop-equation-test.false c.loop-equation.invariant.keep
