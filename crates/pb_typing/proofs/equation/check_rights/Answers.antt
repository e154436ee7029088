use Rattle.std.proofs.Common.{◌≡◌, [], List, map, sym, ◌∙◌, ap, subst, arith, rules}
use Rattle.pb_text_tree.specs.declared.spec.Equation.{Equation}
use Rattle.pb_text_tree.specs.Form.{SpecForm, equation_form, spec_form}
use Rattle.pb_text_meaning.specs.Erase.{erased_equation}
use Rattle.pb_typing_declarations.specs.Faults.{IsAmong}
use Rattle.pb_typing_declarations.specs.View.{spec_of}
use Rattle.pb_typing_declarations.proofs.Parts.{among_first}
use Rattle.pb_typing_rules.specs.Faults.{right_faults}
use Rattle.pb_typing.specs.Rights.{AreRights}
use Rattle.pb_typing.proofs.Equations.{all_erased, layout_length, parameters_at, done_begun, done_next, next_parts, faults_ended, rights_ended}
use Rattle.pb_typing.proofs.equation.check_rights.Goals.{After-deref-equation-items}
use Rattle.pb_typing.proofs.equation.check_rights.Goals as goal

pub loop-place-init : goal.loop-place-init
loop-place-init c = done_begun (spec_of c.args.declarations.now) c.deref-equation-items.result.now c.in_ok-equations.ensures.items

-- what is declared of equations is what the text's say
declared : (c : After-deref-equation-items) → (spec_of c.args.declarations.now).equations ≡ all_erased c.deref-equation-items.result.now
declared c =
    ap (λ (t : SpecForm). map erased_equation t.equations) c.requires.text
    ∙ ap (λ (xs : List Equation). map erased_equation (map equation_form xs)) (sym c.deref-equation-items.ensures.value)

pub carriers-parameters-requires : goal.carriers-parameters-requires
carriers-parameters-requires c =
    let are = declared (goal.at.carriers-parameters-requires c).After-deref-equation-items in
    let long = layout_length (spec_of c.args.declarations.now) c.deref-equation-items.result.now c.args.layout.now c.requires.layout are in
    omega (arith, long, c.loop-place-test.true)

pub check_right-requires-clause-parameters : goal.check_right-requires-clause-parameters
check_right-requires-clause-parameters c =
    parameters_at (spec_of c.args.declarations.now) c.deref-equation-items.result.now c.args.layout.now c.loop-place.place c.equation-item.result c.carriers-parameters.result.now
    c.requires.layout (declared (goal.at.check_right-requires-clause-parameters c).After-deref-equation-items) c.carriers-parameters.ensures.list c.loop-place-test.true c.equation-item.is

pub returns-in_err-checked : goal.returns-in_err-checked
returns-in_err-checked c =
    let here = among_first _ _ _ c.in_err-checked.field-0.0 (next_parts c.loop-place.invariant c.loop-place-test.true c.equation-item.is) c.in_err-checked.ensures in
    let h : IsAmong (right_faults (spec_of c.args.declarations.now) (spec_form c.args.spec.now).equations) c.in_err-checked.field-0.0 =
    subst (λ (ys : List Equation). IsAmong (right_faults (spec_of c.args.declarations.now) (map equation_form ys)) c.in_err-checked.field-0.0)
    c.deref-equation-items.ensures.value here in
    search rules

pub loop-place-preserved : goal.loop-place-preserved
loop-place-preserved c =
    done_next c.in_ok-checked.checked c.loop-place.invariant c.loop-place-test.true c.equation-item.is c.in_ok-push.ensures.items c.in_ok-checked.ensures

pub returns : goal.returns
returns c =
    let S = spec_of c.args.declarations.now in
    let are = c.deref-equation-items.ensures.value in (
      subst (λ (ys : List Equation). right_faults S (map equation_form ys) ≡ []) are (faults_ended c.loop-place.invariant c.loop-place-test.false),
      subst (λ (ys : List Equation). AreRights S (map equation_form ys) c.loop-place.equations.items) are (rights_ended c.loop-place.invariant c.loop-place-test.false),
    )
