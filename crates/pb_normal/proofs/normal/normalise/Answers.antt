use Rattle.std.proofs.Common.{◌∙◌, ap}
use Rattle.pb_text_tree.specs.Form.{spec_form}
use Rattle.pb_typing_tree.specs.View as typed
use Rattle.pb_typing.proofs.Accepted.{accepted-well-typed}
use Rattle.pb_normal.specs.Answer.{answer_by}
use Rattle.pb_normal.specs.Text.{said}
use Rattle.pb_normal.specs.View.{right_views}
use Rattle.pb_normal.proofs.Answer.{normal-answer}
use Rattle.pb_normal.proofs.Equations.{normal-equations-have-truth}
use Rattle.pb_normal.proofs.Rights.{done_begun, done_next, rights_ended, loops_ended}
use Rattle.pb_normal.proofs.normal.normalise.Goals as goal

pub loop-equation-init : goal.loop-equation-init
loop-equation-init c = done_begun c.deref-equation-items.result.now c.new-equations.result.items c.new-equations.ensures.items

pub loop-equation-preserved : goal.loop-equation-preserved
loop-equation-preserved c =
    done_next c.deref-equation-items.result.now c.loop-equation.equation-index c.equation-item.result c.in_ok-normal.normal c.loop-equation.equations.items c.push.new.self.items
    c.loop-equation-test.true c.equation-item.is c.in_ok-push.ensures.items c.in_ok-normal.ensures.right c.in_ok-normal.ensures.loops c.loop-equation.invariant

pub invariant_of-result-clause-rights : goal.invariant_of-result-clause-rights
invariant_of-result-clause-rights c =
    let typing = c.args.typed.now in
    ∣ rights_ended (said typing) c.deref-equation-items.result.now c.loop-equation.equation-index c.loop-equation.equations.items (accepted-well-typed (spec_form typing.spec) typing.faultless)
    (ap typed.right_views c.deref-equation-items.ensures.value ∙ typing.rights) c.loop-equation-test.false c.loop-equation.invariant ∣₁

pub invariant_of-result-clause-loops : goal.invariant_of-result-clause-loops
invariant_of-result-clause-loops c =
    loops_ended c.deref-equation-items.result.now c.loop-equation.equation-index c.loop-equation.equations.items c.loop-equation-test.false c.loop-equation.invariant
    ∙ (ap typed.loop_shapes c.deref-equation-items.ensures.value ∙ c.args.typed.now.loops)

pub returns-clause-rights : goal.returns-clause-rights
returns-clause-rights c =
    let typing = c.args.typed.now in
    rights_ended (said typing) c.deref-equation-items.result.now c.loop-equation.equation-index c.loop-equation.equations.items (accepted-well-typed (spec_form typing.spec) typing.faultless)
    (ap typed.right_views c.deref-equation-items.ensures.value ∙ typing.rights) c.loop-equation-test.false c.loop-equation.invariant

pub returns-clause-truth : goal.returns-clause-truth
returns-clause-truth c =
    let typing = c.args.typed.now in
    let well_typed = accepted-well-typed (spec_form typing.spec) typing.faultless in
    normal-equations-have-truth (said typing) (right_views c.loop-equation.equations.items) well_typed
    (rights_ended (said typing) c.deref-equation-items.result.now c.loop-equation.equation-index c.loop-equation.equations.items well_typed
    (ap typed.right_views c.deref-equation-items.ensures.value ∙ typing.rights) c.loop-equation-test.false c.loop-equation.invariant)

pub returns-clause-answer : goal.returns-clause-answer
returns-clause-answer c =
    let typing = c.args.typed.now in
    let well_typed = accepted-well-typed (spec_form typing.spec) typing.faultless in
    let rights =
    rights_ended (said typing) c.deref-equation-items.result.now c.loop-equation.equation-index c.loop-equation.equations.items well_typed
    (ap typed.right_views c.deref-equation-items.ensures.value ∙ typing.rights) c.loop-equation-test.false c.loop-equation.invariant in
    ap (answer_by (said typing)) rights ∙ normal-answer (said typing) well_typed
