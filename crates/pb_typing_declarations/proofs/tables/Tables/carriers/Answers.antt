use Rattle.std.proofs.Common.{◌∙◌, List, rules, map, ap}
use Rattle.pb_sorts.specs.declared.carrier.Carrier.{Carrier}
use Rattle.pb_sorts.specs.Carrier.{values_of}
use Rattle.pb_sorts.proofs.Places.{drop-at}
use Rattle.pb_text_tree.specs.declared.spec.Equation as ast
use Rattle.pb_text_tree.specs.Form.{spec_form, equation_form}
use Rattle.pb_text_meaning.specs.Syntax.{Equation}
use Rattle.pb_text_meaning.specs.Erase.{erase}
use Rattle.pb_text_meaning.specs.Formula.{carriers_of}
use Rattle.pb_base.specs.declared.or_memory.OrMemory.TheVariants.{Refused}
use Rattle.pb_typing_declarations.specs.Shapes.{variable_shapes}
use Rattle.pb_typing_declarations.specs.Entries.{shapes_of}
use Rattle.pb_typing_declarations.specs.Declarations.{equations_faults_behind}
use Rattle.pb_typing_declarations.proofs.EquationLemmas.{all_pushed, one_listed, in_equation, in_instances, left_behind, IsNext}
use Rattle.pb_typing_declarations.proofs.tables.Tables.carriers.Goals as goal
use Rattle.pb_typing_declarations.proofs.tables.Tables.carriers.Goals.{After-equation-item}

next_equation : (c : After-equation-item) → IsNext c.args.limit (erase (spec_form c.args.self.now.spec.now)) c.args.equations.now c.loop-equation.equation-index c.loop-equation.count c.equation-item.result
next_equation c =
    let following = drop-at c.args.equations.now c.loop-equation.equation-index c.equation-item.result c.loop-equation-test.true c.equation-item.is in
    record {
      few = c.loop-equation.invariant.few;
      following = following;
      left =
          c.loop-equation.invariant.left
          ∙ ap (λ (xs : List ast.Equation). equations_faults_behind c.args.limit (erase (spec_form c.args.self.now.spec.now)) c.loop-equation.count (map equation_form xs)) following;
    }

pub returns-in_err-parameters : goal.returns-in_err-parameters
returns-in_err-parameters c =
    let h = in_equation (next_equation (goal.at.returns-in_err-parameters c).After-equation-item) c.in_err-parameters.field-0.0 c.in_err-parameters.ensures in
    search rules

pub returns-in_err-count : goal.returns-in_err-count
returns-in_err-count c =
    let next = next_equation (goal.at.returns-in_err-count c).After-equation-item in
    let h = in_instances next c.in_ok-parameters.ensures c.deref.ensures.value (Refused c.in_err-count.field-0.0) c.in_err-count.ensures in
    search rules

pub loop-equation-preserved : goal.loop-equation-preserved
loop-equation-preserved c =
    let S = erase (spec_form c.args.self.now.spec.now) in
    let next = next_equation (goal.at.loop-equation-preserved c).After-equation-item in
    let inv = c.loop-equation.invariant in
    let parameters = c.in_ok-parameters.parameters in
    let has = c.in_ok-parameters.ensures in
    let old = c.loop-equation.carriers.items in
    let new = c.push.new.self.items in
    let pushed = c.in_ok-push.ensures.items in
    record {
      few = c.in_ok-count.ensures.few;
      left = left_behind next has c.deref.ensures.value c.in_ok-count.ensures;
      values = one_listed next (λ (cs : List Carrier). map values_of cs) (λ (Y : Equation). carriers_of S Y.parameters) old new parameters pushed has.values inv.values;
      shapes = one_listed next shapes_of (λ (Y : Equation). variable_shapes S Y.parameters) old new parameters pushed has.shapes inv.shapes;
      short = all_pushed old new parameters pushed inv.short has.few;
    }
