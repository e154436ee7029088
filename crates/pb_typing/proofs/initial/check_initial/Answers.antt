use Rattle.std.proofs.Common.{◌≡◌, ◌∙◌, ◌++◌, ℤ, List, [], ap, sym, subst, rules, length, arith}
use Rattle.std.proofs.lemmas.List.{length-map}
use Rattle.pb_sorts.specs.declared.carrier.Carrier.{Carrier}
use Rattle.pb_text_tree.specs.declared.term.Argument.{Argument}
use Rattle.pb_text_tree.specs.Form.{SpecForm, argument_forms, instance_form}
use Rattle.pb_text_meaning.specs.Syntax.{same_name, Equation, Spec}
use Rattle.pb_text_meaning.specs.Erase.{erased_arguments}
use Rattle.pb_text_meaning.specs.Fits.{AllFit}
use Rattle.pb_text_meaning.specs.Value.{values}
use Rattle.pb_typing_declarations.specs.declared.declarations.Declarations.{Declarations}
use Rattle.pb_typing_declarations.specs.declared.fault.TypingFault.{TypingFault}
use Rattle.pb_typing_declarations.specs.Entries.{shapes_of}
use Rattle.pb_typing_declarations.specs.Faults.{IsAmong}
use Rattle.pb_typing_declarations.specs.Shapes.{Shape, variable_shapes}
use Rattle.pb_typing_declarations.specs.View.{limit_of, spec_of, text_of}
use Rattle.pb_typing_declarations.specs.WellDeclared.{HaveEnds}
use Rattle.pb_typing_declarations.proofs.DeclaredEnds.{faultless_ends}
use Rattle.pb_typing_rules.specs.Faults.{initial_faults}
use Rattle.pb_typing_tree.specs.Expansion.{have_quantifier}
use Rattle.pb_typing_nodes.proofs.Unknown.{some_position}
use Rattle.pb_typing.specs.Typed.{IsLayout}
use Rattle.pb_typing.proofs.Calls.{length-erased}
use Rattle.pb_typing.proofs.FormulaSteps.{call_placed}
use Rattle.pb_typing.proofs.InitialValues.{among_then, arguments_fit, carriers_counted, carriers_there, initial_found, none_quantified, parameters_of, values_left}
use Rattle.pb_typing.proofs.initial.check_initial.Goals as goal

pub returns-in_err-call : goal.returns-in_err-call
returns-in_err-call c =
    let h : IsAmong (initial_faults (spec_of c.args.declarations.now) (instance_form c.args.spec.now.initial)) c.in_err-call.field-0.0 =
    among_then _ _ c.in_err-call.field-0.0 c.in_err-call.ensures in
    search rules

-- a layout has as many lists of carriers as there are equations
laid_out_length : (S : Spec) (layout : List (List Carrier)) → IsLayout S layout → length layout ≡ length S.equations
laid_out_length S layout laid =
    sym (length-map layout shapes_of)
    ∙ (ap (λ (ss : List (List Shape)). length ss) laid.shapes ∙ length-map S.equations (λ (X : Equation). variable_shapes S X.parameters))

pub carriers-carriers-requires : goal.carriers-carriers-requires
carriers-carriers-requires c =
    let S = spec_of c.args.declarations.now in
    let named = λ (X : Equation). same_name X.name (instance_form c.args.spec.now.initial).name.text in
    omega (arith, (some_position named S.equations c.in_ok-call.call.equation (call_placed c.in_ok-call.ensures.1)).0, laid_out_length S c.args.layout.now c.requires.layout)

-- what is declared without a fault has ends
ends_of : (d : Declarations) → HaveEnds (spec_of d)
ends_of d = faultless_ends (limit_of d) (text_of d) d.faultless

pub check_values-requires-clause-fit : goal.check_values-requires-clause-fit
check_values-requires-clause-fit c =
    subst (λ (es : List Argument). AllFit (spec_of c.args.declarations.now) [] (erased_arguments (argument_forms es))) (sym c.deref.ensures.value)
    (arguments_fit (spec_of c.args.declarations.now) (instance_form c.args.spec.now.initial) (ends_of c.args.declarations.now) c.in_ok-call.ensures.0)

pub check_values-requires-clause-plain : goal.check_values-requires-clause-plain
check_values-requires-clause-plain c =
    ap (λ (es : List Argument). have_quantifier (erased_arguments (argument_forms es))) c.deref.ensures.value
    ∙ none_quantified (spec_of c.args.declarations.now) (instance_form c.args.spec.now.initial) (ends_of c.args.declarations.now) c.in_ok-call.ensures.0

pub check_values-requires-clause-counted : goal.check_values-requires-clause-counted
check_values-requires-clause-counted c =
    let same = carriers_counted c.requires.layout c.in_ok-call.ensures.1 c.carriers-carriers.ensures.list (ends_of c.args.declarations.now) c.in_ok-call.ensures.0 in
    omega (arith, same, length-erased c.args.spec.now.initial.arguments.items, ap (λ (es : List Argument). length es) c.deref.ensures.value)

pub returns-in_err-check_values : goal.returns-in_err-check_values
returns-in_err-check_values c =
    let told = c.in_err-check_values.ensures.faults (parameters_of (spec_of c.args.declarations.now) (instance_form c.args.spec.now.initial))
    (carriers_there c.requires.layout c.in_ok-call.ensures.1 c.carriers-carriers.ensures.list) in
    let h : IsAmong (initial_faults (spec_of c.args.declarations.now) (instance_form c.args.spec.now.initial)) c.in_err-check_values.field-0.0 =
    subst (λ (fs : List TypingFault). IsAmong fs c.in_err-check_values.field-0.0)
    (values_left (spec_of c.args.declarations.now) (instance_form c.args.spec.now.initial) c.deref.result.now (ap argument_forms c.deref.ensures.value) c.in_ok-call.ensures.0) told in
    search rules

pub overflow_cast-result : goal.overflow_cast-result
overflow_cast-result c = omega (arith, (initial_found c.args.declarations.now c.requires.text c.in_ok-call.ensures.1).1)

pub returns : goal.returns
returns c =
    let d = c.args.declarations.now in
    let i = instance_form c.args.spec.now.initial in
    let checked = c.in_ok-check_values.ensures in (
      sym (values_left (spec_of d) i c.deref.result.now (ap argument_forms c.deref.ensures.value) c.in_ok-call.ensures.0)
          ∙ checked.faults (parameters_of (spec_of d) i) (carriers_there c.requires.layout c.in_ok-call.ensures.1 c.carriers-carriers.ensures.list),
      record {
        equation = (initial_found d c.requires.text c.in_ok-call.ensures.1).0;
        values =
            checked.values
            ∙ (ap (λ (vs : List ℤ). vs ++ values (spec_of d) [] (erased_arguments (argument_forms c.deref.result.now))) c.in_ok-values.ensures.items
            ∙ (ap (λ (es : List Argument). values (spec_of d) [] (erased_arguments (argument_forms es))) c.deref.ensures.value
            ∙ ap (λ (t : SpecForm). values (spec_of d) [] (erased_arguments t.initial.arguments)) (sym c.requires.text)));
      },
    )
