use Rattle.std.proofs.Common.{List, map, sym, ap, ◌∙◌, subst}
use Rattle.std.specs.List.{list_all}
use Rattle.std.proofs.lemmas.Bool.{and_parts}
use Rattle.pb_text_tree.specs.declared.sort.SortDeclaration.{SortDeclaration}
use Rattle.pb_text_tree.specs.declared.spec.Equation as tree
use Rattle.pb_text_tree.specs.Form.{equation_form, sort_declaration_form, spec_form}
use Rattle.pb_text_meaning.specs.Erase.{erase, erased_declaration}
use Rattle.pb_text_meaning.specs.Syntax as syntax
use Rattle.pb_bytecode.specs.Names.{is_module_name}
use Rattle.pb_bytecode.specs.Views.{equation_contents, initial_contents, sort_contents}
use Rattle.pb_normal.specs.declared.normal.Equation.{Equation}
use Rattle.pb_assembler_modules.specs.Module.{struct_names}
use Rattle.pb_assembler.specs.Compiled.{all_compiled, AreReady, AreSorts}
use Rattle.pb_assembler_measures.specs.MeasureEquations.{AreMeasuresOfAll}
use Rattle.pb_assembler_measures.specs.declared.measures.Measures.{Measures}
use Rattle.pb_assembler.proofs.Names.{has_enumerator_names}
use Rattle.pb_assembler.proofs.Texts.{accepted_sorts}
use Rattle.pb_assembler.proofs.Whole.{all_ready, compiled, keeps, normal_named, parameters_are, whole_fits, AreParts, IsKept}
use Rattle.pb_assembler.proofs.compiler.compile.Goals as goal
use Rattle.pb_assembler.proofs.compiler.compile.Goals.{In_ok-measures, In_ok-initial}

known : (c : In_ok-measures) → IsKept c.args.normal.now
known c =
    let typed = c.args.normal.now.typed.now in
    record { kept = c.in_ok-measures.ensures.kept; small = (c.accepted_texts_can_be_compiled.ensures (spec_form typed.spec) typed.faultless).small }

parts : (c : In_ok-initial)
    → AreParts c.args.normal.now (map sort_contents c.in_ok-sorts.sorts.items) (map equation_contents c.in_ok-equations.equations.items) (initial_contents c.in_ok-initial.initial)
parts c =
    let normal = c.args.normal.now in
    let callees = normal.typed.now.layout in
    let texts = (spec_form normal.typed.now.spec).equations in
    record {
      sorts = c.in_ok-sorts.ensures ∙ ap (λ (ds : List SortDeclaration). struct_names (map erased_declaration (map sort_declaration_form ds))) c.deref.ensures.value;
      equations =
          c.in_ok-equations.ensures.contents
          ∙ ap (λ (xs : List tree.Equation). all_compiled callees callees (map equation_form xs) (c.deref-3).result.now) (c.deref-2).ensures.value
          ∙ ap (λ (ds : List Equation). all_compiled callees callees texts ds) (c.deref-3).ensures.value;
      place = c.in_ok-initial.ensures.equation;
      values = c.in_ok-initial.ensures.values;
    }

pub sorts-requires : goal.sorts-requires
sorts-requires c =
    let typed = c.args.normal.now.typed.now in
    let text = spec_form typed.spec in
    subst (λ (ds : List SortDeclaration). AreSorts (map erased_declaration (map sort_declaration_form ds))) (sym c.deref.ensures.value)
    (accepted_sorts text typed.faultless
    (and_parts (list_all has_enumerator_names (erase text).sorts) (list_all (λ (X : syntax.Equation). is_module_name X.name) (erase text).equations) (normal_named c.args.normal.now)).0)

pub compile_equations-requires-clause-ready : goal.compile_equations-requires-clause-ready
compile_equations-requires-clause-ready c =
    let callees = c.args.normal.now.typed.now.layout in
    let texts = (spec_form c.args.normal.now.typed.now.spec).equations in
    subst (λ (xs : List tree.Equation). AreReady callees callees (map equation_form xs) (c.deref-3).result.now) (sym (c.deref-2).ensures.value)
    (subst (λ (ds : List Equation). AreReady callees callees texts ds) (sym (c.deref-3).ensures.value)
    (all_ready c.args.normal.now (known (goal.at.compile_equations-requires-clause-ready c).In_ok-measures)))

pub compile_equations-requires-clause-measured : goal.compile_equations-requires-clause-measured
compile_equations-requires-clause-measured c =
    let normal = c.args.normal.now in
    let layout = normal.typed.now.layout in
    subst (λ (es : List Equation). AreMeasuresOfAll layout es (c.deref-4).result.now) (sym (c.deref-3).ensures.value)
    (subst (λ (ms : List Measures). AreMeasuresOfAll layout normal.equations.items ms) (sym (c.deref-4).ensures.value) c.in_ok-measures.ensures.measured)

pub invariant_of-result : goal.invariant_of-result
invariant_of-result c =
    let at = goal.at.invariant_of-result c in
    let typed = c.args.normal.now.typed.now in
    let can = c.accepted_texts_can_be_compiled.ensures (spec_form typed.spec) typed.faultless in
    record {
      within_limits =
          whole_fits c.args.normal.now (known at.In_ok-measures) _ _ _ (parts at.In_ok-initial)
          c.in_ok-equations.ensures.fields c.in_ok-initial.ensures.byte c.in_ok-initial.ensures.words
          can.structs can.shapes can.bounded can.initial;
    }

pub returns-clause-module : goal.returns-clause-module
returns-clause-module c =
    let at = goal.at.returns-clause-module c in compiled c.args.normal.now (known at.In_ok-measures) _ _ _ (parts at.In_ok-initial)

pub returns-clause-kept : goal.returns-clause-kept
returns-clause-kept c =
    let at = goal.at.returns-clause-kept c in keeps c.args.normal.now (known at.In_ok-measures) _ _ _ (parts at.In_ok-initial)

pub returns-clause-laid_out : goal.returns-clause-laid_out
returns-clause-laid_out c =
    let at = goal.at.returns-clause-laid_out c in parameters_are c.args.normal.now (known at.In_ok-measures) _ _ _ (parts at.In_ok-initial)

pub returns-clause-accepted : goal.returns-clause-accepted
returns-clause-accepted c =
    let at = goal.at.returns-clause-accepted c in
    let typed = c.args.normal.now.typed.now in
    let kept = known at.In_ok-measures in
    let made = parts at.In_ok-initial in
    c.compiled_modules_are_accepted.ensures.accepted (spec_form typed.spec) typed.faultless _ (compiled c.args.normal.now kept _ _ _ made) (keeps c.args.normal.now kept _ _ _ made)

pub returns-clause-meaning : goal.returns-clause-meaning
returns-clause-meaning c =
    let at = goal.at.returns-clause-meaning c in
    let typed = c.args.normal.now.typed.now in
    c.compiled_modules_have_the_answer.ensures.accepted (spec_form typed.spec) typed.faultless _
    (compiled c.args.normal.now (known at.In_ok-measures) _ _ _ (parts at.In_ok-initial))
