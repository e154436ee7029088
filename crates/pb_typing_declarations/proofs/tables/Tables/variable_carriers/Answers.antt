use Rattle.std.proofs.Common.{◌∙◌, ◌++◌, ◌≤◌, length, List, rules, arith, sym, ap, map}
use Rattle.std.proofs.lemmas.List.{append-nil, drop_all}
use denote.Ref.{Bor}
use Rattle.pb_sorts.specs.Carrier.{values_of}
use Rattle.pb_text_tree.specs.declared.name.Name.{Name}
use Rattle.pb_text_tree.specs.Form.{spec_form}
use Rattle.pb_text_meaning.specs.Erase.{erase, erased_variables}
use Rattle.pb_text_meaning.specs.Formula.{carriers_of}
use Rattle.pb_typing_declarations.specs.declared.entry.Entry.{Entry}
use Rattle.pb_base.specs.declared.or_memory.OrMemory.TheVariants.{Refused}
use Rattle.pb_typing_declarations.specs.Faults.{repeated}
use Rattle.pb_typing_declarations.specs.Entries.{shapes_of}
use Rattle.pb_typing_declarations.specs.Shapes.{variable_shapes}
use Rattle.pb_typing_declarations.specs.Variables.{variable_of, variables_of}
use Rattle.pb_typing_declarations.specs.Declarations.{variable_names, variable_faults}
use Rattle.pb_typing_declarations.proofs.Parts.{no_whole}
use Rattle.pb_typing_declarations.proofs.Loops.{among_item, all_clear}
use Rattle.pb_typing_declarations.proofs.VariableLemmas.{names-variables_of, in_names, in_sorts}
use Rattle.pb_typing_declarations.proofs.tables.Tables.variable_carriers.Goals as goal

pub returns-in_err-table : goal.returns-in_err-table
returns-in_err-table c =
    let h = in_names (erase (spec_form c.args.self.now.spec.now)) c.args.variables.now c.in_err-table.field-0.0 c.in_err-table.ensures in
    search rules

pub returns-in_err-carrier : goal.returns-in_err-carrier
returns-in_err-carrier c =
    let S = erase (spec_form c.args.self.now.spec.now) in
    let es = c.args.variables.now in
    let e = Refused c.in_err-carrier.field-0.0 in
    let h =
    in_sorts S es e
    (among_item (variable_faults S) variable_of es c.loop-variable.variable-index c.variable-item.result e
    c.loop-variable-test.true c.variable-item.is c.loop-variable.invariant.left c.in_err-carrier.ensures) in
    search rules

pub returns : goal.returns
returns c =
    let S = erase (spec_form c.args.self.now.spec.now) in
    let es = c.args.variables.now in
    let k = c.loop-variable.variable-index in
    let end : length es ≤ k = omega (arith, c.loop-variable-test.false) in
    let carriers = map values_of c.loop-variable.carriers.items in
    let shapes = shapes_of c.loop-variable.carriers.items in
    record {
      clear = no_whole (repeated (variable_names (variables_of es))) _
          (ap repeated (sym (names-variables_of es)) ∙ c.in_ok-table.ensures.0)
          (all_clear (variable_faults S) variable_of es k end c.loop-variable.invariant.left);
      values = sym
          (c.loop-variable.invariant.values
          ∙ (ap (λ (xs : List (Entry (Bor Name))). carriers ++ carriers_of S (erased_variables (variables_of xs))) (drop_all k es end) ∙ append-nil carriers));
      shapes = sym
          (c.loop-variable.invariant.shapes
          ∙ (ap (λ (xs : List (Entry (Bor Name))). shapes ++ variable_shapes S (erased_variables (variables_of xs))) (drop_all k es end) ∙ append-nil shapes));
    }
