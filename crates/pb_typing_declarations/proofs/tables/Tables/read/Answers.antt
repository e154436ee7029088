use Rattle.std.proofs.Common.{◌++◌, List, rules, refl, subst, map}
use Rattle.std.specs.Prelude.{flat_map}
use Rattle.pb_text_tree.specs.declared.sort.SortDeclaration.{SortDeclaration}
use Rattle.pb_text_tree.specs.declared.sort.Range as ast
use Rattle.pb_text_tree.specs.declared.spec.Equation.{Equation}
use Rattle.pb_text_tree.specs.Form.{spec_form, sort_declaration_form, range_form, equation_form}
use Rattle.pb_typing_declarations.specs.Faults.{repeated, IsAmong}
use Rattle.pb_typing_declarations.specs.Reading.{AreDefined, IsRangeTable, IsEquationTable}
use Rattle.pb_typing_declarations.specs.Declarations.{structs_faults, empty_faults, names_of_enumerator, all_enumerator_forms, sort_names, range_name, equation_names, tables_faults}
use Rattle.pb_typing_declarations.proofs.ReadParts.{in_definitions, in_range_lines, in_equations_twice, tables_clear}
use Rattle.pb_typing_declarations.proofs.tables.Tables.read.Goals as goal
use Rattle.pb_typing_declarations.proofs.tables.Tables.read.Goals.{After-all_chains}

pub returns-in_err-definitions : goal.returns-in_err-definitions
returns-in_err-definitions c =
    let text = spec_form c.args.spec.now in
    let e = c.in_err-definitions.field-0.0 in
    let all = λ (xs : List SortDeclaration). let ds = map sort_declaration_form xs in
    structs_faults 0 ds ++ (repeated (flat_map names_of_enumerator (all_enumerator_forms ds)) ++ repeated (sort_names ds)) in
    let h : IsAmong (tables_faults text) e = in_definitions text e (subst (λ (xs : List SortDeclaration). IsAmong (all xs) e) c.deref.ensures.value c.in_err-definitions.ensures) in
    search rules

pub returns-in_err-ranges : goal.returns-in_err-ranges
returns-in_err-ranges c =
    let text = spec_form c.args.spec.now in
    let e = c.in_err-ranges.field-0.0 in
    let all = λ (xs : List ast.Range). let rs = map range_form xs in flat_map empty_faults rs ++ repeated (map range_name rs) in
    let h : IsAmong (tables_faults text) e = in_range_lines text e (subst (λ (xs : List ast.Range). IsAmong (all xs) e) (c.deref-2).ensures.value c.in_err-ranges.ensures) in
    search rules

pub returns-in_err-equations : goal.returns-in_err-equations
returns-in_err-equations c =
    let text = spec_form c.args.spec.now in
    let e = c.in_err-equations.field-0.0 in
    let h : IsAmong (tables_faults text) e =
    in_equations_twice text e (subst (λ (xs : List Equation). IsAmong (repeated (equation_names (map equation_form xs))) e) (c.deref-3).ensures.value c.in_err-equations.ensures) in
    search rules

sorts_read : (c : After-all_chains) → AreDefined (map sort_declaration_form c.args.spec.now.sorts.items) c.in_ok-definitions.field-0
sorts_read c = subst (λ (xs : List SortDeclaration). AreDefined (map sort_declaration_form xs) c.in_ok-definitions.field-0) c.deref.ensures.value c.in_ok-definitions.ensures

ranges_read : (c : After-all_chains) → IsRangeTable (map range_form c.args.spec.now.ranges.items) c.in_ok-ranges.ranges
ranges_read c = subst (λ (xs : List ast.Range). IsRangeTable (map range_form xs) c.in_ok-ranges.ranges) (c.deref-2).ensures.value c.in_ok-ranges.ensures

equations_read : (c : After-all_chains) → IsEquationTable (map equation_form c.args.spec.now.equations.items) c.in_ok-equations.equations
equations_read c = subst (λ (xs : List Equation). IsEquationTable (map equation_form xs) c.in_ok-equations.equations) (c.deref-3).ensures.value c.in_ok-equations.ensures

pub invariant_of-result : goal.invariant_of-result
invariant_of-result c =
    let read = (goal.at.invariant_of-result c).After-all_chains in
    let sorts = sorts_read read in
    record {
      agrees = record {
        definitions = sorts.definitions;
        bounds = (ranges_read read).bounds;
        enumerators = sorts.enumerators;
        recognisers = sorts.recognisers;
        places = (equations_read read).places;
      };
      chained = c.in_ok-chains.ensures.0;
      based = c.in_ok-chains.ensures.1;
    }

pub returns : goal.returns
returns c =
    let read = (goal.at.returns c).After-all_chains in
    let sorts = sorts_read read in
    let ranges = ranges_read read in
    (refl, tables_clear (spec_form c.args.spec.now) sorts.clear ranges.clear sorts.data_apart sorts.sorts_apart ranges.apart (equations_read read).apart)
