use Rattle.std.proofs.Common.{◌≡◌, ◌++◌, drop, map}
use Rattle.std.specs.Prelude.{flat_map}
use Rattle.pb_sorts.specs.Carrier.{values_of}
use Rattle.pb_text_tree.specs.Form.{spec_form}
use Rattle.pb_text_meaning.specs.Erase.{erase, erased_variables}
use Rattle.pb_text_meaning.specs.Formula.{carriers_of}
use Rattle.pb_typing_declarations.specs.Entries.{shapes_of}
use Rattle.pb_typing_declarations.specs.Shapes.{variable_shapes}
use Rattle.pb_typing_declarations.specs.Variables.{variable_of, variables_of}
use Rattle.pb_typing_declarations.specs.Declarations.{variable_faults}
use Rattle.pb_typing_declarations.proofs.tables.Tables.variable_carriers.Given as goal

-- all faults of sorts are those of the variables that are left, and so are the carriers that are still to come
abbrev pub invariant-loop-variable : goal.invariant-loop-variable
invariant-loop-variable l =
    let S = erase (spec_form l.self.spec.now) in
    record {
      left : flat_map (variable_faults S) (map variable_of l.variables) ≡ flat_map (variable_faults S) (map variable_of (drop l.variable-index l.variables));
      values : carriers_of S (erased_variables (variables_of l.variables)) ≡ map values_of l.carriers.items ++ carriers_of S (erased_variables (variables_of (drop l.variable-index l.variables)));
      shapes : variable_shapes S (erased_variables (variables_of l.variables)) ≡ shapes_of l.carriers.items ++ variable_shapes S (erased_variables (variables_of (drop l.variable-index l.variables)));
    }
