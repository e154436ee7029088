use Rattle.std.proofs.Common.{◌≡◌, ◌≤◌, ◌++◌, List, length, drop, map}
use Rattle.std.specs.Prelude.{All}
use Rattle.pb_sorts.specs.declared.carrier.Carrier.{Carrier}
use Rattle.pb_base.specs.declared.limits.TheConstants.{MAX_PARAMETERS}
use Rattle.pb_sorts.specs.Layout as layouts
use Rattle.pb_sorts.specs.Layout.{lists_of}
use Rattle.pb_text_tree.specs.Form.{spec_form, equation_form}
use Rattle.pb_text_meaning.specs.Syntax.{Equation}
use Rattle.pb_text_meaning.specs.Erase.{erase, erased_equation}
use Rattle.pb_text_meaning.specs.Formula.{carriers_of}
use Rattle.pb_typing_declarations.specs.Shapes.{variable_shapes}
use Rattle.pb_typing_declarations.specs.Entries.{shapes_of}
use Rattle.pb_typing_declarations.specs.Declarations.{equations_faults_behind}
use Rattle.pb_typing_declarations.proofs.tables.Tables.carriers.Given as goal

-- all faults are those of the equations that are left, behind so many instances, and so are the carriers that are still to come
abbrev pub invariant-loop-equation : goal.invariant-loop-equation
invariant-loop-equation l =
    let S = erase (spec_form l.self.spec.now) in
    record {
      few : l.count ≤ l.limit;
      left : equations_faults_behind l.limit S 0 (map equation_form l.equations) ≡ equations_faults_behind l.limit S l.count (map equation_form (drop l.equation-index l.equations));
      values : map (λ (X : Equation). carriers_of S X.parameters) (map erased_equation (map equation_form l.equations))
          ≡ layouts.carriers_of (lists_of l.carriers.items) ++ map (λ (X : Equation). carriers_of S X.parameters) (map erased_equation (map equation_form (drop l.equation-index l.equations)));
      shapes : map (λ (X : Equation). variable_shapes S X.parameters) (map erased_equation (map equation_form l.equations))
          ≡ map shapes_of (lists_of l.carriers.items) ++ map (λ (X : Equation). variable_shapes S X.parameters) (map erased_equation (map equation_form (drop l.equation-index l.equations)));
      short : All (λ (cs : List Carrier). length cs ≤ MAX_PARAMETERS) (lists_of l.carriers.items);
    }
