-- What the check finds of right sides.
use Rattle.std.specs.Prelude.{◌≡◌, ℕ, true, List, map}
use Rattle.pb_text_tree.specs.declared.formula.Formula as ast
use Rattle.pb_text_tree.specs.Form.{EquationForm, formula_form}
use Rattle.pb_text_meaning.specs.Syntax.{Spec}
use Rattle.pb_text_meaning.specs.Erase.{erased_equation, erased_variables}
use Rattle.pb_typing_declarations.specs.declared.fault.TypingFault.{TypingFault}
use Rattle.pb_typing_declarations.specs.Entries.{shapes_of}
use Rattle.pb_typing_rules.specs.Faults.{formula_faults}
use Rattle.pb_typing_rules.specs.Scope.{Scope, bound, outermost}
use Rattle.pb_typing_tree.specs.declared.formula.Equation.{Equation}
use Rattle.pb_typing_tree.specs.Calls.{call_places, calls_in, text_calls, tree_calls}
use Rattle.pb_typing_tree.specs.Elaboration.{Slotting, elaborated, elaborated_equation}
use Rattle.pb_typing_tree.specs.Elaboration.{elaborated_equations}
use Rattle.pb_typing_tree.specs.Loops.{equation_loops, loops}
use Rattle.pb_typing_tree.specs.View.{formula_view, loop_shapes, right_views}
use Rattle.pb_typing.specs.Tree.{formula_of}

-- the faults of a right side, under its equation's parameters
abbrev pub right_own_faults : Spec → EquationForm → List TypingFault
right_own_faults spec X =
    formula_faults spec true (bound spec (erased_variables X.parameters) outermost) X.right

-- a right side in a scope, where so many slots are taken
pub record IsRightIn (S : Spec) (a : Scope) (c : Slotting) (n : ℕ) (f : ast.Formula) (Y : Equation)
    : Type 0 where
  pub right : formula_view Y.right ≡ elaborated S c a n (formula_of f)
  pub loops : shapes_of Y.loops.items ≡ loops S (formula_of f)
  pub calls : call_places Y.right ≡ calls_in (formula_form f)

-- an equation's right side
pub record IsRight (spec : Spec) (X : EquationForm) (Y : Equation) : Type 0 where
  pub right : formula_view Y.right ≡ elaborated_equation spec (erased_equation X)
  pub loops : shapes_of Y.loops.items ≡ equation_loops spec (erased_equation X)
  pub calls : call_places Y.right ≡ calls_in X.right

-- those of some equations, in order
pub record AreRights (spec : Spec) (E : List EquationForm) (Ys : List Equation) : Type 0 where
  pub rights : right_views Ys ≡ elaborated_equations spec (map erased_equation E)
  pub loops : loop_shapes Ys ≡ map (equation_loops spec) (map erased_equation E)
  pub calls : tree_calls Ys ≡ text_calls E
