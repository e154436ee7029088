-- The typed tree of each equation of a well-typed specification has the truth of the equation's right side.
use Rattle.std.proofs.Common.{zero, suc, true, List, [], ◌∷◌, length, sym, ◌∙◌, arith}
use Rattle.std.specs.List.{All}
use Rattle.pb_text_meaning.specs.Syntax.{Equation, Spec}
use Rattle.pb_text_meaning.specs.Meaning.{assigned}
use Rattle.pb_typing_declarations.proofs.ShapeLaws.{shape_carrier-sort_shape}
use Rattle.pb_typing_rules.specs.Formula.{IsProper}
use Rattle.pb_typing_rules.specs.WellTyped.{parameter_scope, AreProper, IsWellTyped}
use Rattle.pb_typing_tree.specs.Expansion.{expanded}
use Rattle.pb_typing_tree.specs.Elaboration.{unslotted, with_slots}
use Rattle.pb_typing_tree.specs.Equations.{KeepsTruth}
use Rattle.pb_typing_tree.proofs.Expanded.{expanded-truth}
use Rattle.pb_typing_tree.proofs.Truth.{elaborated-truth}
use Rattle.pb_typing_tree.proofs.Plain.{expanded-plain}
use Rattle.pb_typing_tree.proofs.Parameters.{agree-parameters, free-parameters}

keeps-truth : (spec : Spec) (X : Equation) → IsProper spec true (parameter_scope spec X) X.right → KeepsTruth spec X
keeps-truth spec X proper t slots i count hold =
    let scope = parameter_scope spec X in
    let a = assigned X.parameters i.values [] in
    elaborated-truth spec t (expanded X.right) scope (λ s. sym (shape_carrier-sort_shape spec s)) (expanded-plain spec true scope X.right proper)
    (with_slots X.parameters 0 unslotted) (length X.parameters) slots a
    (free-parameters X.parameters) (agree-parameters X.parameters i.values slots count hold)
    ∙ expanded-truth spec t X.right a

rights-keep-truth : (spec : Spec) (E : List Equation) → AreProper spec E → All (KeepsTruth spec) E
rights-keep-truth spec [] proper k d below = absurd (omega arith)
rights-keep-truth spec (X ∷ E) proper zero d below = keeps-truth spec X proper.0
rights-keep-truth spec (X ∷ E) proper (suc k) d below = rights-keep-truth spec E proper.1 k d (omega arith)

pub equations-keep-truth : (spec : Spec) → IsWellTyped spec → All (KeepsTruth spec) spec.equations
equations-keep-truth spec h = rights-keep-truth spec spec.equations h.rights
