-- The normal form of each equation of a well-typed specification has the truth of the equation's right side.
use Rattle.std.proofs.Common.{◌≡◌, zero, suc, true, List, [], ◌∷◌, map, length, sym, ◌∙◌, subst, arith}
use Rattle.std.specs.List.{All}
use Rattle.pb_text_meaning.specs.Syntax.{Equation, Spec}
use Rattle.pb_text_meaning.specs.Meaning.{assigned}
use Rattle.pb_text_meaning.specs.Positive.{IsPositive, ArePositive}
use Rattle.pb_typing_declarations.proofs.ShapeLaws.{shape_carrier-sort_shape}
use Rattle.pb_typing_rules.specs.Formula.{IsProper}
use Rattle.pb_typing_rules.specs.WellTyped.{parameter_scope, AreProper, IsWellTyped}
use Rattle.pb_typing_rules.proofs.Fitting.{spec_positive}
use Rattle.pb_normal.specs.Expansion.{expanded}
use Rattle.pb_normal.specs.Normalisation.{unslotted, with_slots}
use Rattle.pb_normal.specs.Answer.{normal_equations}
use Rattle.pb_normal.specs.Equations.{normal_equation, HaveTruth, NormalFormKeepsTruth}
use Rattle.pb_normal.specs.Normal.{Formula}
use Rattle.pb_typing_tree.proofs.Expanded.{expanded-truth}
use Rattle.pb_normal.proofs.Truth.{normal-truth}
use Rattle.pb_normal.proofs.Positive.{expanded-positive}
use Rattle.pb_typing_tree.proofs.Plain.{expanded-plain}
use Rattle.pb_typing_tree.proofs.Parameters.{agree-parameters, free-parameters}

keeps-truth : (spec : Spec) (X : Equation) → IsProper spec true (parameter_scope spec X) X.right → IsPositive true X.right → NormalFormKeepsTruth spec X
keeps-truth spec X proper positive t slots i count hold =
    let scope = parameter_scope spec X in
    let a = assigned X.parameters i.values [] in
    normal-truth spec t (expanded X.right) true scope (λ s. sym (shape_carrier-sort_shape spec s))
    (expanded-positive true X.right positive) (expanded-plain spec true scope X.right proper)
    (with_slots X.parameters 0 unslotted) (length X.parameters) slots a
    (free-parameters X.parameters) (agree-parameters X.parameters i.values slots count hold)
    ∙ expanded-truth spec t X.right a

rights-keep-truth : (spec : Spec) (E : List Equation) → AreProper spec E → ArePositive E → All (NormalFormKeepsTruth spec) E
rights-keep-truth spec [] proper positive k d below = absurd (omega arith)
rights-keep-truth spec (X ∷ E) proper positive zero d below = keeps-truth spec X proper.0 positive.0
rights-keep-truth spec (X ∷ E) proper positive (suc k) d below = rights-keep-truth spec E proper.1 positive.1 k d (omega arith)

pub equations-keep-truth : (spec : Spec) → IsWellTyped spec → All (NormalFormKeepsTruth spec) spec.equations
equations-keep-truth spec h = rights-keep-truth spec spec.equations h.rights (spec_positive spec h)

have-truth : (spec : Spec) (E : List Equation) → All (NormalFormKeepsTruth spec) E → HaveTruth spec E (map (normal_equation spec) E)
have-truth spec [] all = tt
have-truth spec (X ∷ E) all = (all 0 X (omega arith), have-truth spec E (λ k d below. all (suc k) d (omega arith)))

-- right sides that are the normal forms have the truth of the text's
pub normal-equations-have-truth : (spec : Spec) (fs : List Formula) → IsWellTyped spec → fs ≡ normal_equations spec → HaveTruth spec spec.equations fs
normal-equations-have-truth spec fs typed same =
    subst (λ (gs : List Formula). HaveTruth spec spec.equations gs) (sym same) (have-truth spec spec.equations (equations-keep-truth spec typed))
