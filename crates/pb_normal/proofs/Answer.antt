-- The normal forms of a well-typed specification have its solution and its answer.
use Rattle.std.proofs.Common.{◌≡◌, suc, pos, Bool, true, List, [], ◌∷◌, map, length, Some, refl, sym, ◌∙◌, ap, true≢false, get_or}
use Rattle.std.proofs.lemmas.Option.{slice_get-get_or, unwrap_or-slice_get}
use Rattle.std.proofs.lemmas.Bool.{and_parts}
use Rattle.pb_fixpoint.specs.Solution as fixpoint
use Rattle.pb_fixpoint.specs.Solution.{Environment, solution, empty}
use Rattle.pb_base_values.specs.Carrier.{Tuple, is_within, contains}
use Rattle.pb_text_meaning.specs.Syntax.{same_name, Variable, Equation, Spec}
use Rattle.pb_text_meaning.specs.Value.{values}
use Rattle.pb_text_meaning.specs.Formula.{Instance, carriers_of, call_truth}
use Rattle.pb_text_meaning.specs.Sorts.{carrier_of}
use Rattle.pb_text_meaning.specs.Meaning.{equation_of, equations_of, answer}
use Rattle.pb_typing_rules.specs.WellTyped.{IsWellTyped}
use Rattle.pb_normal.specs.Normal.{truth}
use Rattle.pb_normal.specs.Equations.{normal_equation, Hold, NormalFormKeepsTruth}
use Rattle.pb_normal.specs.Answer.{slots_of, equation_by, equations_by, answer_by, normal_equations}
use Rattle.pb_normal.proofs.Equations.{equations-keep-truth}
use Rattle.pb_normal.proofs.Sequences.{HoldsAlike, same-solution}

pub slots-hold : (vs : Tuple) → Hold (slots_of vs) vs
slots-hold vs s below = slice_get-get_or vs s (pos 0) below ∙ ap Some (sym (unwrap_or-slice_get vs s (pos 0)))

-- a tuple within carriers has a value for each
pub within-count : (spec : Spec) (xs : List Variable) (vs : Tuple) → is_within (carriers_of spec xs) vs ≡ true → length vs ≡ length xs
within-count spec [] [] e = refl
within-count spec [] (v ∷ vs) e = absurd (true≢false (sym e))
within-count spec (x ∷ xs) [] e = absurd (true≢false (sym e))
within-count spec (x ∷ xs) (v ∷ vs) e =
    let rest = and_parts (contains (carrier_of spec x.sort) v) (is_within (carriers_of spec xs) vs) e in
    ap suc (within-count spec xs vs rest.1)

-- where an equation holds, by its normal form
abbrev holds_normally : Spec → Equation → Instance → Environment Instance → Bool
holds_normally spec X i t = truth spec (slots_of i.values) t (normal_equation spec X)

abbrev normally : Spec → Equation → fixpoint.Equation Instance
normally spec X = equation_by spec X (normal_equation spec X)

holds-alike : (spec : Spec) (X : Equation) → NormalFormKeepsTruth spec X → HoldsAlike Instance Equation (equation_of spec) (holds_normally spec) X
holds-alike spec X keeps t i own =
    let inside = and_parts (same_name X.name i.name) (is_within (carriers_of spec X.parameters) i.values) own in
    keeps t (slots_of i.values) i (within-count spec X.parameters i.values inside.1) (slots-hold i.values)

one-by-one : (spec : Spec) (E : List Equation) → equations_by spec E (map (normal_equation spec) E) ≡ map (normally spec) E
one-by-one spec [] = refl
one-by-one spec (X ∷ E) = ap (λ (D : List (fixpoint.Equation Instance)). normally spec X ∷ D) (one-by-one spec E)

pub normal-solution : (spec : Spec) → IsWellTyped spec → (t : Environment Instance) → solution (equations_by spec spec.equations (normal_equations spec)) t ≡ solution (equations_of spec) t
normal-solution spec typed t =
    ap (λ (D : List (fixpoint.Equation Instance)). solution D t) (one-by-one spec spec.equations)
    ∙ sym (same-solution Instance Equation (equation_of spec) (holds_normally spec) spec.equations
    (λ k d below. holds-alike spec (get_or spec.equations k d) (equations-keep-truth spec typed k d below)) t)

pub normal-answer : (spec : Spec) → IsWellTyped spec → answer_by spec (normal_equations spec) ≡ answer spec
normal-answer spec typed =
    ap (λ (t : Environment Instance). call_truth spec t (record { name = spec.initial; values = values spec [] spec.arguments })) (normal-solution spec typed empty)
