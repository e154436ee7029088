-- Each term of a well-typed specification fits, and each right side is positive.
use Rattle.std.proofs.Common.{◌≡◌, zero, suc, Bool, true, not, List, [], ◌∷◌, sym, arith, true≢false}
use Rattle.std.specs.Prelude.{All}
use Rattle.std.proofs.lemmas.Bool.{and_parts}
use Rattle.pb_base_values.specs.Carrier.{Tuple, is_within, contains}
use Rattle.pb_text_meaning.specs.Syntax.{Variable, Formula, Equation, Spec}
use Rattle.pb_text_meaning.specs.Sorts.{carrier_of}
use Rattle.pb_text_meaning.specs.Value.{Assignment}
use Rattle.pb_text_meaning.specs.Formula.{carriers_of, equation_named}
use Rattle.pb_text_meaning.specs.Meaning.{assigned}
use Rattle.pb_text_meaning.specs.Positive.{IsPositive, ArePositive}
use Rattle.pb_text_meaning.specs.Fits.{RightFits, SpecFits}
use Rattle.pb_typing_declarations.specs.Shapes.{sort_shape}
use Rattle.pb_typing_rules.specs.Scope.{Scope, outermost, declare, bound, IsWithinScope}
use Rattle.pb_typing_rules.specs.Formula.{IsProper}
use Rattle.pb_typing_rules.specs.WellTyped.{parameter_scope, AreProper, IsWellTyped}
use Rattle.pb_typing_rules.proofs.Names.{within_declared, sort_value}
use Rattle.pb_typing_rules.proofs.Contained.{formula_fits, all_fit, called_typed}

-- a tuple of the parameters' carriers makes an assignment within their scope
pub assigned_within : (spec : Spec) (xs : List Variable) (vs : Tuple) (scope : Scope) (a : Assignment)
    → is_within (carriers_of spec xs) vs ≡ true → IsWithinScope a scope → IsWithinScope (assigned xs vs a) (bound spec xs scope)
assigned_within spec [] [] scope a e within = within
assigned_within spec [] (v ∷ vs) scope a e within = absurd (true≢false (sym e))
assigned_within spec (x ∷ xs) [] scope a e within = absurd (true≢false (sym e))
assigned_within spec (x ∷ xs) (v ∷ vs) scope a e within =
    let q = and_parts (contains (carrier_of spec x.sort) v) (is_within (carriers_of spec xs) vs) e in
    assigned_within spec xs vs (declare x.name (sort_shape spec x.sort) scope) ((x.name, v) ∷ a) q.1
    (within_declared a scope x.name (sort_shape spec x.sort) v (sort_value spec x.sort v q.0) within)

nothing_within : IsWithinScope [] outermost
nothing_within = λ x. tt

right_fits : (spec : Spec) (X : Equation) → IsProper spec true (parameter_scope spec X) X.right → RightFits spec X
right_fits spec X h = λ vs e. formula_fits spec true (parameter_scope spec X) (assigned X.parameters vs []) X.right (assigned_within spec X.parameters vs outermost [] e nothing_within) h

rights_fit : (spec : Spec) (E : List Equation) → AreProper spec E → All (RightFits spec) E
rights_fit spec [] h k d below = absurd (omega (arith, below))
rights_fit spec (X ∷ E) h zero d below = right_fits spec X h.0
rights_fit spec (X ∷ E) h (suc k) d below = rights_fit spec E h.1 k d (omega arith)

pub spec_fits : (spec : Spec) → IsWellTyped spec → SpecFits spec
spec_fits spec h = record {
  rights = rights_fit spec spec.equations h.rights;
  initial = all_fit spec outermost [] spec.arguments nothing_within (called_typed spec outermost spec.arguments (equation_named spec.equations spec.initial) h.initial.1);
}

positive : (spec : Spec) (even : Bool) (scope : Scope) (f : Formula) → IsProper spec even scope f → IsPositive even f
positive spec even scope (Formula.Truth b) h = tt
positive spec even scope (Formula.Val x) h = tt
positive spec even scope (Formula.Not f) h = positive spec (not even) scope f h
positive spec even scope (Formula.And f g) h = (positive spec even scope f h.0, positive spec even scope g h.1)
positive spec even scope (Formula.Or f g) h = (positive spec even scope f h.0, positive spec even scope g h.1)
positive spec even scope (Formula.Implies f g) h = (positive spec (not even) scope f h.0, positive spec even scope g h.1)
positive spec even scope (Formula.Quantified q xs f) h = positive spec even (bound spec xs scope) f h.1
positive spec even scope (Formula.Call x es) h = h.0

rights_positive : (spec : Spec) (E : List Equation) → AreProper spec E → ArePositive E
rights_positive spec [] h = tt
rights_positive spec (X ∷ E) h = (positive spec true (parameter_scope spec X) X.right h.0, rights_positive spec E h.1)

pub spec_positive : (spec : Spec) → IsWellTyped spec → ArePositive spec.equations
spec_positive spec h = rights_positive spec spec.equations h.rights
