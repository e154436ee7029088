-- The value of a well-typed term is one of the term's shape, and each value on the way is within the limits.
use Rattle.std.proofs.Common.{Bool, true, false, List, [], ◌∷◌, arith, pos, Option, Some, None}
use Rattle.std.proofs.lemmas.Int.{ints}
use Rattle.pb_base_values.specs.Interval.{singleton}
use Rattle.pb_base_values.specs.Operation.{Negation}
use Rattle.pb_text_meaning.specs.Syntax.{Variable, Term, Terms, Formula, Equation, Spec}
use Rattle.pb_text_meaning.specs.Value.{Assignment, value, values}
use Rattle.pb_text_meaning.specs.Formula.{equation_named}
use Rattle.pb_text_meaning.specs.Fits.{Fits, AllFit, FormulaFits}
use Rattle.pb_typing_rules.specs.Shapes.{kind_of}
use Rattle.pb_typing_rules.specs.Scope.{Scope, bound, IsWithinScope}
use Rattle.pb_typing_rules.specs.Term.{shape, shapes, IsTyped, AreTyped, passes}
use Rattle.pb_typing_rules.specs.Formula.{AreArguments, IsCalled, IsProper}
use Rattle.pb_typing_rules.proofs.Values.{Contained, bounded_in, truth_value, whole_value}
use Rattle.pb_typing_rules.proofs.Names.{name_contained, for_variables}
use Rattle.pb_typing_rules.proofs.Operations.{unary_contained, operation_contained, divisor_contained}
use Rattle.pb_typing_rules.proofs.Functions.{AreContained, function_contained}

mutual
  pub contained : (spec : Spec) (stands : Bool) (scope : Scope) (a : Assignment) (x : Term) → IsWithinScope a scope → IsTyped spec stands scope x → Contained (shape spec scope x) (value spec a x)
  contained spec stands scope a (Term.Truth b) within h = truth_value b
  contained spec stands scope a (Term.Number n) within h = whole_value (singleton (pos n)) (pos n) h (omega (arith, ints), omega (arith, ints))
  contained spec stands scope a (Term.Named x) within h = name_contained spec scope a x within h
  contained spec stands scope a (Term.Not x) within h = truth_value _
  contained spec stands scope a (Term.Negative x) within h =
      unary_contained Negation (shape spec scope x) (value spec a x) h.1 h.2 (contained spec false scope a x within h.0).value
  contained spec stands scope a (Term.Binary o x y) within h =
      operation_contained o (shape spec scope x) (shape spec scope y) (value spec a x) (value spec a y) h.2
      (contained spec (passes (kind_of o) stands) scope a x within h.0).value
      (contained spec (passes (kind_of o) stands) scope a y within h.1).value
  contained spec stands scope a (Term.Apply f xs) within h =
      function_contained spec f (shapes spec scope xs) (values spec a xs) h.1 (all_contained spec scope a xs within h.0)
  contained spec stands scope a (Term.Quantified q xs x) within h = truth_value _

  pub all_contained : (spec : Spec) (scope : Scope) (a : Assignment) (xs : Terms) → IsWithinScope a scope → AreTyped spec scope xs → AreContained (shapes spec scope xs) (values spec a xs)
  all_contained spec scope a Terms.NoTerms within h = tt
  all_contained spec scope a (Terms.Then x xs) within h = (contained spec false scope a x within h.0, all_contained spec scope a xs within h.1)

mutual
  pub fits : (spec : Spec) (stands : Bool) (scope : Scope) (a : Assignment) (x : Term) → IsWithinScope a scope → IsTyped spec stands scope x → Fits spec a x
  fits spec stands scope a (Term.Truth b) within h = tt
  fits spec stands scope a (Term.Number n) within h = bounded_in (singleton (pos n)) (pos n) h (omega (arith, ints), omega (arith, ints))
  fits spec stands scope a (Term.Named x) within h = (name_contained spec scope a x within h).bounded
  fits spec stands scope a (Term.Not x) within h = fits spec stands scope a x within h.0
  fits spec stands scope a (Term.Negative x) within h =
      (fits spec false scope a x within h.0, (contained spec stands scope a (Term.Negative x) within h).bounded)
  fits spec stands scope a (Term.Binary o x y) within h = (
    fits spec (passes (kind_of o) stands) scope a x within h.0,
    fits spec (passes (kind_of o) stands) scope a y within h.1,
    divisor_contained o (shape spec scope x) (shape spec scope y) (value spec a y) h.2 (contained spec (passes (kind_of o) stands) scope a y within h.1).value,
    (contained spec stands scope a (Term.Binary o x y) within h).bounded,
  )
  fits spec stands scope a (Term.Apply f xs) within h =
      (all_fit spec scope a xs within h.0, (contained spec stands scope a (Term.Apply f xs) within h).bounded)
  fits spec stands scope a (Term.Quantified q xs x) within h =
      for_variables spec xs scope a (λ b. Fits spec b x) within (λ b inner. fits spec stands (bound spec xs scope) b x inner h.2)

  pub all_fit : (spec : Spec) (scope : Scope) (a : Assignment) (xs : Terms) → IsWithinScope a scope → AreTyped spec scope xs → AllFit spec a xs
  all_fit spec scope a Terms.NoTerms within h = tt
  all_fit spec scope a (Terms.Then x xs) within h = (fits spec false scope a x within h.0, all_fit spec scope a xs within h.1)

-- ---- formulas

pub arguments_typed : (spec : Spec) (scope : Scope) (es : Terms) (xs : List Variable) → AreArguments spec scope es xs → AreTyped spec scope es
arguments_typed spec scope Terms.NoTerms xs h = tt
arguments_typed spec scope (Terms.Then e es) [] h = (h.0, arguments_typed spec scope es [] h.1)
arguments_typed spec scope (Terms.Then e es) (x ∷ xs) h = (h.0, arguments_typed spec scope es xs h.2)

pub called_typed : (spec : Spec) (scope : Scope) (es : Terms) (X : Option Equation) → IsCalled spec scope es X → AreTyped spec scope es
called_typed spec scope es None h = absurd h
called_typed spec scope es (Some X) h = arguments_typed spec scope es X.parameters h.1

pub formula_fits : (spec : Spec) (even : Bool) (scope : Scope) (a : Assignment) (f : Formula) → IsWithinScope a scope → IsProper spec even scope f → FormulaFits spec a f
formula_fits spec even scope a (Formula.Truth b) within h = tt
formula_fits spec even scope a (Formula.Val x) within h = fits spec true scope a x within h.0
formula_fits spec even scope a (Formula.Not f) within h = formula_fits spec _ scope a f within h
formula_fits spec even scope a (Formula.And f g) within h = (formula_fits spec even scope a f within h.0, formula_fits spec even scope a g within h.1)
formula_fits spec even scope a (Formula.Or f g) within h = (formula_fits spec even scope a f within h.0, formula_fits spec even scope a g within h.1)
formula_fits spec even scope a (Formula.Implies f g) within h = (formula_fits spec _ scope a f within h.0, formula_fits spec even scope a g within h.1)
formula_fits spec even scope a (Formula.Quantified q xs f) within h =
    for_variables spec xs scope a (λ b. FormulaFits spec b f) within (λ b inner. formula_fits spec even (bound spec xs scope) b f inner h.1)
formula_fits spec even scope a (Formula.Call x es) within h = all_fit spec scope a es within (called_typed spec scope es (equation_named spec.equations x) h.1)
