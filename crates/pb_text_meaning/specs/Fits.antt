-- Terms and formulas that fit: under an assignment each value on the way is within 2^62, and each
-- divisor at least 1.
use Rattle.std.specs.Prelude.{◌≡◌, ◌^◌, pos, neg_ℤ, ◌≤ℤ◌, true, ⊤, All, List, [], ◌∷◌}
use Rattle.pb_base_values.specs.Carrier.{Value, Tuple, contains, is_within}
use Rattle.pb_text_meaning.specs.Syntax.{Variable, Operator, Term, Terms, Formula, Equation, Spec}
use Rattle.pb_text_meaning.specs.Sorts.{carrier_of}
use Rattle.pb_text_meaning.specs.Value.{Assignment, value}
use Rattle.pb_text_meaning.specs.Formula.{carriers_of}
use Rattle.pb_text_meaning.specs.Meaning.{assigned}

-- a value within 2^62
pub record IsBounded (v : Value) : Type 0 where
  pub low : neg_ℤ (pos (2 ^ 62)) ≤ℤ v
  pub high : v ≤ℤ pos (2 ^ 62)

-- a divisor is at least 1
abbrev pub DivisorFits : Operator → Value → Type 0
DivisorFits Operator.Div y = pos 1 ≤ℤ y
DivisorFits Operator.Mod y = pos 1 ≤ℤ y
DivisorFits _ y = ⊤

-- for all values of the first variable, all of the next, and so on
abbrev pub FitsFor : Spec → List Variable → (Assignment → Type 0) → Assignment → Type 0
FitsFor spec [] P a = P a
FitsFor spec (x ∷ xs) P a =
    (v : Value) → contains (carrier_of spec x.sort) v ≡ true → FitsFor spec xs P ((x.name, v) ∷ a)

abbrev mutual
  pub Fits : Spec → Assignment → Term → Type 0
  Fits spec a (Term.Truth b) = ⊤
  Fits spec a (Term.Number n) = IsBounded (pos n)
  Fits spec a (Term.Named x) = IsBounded (value spec a (Term.Named x))
  Fits spec a (Term.Not x) = Fits spec a x
  Fits spec a (Term.Negative x) = Fits spec a x × IsBounded (value spec a (Term.Negative x))
  Fits spec a (Term.Binary o x y) =
      Fits spec a x × Fits spec a y × DivisorFits o (value spec a y)
      × IsBounded (value spec a (Term.Binary o x y))
  Fits spec a (Term.Apply f xs) = AllFit spec a xs × IsBounded (value spec a (Term.Apply f xs))
  Fits spec a (Term.Quantified q xs x) = FitsFor spec xs (λ b. Fits spec b x) a

  pub AllFit : Spec → Assignment → Terms → Type 0
  AllFit spec a Terms.NoTerms = ⊤
  AllFit spec a (Terms.Then x xs) = Fits spec a x × AllFit spec a xs

-- each data term of a formula fits
abbrev pub FormulaFits : Spec → Assignment → Formula → Type 0
FormulaFits spec a (Formula.Truth b) = ⊤
FormulaFits spec a (Formula.Val x) = Fits spec a x
FormulaFits spec a (Formula.Not f) = FormulaFits spec a f
FormulaFits spec a (Formula.And f g) = FormulaFits spec a f × FormulaFits spec a g
FormulaFits spec a (Formula.Or f g) = FormulaFits spec a f × FormulaFits spec a g
FormulaFits spec a (Formula.Implies f g) = FormulaFits spec a f × FormulaFits spec a g
FormulaFits spec a (Formula.Quantified q xs f) = FitsFor spec xs (λ b. FormulaFits spec b f) a
FormulaFits spec a (Formula.Call x es) = AllFit spec a es

-- the right side of an equation fits at each tuple of its parameters' carriers
abbrev pub RightFits : Spec → Equation → Type 0
RightFits spec X =
    (vs : Tuple) → is_within (carriers_of spec X.parameters) vs ≡ true
    → FormulaFits spec (assigned X.parameters vs []) X.right

-- each right side fits, and so do the arguments of the initial instance
pub record SpecFits (spec : Spec) : Type 0 where
  pub rights : All (RightFits spec) spec.equations
  pub initial : AllFit spec [] spec.arguments
