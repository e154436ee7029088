-- When other ranges make a model a wider one: they widen sorts of state variables over which
-- nothing quantifies.
use Rattle.std.specs.Prelude.{◌≡◌, true, List, [], ◌∷◌, ⊤}
use Rattle.pb_base_values.specs.Carrier.{Value, Carrier, contains}
use Rattle.pb_text_meaning.specs.Syntax.{Variable, Term, Terms, Range, Spec}
use Rattle.pb_text_meaning.specs.Sorts.{carrier_of}
use Rattle.pb_model_meaning.specs.Syntax.{Assignment, Step, Formula, Model}
use Rattle.pb_model_meaning.specs.Steps.{data_of}
use Rattle.pb_model_wider_ranges.specs.Wider.{EachTest, IsWider}

-- a model with other ranges
abbrev pub with_ranges : List Range → Model → Model
with_ranges ranges m = record m { ranges = ranges }

-- ---- d and e are the data of a model with its own ranges and with others

abbrev pub IsContained : Carrier → Carrier → Type 0
IsContained c b = (v : Value) → contains c v ≡ true → contains b v ≡ true

-- each variable has the values that it had, and maybe more
abbrev pub AreContained : Spec → Spec → List Variable → Type 0
AreContained d e [] = ⊤
AreContained d e (x ∷ xs) =
    IsContained (carrier_of d x.sort) (carrier_of e x.sort) × AreContained d e xs

-- each variable has just the values that it had
abbrev pub AreUnchanged : Spec → Spec → List Variable → Type 0
AreUnchanged d e [] = ⊤
AreUnchanged d e (x ∷ xs) = (carrier_of e x.sort ≡ carrier_of d x.sort) × AreUnchanged d e xs

-- so have the variables of the quantifiers in a term
abbrev mutual
  pub IsUnchanged : Spec → Spec → Term → Type 0
  IsUnchanged d e (Term.Truth b) = ⊤
  IsUnchanged d e (Term.Number n) = ⊤
  IsUnchanged d e (Term.Named x) = ⊤
  IsUnchanged d e (Term.Not x) = IsUnchanged d e x
  IsUnchanged d e (Term.Negative x) = IsUnchanged d e x
  IsUnchanged d e (Term.Binary o x y) = IsUnchanged d e x × IsUnchanged d e y
  IsUnchanged d e (Term.Apply f xs) = IsEachUnchanged d e xs
  IsUnchanged d e (Term.Quantified q xs x) = AreUnchanged d e xs × IsUnchanged d e x

  pub IsEachUnchanged : Spec → Spec → Terms → Type 0
  IsEachUnchanged d e Terms.NoTerms = ⊤
  IsEachUnchanged d e (Terms.Then x xs) = IsUnchanged d e x × IsEachUnchanged d e xs

abbrev pub AreAssignmentsUnchanged : Spec → Spec → List Assignment → Type 0
AreAssignmentsUnchanged d e [] = ⊤
AreAssignmentsUnchanged d e (a ∷ assignments) =
    IsUnchanged d e a.term × AreAssignmentsUnchanged d e assignments

-- and the variables of a step's own
pub record IsStepUnchanged (d e : Spec) (a : Step) : Type 0 where
  pub variables : AreUnchanged d e a.variables
  pub guard : IsUnchanged d e a.guard
  pub assignments : AreAssignmentsUnchanged d e a.assignments

abbrev pub AreStepsUnchanged : Spec → Spec → List Step → Type 0
AreStepsUnchanged d e [] = ⊤
AreStepsUnchanged d e (a ∷ steps) = IsStepUnchanged d e a × AreStepsUnchanged d e steps

-- Other ranges widen those of the state variables alone: a variable of a quantifier or of a step's
-- own has the values that it had, in the model and in the tests of f.
pub record WidensStates (d e : Spec) (m : Model) (f : Formula) : Type 0 where
  pub variables : AreContained d e m.variables
  pub initial : IsEachUnchanged d e m.initial
  pub steps : AreStepsUnchanged d e m.steps
  pub tests : EachTest (IsUnchanged d e) f

-- then the model is wider
abbrev pub WiderRangesMakeWider : Type 0
WiderRangesMakeWider =
    (m : Model) (ranges : List Range) (f : Formula) →
    WidensStates (data_of m) (data_of (with_ranges ranges m)) m f →
    IsWider m (with_ranges ranges m) f
