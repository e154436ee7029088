-- When other ranges make a protocol a wider one, and what a verdict says of it then: the sorts of
-- elements and of variables may grow, those of indices and all over which something quantifies have
-- the values that they had.
use Rattle.std.specs.Prelude.{◌≡◌, true, false, List, [], ◌∷◌, Option, Some, None, ⊤}
use Rattle.pb_text_meaning.specs.Syntax.{Term, Range, Spec}
use Rattle.pb_text_meaning.specs.Sorts.{carrier_of}
use Rattle.pb_model_wider_ranges.specs.Ranges.{IsContained, AreUnchanged, IsUnchanged}
use Rattle.pb_model_wider_ranges.specs.Ranges.{IsEachUnchanged}
use Rattle.pb_protocol_meaning.specs.Syntax.{StateVariable, Definition, Assignment, Step, StepSet}
use Rattle.pb_protocol_meaning.specs.Syntax.{Formula, Protocol}
use Rattle.pb_protocol_meaning.specs.Steps.{data_of}
use Rattle.pb_protocol_unfolding.specs.Positive.{HasPositiveCalls}
use Rattle.pb_protocol_negation.specs.Verdict.{holds, fails}

-- a protocol with other ranges
abbrev pub in_ranges : List Range → Protocol → Protocol
in_ranges ranges m = record m { ranges = ranges }

-- ---- d and e are the data of a protocol with its own ranges and with others

-- elements have the values that they had, and maybe more, at the indices that there were
abbrev pub AreElementsContained : Spec → Spec → List StateVariable → Type 0
AreElementsContained d e [] = ⊤
AreElementsContained d e (y ∷ ys) =
    AreUnchanged d e y.indices × IsContained (carrier_of d y.sort) (carrier_of e y.sort)
    × AreElementsContained d e ys

-- the variables of quantifiers have the values that they had: in definitions
abbrev pub AreDefinitionsUnchanged : Spec → Spec → List Definition → Type 0
AreDefinitionsUnchanged d e [] = ⊤
AreDefinitionsUnchanged d e (x ∷ definitions) =
    IsUnchanged d e x.term × AreDefinitionsUnchanged d e definitions

-- in what is assigned, where, and for all of which values
abbrev pub AreAssignmentsKept : Spec → Spec → List Assignment → Type 0
AreAssignmentsKept d e [] = ⊤
AreAssignmentsKept d e (a ∷ assignments) =
    AreUnchanged d e a.variables × IsEachUnchanged d e a.index × IsUnchanged d e a.term
    × AreAssignmentsKept d e assignments

-- in steps, whose own variables have the values that they had
pub record IsStepKept (d e : Spec) (a : Step) : Type 0 where
  pub variables : AreUnchanged d e a.variables
  pub guard : IsUnchanged d e a.guard
  pub assignments : AreAssignmentsKept d e a.assignments

abbrev pub AreStepsKept : Spec → Spec → List Step → Type 0
AreStepsKept d e [] = ⊤
AreStepsKept d e (a ∷ steps) = IsStepKept d e a × AreStepsKept d e steps

-- in the values by which a set names steps
abbrev pub AreNamedValuesKept : Spec → Spec → List (Option Term) → Type 0
AreNamedValuesKept d e [] = ⊤
AreNamedValuesKept d e (Some x ∷ xs) = IsUnchanged d e x × AreNamedValuesKept d e xs
AreNamedValuesKept d e (None ∷ xs) = AreNamedValuesKept d e xs

abbrev pub IsSetKept : Spec → Spec → StepSet → Type 0
IsSetKept d e StepSet.All = ⊤
IsSetKept d e (StepSet.Only x) = ⊤
IsSetKept d e (StepSet.With x xs) = AreNamedValuesKept d e xs
IsSetKept d e (StepSet.Complement A) = IsSetKept d e A
IsSetKept d e (StepSet.Union A B) = IsSetKept d e A × IsSetKept d e B

-- and in formulas
abbrev pub IsFormulaKept : Spec → Spec → Formula → Type 0
IsFormulaKept d e (Formula.Truth b) = ⊤
IsFormulaKept d e (Formula.Data x) = IsUnchanged d e x
IsFormulaKept d e (Formula.Named X) = ⊤
IsFormulaKept d e (Formula.Not f) = IsFormulaKept d e f
IsFormulaKept d e (Formula.And f g) = IsFormulaKept d e f × IsFormulaKept d e g
IsFormulaKept d e (Formula.Or f g) = IsFormulaKept d e f × IsFormulaKept d e g
IsFormulaKept d e (Formula.Implies f g) = IsFormulaKept d e f × IsFormulaKept d e g
IsFormulaKept d e (Formula.Box A f) = IsSetKept d e A × IsFormulaKept d e f
IsFormulaKept d e (Formula.Diamond A f) = IsSetKept d e A × IsFormulaKept d e f
IsFormulaKept d e (Formula.Fixpoint sign X f) = IsFormulaKept d e f
IsFormulaKept d e (Formula.Quantified q xs f) = AreUnchanged d e xs × IsFormulaKept d e f

-- other ranges widen those of elements and variables alone, in the protocol and in f
pub record WidensElements (d e : Spec) (m : Protocol) (f : Formula) : Type 0 where
  pub variables : AreElementsContained d e m.variables
  pub definitions : AreDefinitionsUnchanged d e m.definitions
  pub steps : AreStepsKept d e m.steps
  pub initial : IsEachUnchanged d e m.initial
  pub formula : IsFormulaKept d e f

-- ---- laws

-- a property that is satisfied stays so
abbrev pub HoldsInWiderRanges : Type 0
HoldsInWiderRanges =
    (m : Protocol) (ranges : List Range) (f : Formula) →
    WidensElements (data_of m) (data_of (in_ranges ranges m)) m f → HasPositiveCalls true f →
    holds m f ≡ true → holds (in_ranges ranges m) f ≡ true

-- and one whose negation is satisfied is satisfied in no wider ranges
abbrev pub FailsInAllWiderRanges : Type 0
FailsInAllWiderRanges =
    (m : Protocol) (ranges : List Range) (f : Formula) →
    WidensElements (data_of m) (data_of (in_ranges ranges m)) m f → HasPositiveCalls true f →
    fails m f ≡ true →
    (fails (in_ranges ranges m) f ≡ true) × (holds (in_ranges ranges m) f ≡ false)
