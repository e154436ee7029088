-- A flat model as a protocol: no array, no definition, no quantified formula, no counting.
use Rattle.std.specs.Prelude.{◌≡◌, true, false, ⊤, List, [], ◌∷◌, map}
use Rattle.pb_text_meaning.specs.Syntax.{Variable, Term, Terms}
use Rattle.pb_text_counting.specs.Counting.{is_counting}
use Rattle.pb_model_meaning.specs.Syntax as flat
use Rattle.pb_model_meaning.specs.Steps as flat_steps
use Rattle.pb_model_meaning.specs.Steps.{State}
use Rattle.pb_model_meaning.specs.Satisfaction as flat_satisfaction
use Rattle.pb_protocol_folding.specs.Names.{AreDistinct, names_of, AssignOnce}
use Rattle.pb_protocol_meaning.specs.Syntax.{StateVariable, Assignment, Step, StepSet, Formula}
use Rattle.pb_protocol_meaning.specs.Syntax.{Property, Protocol}
use Rattle.pb_protocol_meaning.specs.Steps.{initial_state, is_state, successors}
use Rattle.pb_protocol_meaning.specs.Satisfaction.{satisfies}

abbrev pub plain_variable : Variable → StateVariable
plain_variable x = record { name = x.name; indices = []; sort = x.sort }

abbrev pub plain_assignment : flat.Assignment → Assignment
plain_assignment a = record {
  variables = [];
  variable = a.variable;
  index = Terms.NoTerms;
  term = a.term;
}

abbrev pub plain_step : flat.Step → Step
plain_step a = record {
  name = a.name;
  variables = a.variables;
  guard = a.guard;
  assignments = map plain_assignment a.assignments;
}

abbrev pub plain_set : flat.StepSet → StepSet
plain_set flat.StepSet.All = StepSet.All
plain_set (flat.StepSet.Only x) = StepSet.Only x
plain_set (flat.StepSet.Complement A) = StepSet.Complement (plain_set A)
plain_set (flat.StepSet.Union A B) = StepSet.Union (plain_set A) (plain_set B)

abbrev pub plain_formula : flat.Formula → Formula
plain_formula (flat.Formula.Truth b) = Formula.Truth b
plain_formula (flat.Formula.Data x) = Formula.Data x
plain_formula (flat.Formula.Named X) = Formula.Named X
plain_formula (flat.Formula.Not f) = Formula.Not (plain_formula f)
plain_formula (flat.Formula.And f g) = Formula.And (plain_formula f) (plain_formula g)
plain_formula (flat.Formula.Or f g) = Formula.Or (plain_formula f) (plain_formula g)
plain_formula (flat.Formula.Implies f g) = Formula.Implies (plain_formula f) (plain_formula g)
plain_formula (flat.Formula.Box A f) = Formula.Box (plain_set A) (plain_formula f)
plain_formula (flat.Formula.Diamond A f) = Formula.Diamond (plain_set A) (plain_formula f)
plain_formula (flat.Formula.Fixpoint sign X f) = Formula.Fixpoint sign X (plain_formula f)

abbrev pub plain_property : flat.Property → Property
plain_property p = record { name = p.name; formula = plain_formula p.formula }

abbrev pub plain : flat.Model → Protocol
plain m = record {
  sorts = m.sorts;
  ranges = m.ranges;
  variables = map plain_variable m.variables;
  definitions = [];
  steps = map plain_step m.steps;
  initial = m.initial;
  properties = map plain_property m.properties;
}

-- ---- laws

-- a term for each variable
abbrev pub AreAsMany : List Variable → Terms → Type 0
AreAsMany [] Terms.NoTerms = ⊤
AreAsMany (x ∷ xs) (Terms.Then t ts) = AreAsMany xs ts
AreAsMany [] (Terms.Then t ts) = ⊥
AreAsMany (x ∷ xs) Terms.NoTerms = ⊥

-- no counting stands in a term: no application of the word that counting is one of
abbrev mutual
  pub CountsNothing : Term → Type 0
  CountsNothing (Term.Truth b) = ⊤
  CountsNothing (Term.Number n) = ⊤
  CountsNothing (Term.Named x) = ⊤
  CountsNothing (Term.Not x) = CountsNothing x
  CountsNothing (Term.Negative x) = CountsNothing x
  CountsNothing (Term.Binary o x y) = CountsNothing x × CountsNothing y
  CountsNothing (Term.Apply f xs) = (is_counting f ≡ false) × CountNothing xs
  CountsNothing (Term.Quantified q xs x) = CountsNothing x

  pub CountNothing : Terms → Type 0
  CountNothing Terms.NoTerms = ⊤
  CountNothing (Terms.Then x xs) = CountsNothing x × CountNothing xs

abbrev pub AssignmentsCountNothing : List flat.Assignment → Type 0
AssignmentsCountNothing [] = ⊤
AssignmentsCountNothing (a ∷ list) = CountsNothing a.term × AssignmentsCountNothing list

abbrev pub StepsCountNothing : List flat.Step → Type 0
StepsCountNothing [] = ⊤
StepsCountNothing (a ∷ steps) =
    (CountsNothing a.guard × AssignmentsCountNothing a.assignments) × StepsCountNothing steps

abbrev pub FormulaCountsNothing : flat.Formula → Type 0
FormulaCountsNothing (flat.Formula.Truth b) = ⊤
FormulaCountsNothing (flat.Formula.Data x) = CountsNothing x
FormulaCountsNothing (flat.Formula.Named X) = ⊤
FormulaCountsNothing (flat.Formula.Not f) = FormulaCountsNothing f
FormulaCountsNothing (flat.Formula.And f g) = FormulaCountsNothing f × FormulaCountsNothing g
FormulaCountsNothing (flat.Formula.Or f g) = FormulaCountsNothing f × FormulaCountsNothing g
FormulaCountsNothing (flat.Formula.Implies f g) = FormulaCountsNothing f × FormulaCountsNothing g
FormulaCountsNothing (flat.Formula.Box A f) = FormulaCountsNothing f
FormulaCountsNothing (flat.Formula.Diamond A f) = FormulaCountsNothing f
FormulaCountsNothing (flat.Formula.Fixpoint sign X f) = FormulaCountsNothing f

abbrev pub PropertiesCountNothing : List flat.Property → Type 0
PropertiesCountNothing [] = ⊤
PropertiesCountNothing (p ∷ list) = FormulaCountsNothing p.formula × PropertiesCountNothing list

-- no step, no initial term and no property counts
pub record ModelCountsNothing (m : flat.Model) : Type 0 where
  pub steps : StepsCountNothing m.steps
  pub initial : CountNothing m.initial
  pub properties : PropertiesCountNothing m.properties

-- the names of variables are apart, no step assigns one twice, each variable has an initial term,
-- and no step and no initial term counts
pub record IsPlain (m : flat.Model) : Type 0 where
  pub variables : AreDistinct (names_of m.variables)
  pub assignments : AssignOnce m.steps
  pub initial : AreAsMany m.variables m.initial
  pub steps_count_nothing : StepsCountNothing m.steps
  pub initial_counts_nothing : CountNothing m.initial

-- what a flat model means is what it means as a protocol
abbrev pub PlainModelsKeepTheirMeaning : Type 0
PlainModelsKeepTheirMeaning =
    (m : flat.Model) → IsPlain m →
    (initial_state (plain m) ≡ flat_steps.initial_state m) ×
    ((s : State) → is_state (plain m) s ≡ flat_steps.is_state m s) ×
    ((A : flat.StepSet) (s : State) → flat_steps.is_state m s ≡ true →
    successors (plain m) [] (plain_set A) s ≡ flat_steps.successors m A s) ×
    ((f : flat.Formula) → FormulaCountsNothing f →
    satisfies (plain m) (plain_formula f) ≡ flat_satisfaction.satisfies m f)
