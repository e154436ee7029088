-- What the text of a model says, without its places: the abstract syntax.
use Rattle.std.specs.Prelude.{Bool, List}
use Rattle.pb_fixpoint.specs.declared.Sign.{Sign}
use Rattle.pb_text_meaning.specs.Syntax.{Name, Variable, Term, Terms, SortDeclaration, Range}

-- a state variable, and the term whose value in the old state it gets
pub record Assignment : Type 0 where
  pub variable : Name
  pub term : Term

-- a step, for values of its own variables at which the guard is true
pub record Step : Type 0 where
  pub name : Name
  pub variables : List Variable
  pub guard : Term
  pub assignments : List Assignment

-- a set of steps, by their names
pub data StepSet : Type 0 where
  All : StepSet
  Only : Name → StepSet
  Complement : StepSet → StepSet
  Union : StepSet → StepSet → StepSet

-- a formula of the modal mu-calculus; Named is the variable of a fixpoint around it
pub data Formula : Type 0 where
  Truth : Bool → Formula
  Data : Term → Formula
  Named : Name → Formula
  Not : Formula → Formula
  And Or Implies : Formula → Formula → Formula
  Box Diamond : StepSet → Formula → Formula
  Fixpoint : Sign → Name → Formula → Formula

pub record Property : Type 0 where
  pub name : Name
  pub formula : Formula

pub record Model : Type 0 where
  pub sorts : List SortDeclaration
  pub ranges : List Range
  pub variables : List Variable
  pub steps : List Step
  pub initial : Terms
  pub properties : List Property
