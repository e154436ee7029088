-- What the text of a protocol says, without its places: the abstract syntax of a model as it is
-- written, with arrays, definitions, quantified formulas and steps by their values. A data term is
-- one of texts; `count xs . p` is the reserved word `exists` applied to `exists xs . p`.
use Rattle.std.specs.Prelude.{Bool, List, Option}
use Rattle.pb_fixpoint.specs.declared.Sign.{Sign}
use Rattle.pb_text_tree.specs.declared.operator.Quantifier.{Quantifier}
use Rattle.pb_text_meaning.specs.Syntax.{Name, Variable, Term, Terms, SortDeclaration, Range}

-- a variable for each tuple of values of its indices; of one without indices there is one
pub record StateVariable : Type 0 where
  pub name : Name
  pub indices : List Variable
  pub sort : Name

-- a name for a term over the state and its parameters
pub record Definition : Type 0 where
  pub name : Name
  pub parameters : List Variable
  pub term : Term

-- forall i: S, .. . x(t, ..) := e: one for each tuple of values of the variables; without variables
-- there is one
pub record Assignment : Type 0 where
  pub variables : List Variable
  pub variable : Name
  pub index : Terms
  pub term : Term

pub record Step : Type 0 where
  pub name : Name
  pub variables : List Variable
  pub guard : Term
  pub assignments : List Assignment

-- a set of steps; With has a term for each of the step's own variables, or none for any value
pub data StepSet : Type 0 where
  All : StepSet
  Only : Name → StepSet
  With : Name → List (Option Term) → StepSet
  Complement : StepSet → StepSet
  Union : StepSet → StepSet → StepSet

-- a formula of the modal mu-calculus
pub data Formula : Type 0 where
  Truth : Bool → Formula
  Data : Term → Formula
  Named : Name → Formula
  Not : Formula → Formula
  And Or Implies : Formula → Formula → Formula
  Box Diamond : StepSet → Formula → Formula
  Fixpoint : Sign → Name → Formula → Formula
  Quantified : Quantifier → List Variable → Formula → Formula

pub record Property : Type 0 where
  pub name : Name
  pub formula : Formula

-- a term of `initial` stands for each element of its variable
pub record Protocol : Type 0 where
  pub sorts : List SortDeclaration
  pub ranges : List Range
  pub variables : List StateVariable
  pub definitions : List Definition
  pub steps : List Step
  pub initial : Terms
  pub properties : List Property
