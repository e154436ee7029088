-- What a text of a Boolean equation system says, without its places: the abstract syntax.
use Rattle.std.specs.Prelude.{ℕ, ℤ, Option, List, Bool, bytes_eq}
use Rattle.pb_fixpoint.specs.declared.Sign.{Sign}
use Rattle.pb_text_tree.specs.declared.operator.Quantifier.{Quantifier}

-- a name, by its bytes
abbrev pub Name : Type 0
Name = List ℕ

abbrev pub same_name : Name → Name → Bool
same_name = bytes_eq

-- a data variable, with the name of its sort
pub record Variable : Type 0 where
  pub name : Name
  pub sort : Name

-- an operator of two Booleans, a comparison, or one of two whole numbers
pub data Operator : Type 0 where
  And Or Implies : Operator
  Equal NotEqual Less LessEqual Greater GreaterEqual : Operator
  Plus Minus Times Div Mod : Operator

-- a data term; its name is a variable's or an enumerator's
mutual
  pub data Term : Type 0 where
    Truth : Bool → Term
    Number : ℕ → Term
    Named : Name → Term
    Not : Term → Term
    Negative : Term → Term
    Binary : Operator → Term → Term → Term
    Apply : Name → Terms → Term
    Quantified : Quantifier → List Variable → Term → Term

  pub data Terms : Type 0 where
    NoTerms : Terms
    Then : Term → Terms → Terms

-- a formula; Call is an instance of a predicate variable
pub data Formula : Type 0 where
  Truth : Bool → Formula
  Val : Term → Formula
  Not : Formula → Formula
  And Or Implies : Formula → Formula → Formula
  Quantified : Quantifier → List Variable → Formula → Formula
  Call : Name → Terms → Formula

-- an enumerator, with the name of its recogniser if it has one
pub record Enumerator : Type 0 where
  pub name : Name
  pub recogniser : Option Name

pub data Sort : Type 0 where
  Struct : List Enumerator → Sort
  Alias : Name → Sort

pub record SortDeclaration : Type 0 where
  pub name : Name
  pub sort : Sort

-- the carrier of an integer sort, both bounds within it
pub record Range : Type 0 where
  pub name : Name
  pub low : ℤ
  pub high : ℤ

pub record Equation : Type 0 where
  pub sign : Sign
  pub name : Name
  pub parameters : List Variable
  pub right : Formula

pub record Spec : Type 0 where
  pub sorts : List SortDeclaration
  pub ranges : List Range
  pub equations : List Equation
  pub initial : Name
  pub arguments : Terms
