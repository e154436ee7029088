-- What of a protocol has words: each name is one of the grammar, each number within its limit, and
-- no list of variables is empty that can't be. So what it becomes can be written. Counting is an
-- application of a reserved word: what is counted has words.
use Rattle.std.specs.Prelude.{◌≡◌, ◌≤◌, ◌⊎◌, true}
use Rattle.pb_text_lexer.specs.Lexing.{largest_number}
use Rattle.pb_text_meaning.specs.Syntax.{Term, Terms}
use Rattle.pb_text_printer.specs.Sayable.{Each, EachOf}
use Rattle.pb_text_counting.specs.Counting.{is_counting}
use Rattle.pb_protocol_tree.specs.Form.{ConstantForm, BoundsForm, ModelTextForm}
use Rattle.pb_protocol_meaning.specs.Erase.{erase}
use Rattle.pb_protocol_meaning.specs.Syntax.{StateVariable, Definition, Assignment, Step, Formula}
use Rattle.pb_protocol_meaning.specs.Syntax.{Property, Protocol}
use Rattle.pb_model_spelling.specs.Writable.{IsWord, VariableWritable}
use Rattle.pb_model_spelling.specs.Writable.{DeclarationWritable, RangeWritable}

-- ---- data terms

abbrev mutual
  pub DataWritable : Term → Type 0
  DataWritable (Term.Truth b) = Unit {0}
  DataWritable (Term.Number n) = n ≤ largest_number
  DataWritable (Term.Named x) = IsWord x
  DataWritable (Term.Not x) = DataWritable x
  DataWritable (Term.Negative x) = DataWritable x
  DataWritable (Term.Binary o x y) = DataWritable x × DataWritable y
  DataWritable (Term.Apply f xs) = (IsWord f ⊎ (is_counting f ≡ true)) × SomeDataWritable xs
  DataWritable (Term.Quantified q vars x) = EachOf VariableWritable vars × DataWritable x

  pub AllDataWritable : Terms → Type 0
  AllDataWritable Terms.NoTerms = Unit {0}
  AllDataWritable (Terms.Then x xs) = DataWritable x × AllDataWritable xs

  -- one or more
  pub SomeDataWritable : Terms → Type 0
  SomeDataWritable Terms.NoTerms = ⊥
  SomeDataWritable (Terms.Then x xs) = DataWritable x × AllDataWritable xs

-- ---- protocols

-- a formula, of whose sets of steps nothing is written
abbrev pub FormulaWritable : Formula → Type 0
FormulaWritable (Formula.Truth b) = Unit {0}
FormulaWritable (Formula.Data x) = DataWritable x
FormulaWritable (Formula.Named X) = Unit {0}
FormulaWritable (Formula.Not f) = FormulaWritable f
FormulaWritable (Formula.And f g) = FormulaWritable f × FormulaWritable g
FormulaWritable (Formula.Or f g) = FormulaWritable f × FormulaWritable g
FormulaWritable (Formula.Implies f g) = FormulaWritable f × FormulaWritable g
FormulaWritable (Formula.Box A f) = FormulaWritable f
FormulaWritable (Formula.Diamond A f) = FormulaWritable f
FormulaWritable (Formula.Fixpoint sign X f) = IsWord X × FormulaWritable f
FormulaWritable (Formula.Quantified q vars f) = EachOf VariableWritable vars × FormulaWritable f

abbrev pub PropertyWritable : Property → Type 0
PropertyWritable p = IsWord p.name × FormulaWritable p.formula

-- a variable of the state, with its indices
abbrev pub StateVariableWritable : StateVariable → Type 0
StateVariableWritable x = IsWord x.name × Each VariableWritable x.indices × IsWord x.sort

abbrev pub DefinitionWritable : Definition → Type 0
DefinitionWritable d = IsWord d.name × Each VariableWritable d.parameters × DataWritable d.term

abbrev pub AssignmentWritable : Assignment → Type 0
AssignmentWritable a =
    Each VariableWritable a.variables × IsWord a.variable × AllDataWritable a.index
    × DataWritable a.term

abbrev pub StepWritable : Step → Type 0
StepWritable a =
    IsWord a.name × Each VariableWritable a.variables × DataWritable a.guard
    × Each AssignmentWritable a.assignments

pub record ProtocolWritable (m : Protocol) : Type 0 where
  pub sorts : Each DeclarationWritable m.sorts
  pub ranges : Each RangeWritable m.ranges
  pub variables : Each StateVariableWritable m.variables
  pub definitions : Each DefinitionWritable m.definitions
  pub steps : Each StepWritable m.steps
  pub initial : AllDataWritable m.initial
  pub properties : Each PropertyWritable m.properties

-- ---- texts

abbrev pub ConstantWritable : ConstantForm → Type 0
ConstantWritable c = IsWord c.name.text

abbrev pub BoundsWritable : BoundsForm → Type 0
BoundsWritable b = IsWord b.sort.text

-- of the terms of constants and bounds, which are settled, nothing is written
pub record ModelTextWritable (t : ModelTextForm) : Type 0 where
  pub constants : Each ConstantWritable t.constants
  pub bounds : Each BoundsWritable t.bounds
  pub protocol : ProtocolWritable (erase t.protocol)
