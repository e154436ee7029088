-- What has words: each name is one of the grammar, each number within its limit, and no list of
-- variables or arguments is empty that can't be. Its text can be said, within some levels and
-- operators.
use Rattle.std.specs.Prelude.{◌≡◌, ◌≤◌, ℕ, true, int_le, Option, Some, None}
use Rattle.pb_text_lexer.specs.Bytes.{is_name}
use Rattle.pb_text_lexer.specs.Lexing.{largest_number}
use Rattle.pb_text_meaning.specs.Syntax.{Name, Variable, Term, Terms, Formula, Enumerator, Sort}
use Rattle.pb_text_meaning.specs.Syntax.{SortDeclaration, Range, Equation, Spec}
use Rattle.pb_text_printer.specs.Printing.{IsSayable}
use Rattle.pb_text_printer.specs.Sayable.{Each, EachOf, IsBound}
use Rattle.pb_text_tree.specs.Form.{SpecForm}
use Rattle.pb_model_meaning.specs.Syntax as model
use Rattle.pb_model_meaning.specs.Syntax.{Assignment, Step, Model}

-- within some levels and operators a text can be said
abbrev pub CanBeSaid : SpecForm → Type 0
CanBeSaid x = (depth : ℕ) × (operators : ℕ) × IsSayable depth operators x

-- ---- data terms

abbrev pub IsWord : Name → Type 0
IsWord x = is_name x ≡ true

abbrev pub VariableWritable : Variable → Type 0
VariableWritable v = IsWord v.name × IsWord v.sort

abbrev mutual
  pub TermWritable : Term → Type 0
  TermWritable (Term.Truth b) = Unit {0}
  TermWritable (Term.Number n) = n ≤ largest_number
  TermWritable (Term.Named x) = IsWord x
  TermWritable (Term.Not x) = TermWritable x
  TermWritable (Term.Negative x) = TermWritable x
  TermWritable (Term.Binary o x y) = TermWritable x × TermWritable y
  TermWritable (Term.Apply f xs) = IsWord f × SomeWritable xs
  TermWritable (Term.Quantified q vars x) = EachOf VariableWritable vars × TermWritable x

  pub AllWritable : Terms → Type 0
  AllWritable Terms.NoTerms = Unit {0}
  AllWritable (Terms.Then x xs) = TermWritable x × AllWritable xs

  -- one or more
  pub SomeWritable : Terms → Type 0
  SomeWritable Terms.NoTerms = ⊥
  SomeWritable (Terms.Then x xs) = TermWritable x × AllWritable xs

-- ---- texts

abbrev pub FormulaWritable : Formula → Type 0
FormulaWritable (Formula.Truth b) = Unit {0}
FormulaWritable (Formula.Val x) = TermWritable x
FormulaWritable (Formula.Not f) = FormulaWritable f
FormulaWritable (Formula.And f g) = FormulaWritable f × FormulaWritable g
FormulaWritable (Formula.Or f g) = FormulaWritable f × FormulaWritable g
FormulaWritable (Formula.Implies f g) = FormulaWritable f × FormulaWritable g
FormulaWritable (Formula.Quantified q vars f) = EachOf VariableWritable vars × FormulaWritable f
FormulaWritable (Formula.Call x xs) = IsWord x × AllWritable xs

abbrev pub RecogniserWritable : Option Name → Type 0
RecogniserWritable None = Unit {0}
RecogniserWritable (Some x) = IsWord x

abbrev pub EnumeratorWritable : Enumerator → Type 0
EnumeratorWritable e = IsWord e.name × RecogniserWritable e.recogniser

abbrev pub SortWritable : Sort → Type 0
SortWritable (Sort.Struct es) = EachOf EnumeratorWritable es
SortWritable (Sort.Alias s) = IsWord s

abbrev pub DeclarationWritable : SortDeclaration → Type 0
DeclarationWritable d = IsWord d.name × SortWritable d.sort

pub record RangeWritable (r : Range) : Type 0 where
  pub name : IsWord r.name
  pub low : IsBound r.low
  pub high : IsBound r.high
  pub order : int_le r.low r.high ≡ true

abbrev pub EquationWritable : Equation → Type 0
EquationWritable X =
    IsWord X.name × Each VariableWritable X.parameters × FormulaWritable X.right

pub record SpecWritable (s : Spec) : Type 0 where
  pub sorts : Each DeclarationWritable s.sorts
  pub ranges : Each RangeWritable s.ranges
  pub equations : EachOf EquationWritable s.equations
  pub initial : IsWord s.initial
  pub arguments : AllWritable s.arguments

-- ---- models

-- a formula of the modal mu-calculus, of whose sets of steps nothing is written
abbrev pub ModalWritable : model.Formula → Type 0
ModalWritable (model.Formula.Truth b) = Unit {0}
ModalWritable (model.Formula.Data x) = TermWritable x
ModalWritable (model.Formula.Named X) = Unit {0}
ModalWritable (model.Formula.Not f) = ModalWritable f
ModalWritable (model.Formula.And f g) = ModalWritable f × ModalWritable g
ModalWritable (model.Formula.Or f g) = ModalWritable f × ModalWritable g
ModalWritable (model.Formula.Implies f g) = ModalWritable f × ModalWritable g
ModalWritable (model.Formula.Box A f) = ModalWritable f
ModalWritable (model.Formula.Diamond A f) = ModalWritable f
ModalWritable (model.Formula.Fixpoint sign X f) = IsWord X × ModalWritable f

abbrev pub AssignmentWritable : Assignment → Type 0
AssignmentWritable a = TermWritable a.term

abbrev pub StepWritable : Step → Type 0
StepWritable a =
    Each VariableWritable a.variables × TermWritable a.guard × Each AssignmentWritable a.assignments

-- what of a model is written in the texts of its properties
pub record ModelWritable (m : Model) : Type 0 where
  pub sorts : Each DeclarationWritable m.sorts
  pub ranges : Each RangeWritable m.ranges
  pub variables : Each VariableWritable m.variables
  pub steps : Each StepWritable m.steps
  pub initial : AllWritable m.initial
