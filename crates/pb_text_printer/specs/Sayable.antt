-- Which trees a text can say, and how many levels and operators their printed words need.
use Rattle.std.specs.Prelude.{ℤ, pos, negsuc, int_le, ◌≡◌, ◌≤◌, ℕ, zero, suc, ◌+◌, Bool, true}
use Rattle.std.specs.Prelude.{false, ◌||◌, List, [], ◌∷◌, Option, Some, None}
use Rattle.pb_text_tree.specs.Form.{Named, VariableForm, TermForm, ArgumentForms, no_arguments}
use Rattle.pb_text_tree.specs.Form.{argument, InstanceForm, FormulaForm, EnumeratorForm, SortForm}
use Rattle.pb_text_tree.specs.Form.{struct, alias, SortDeclarationForm, RangeForm, EquationForm}
use Rattle.pb_text_tree.specs.Form.{SpecForm}
use Rattle.pb_text_lexer.specs.Bytes.{is_name}
use Rattle.pb_text_lexer.specs.Lexing.{largest_number}
use Rattle.pb_text_printer.specs.declared.level.Level.TheVariants as level
use Rattle.pb_text_printer.specs.Words.{needs_no_brackets, goes_on, formula_needs_no_brackets}
use Rattle.pb_text_printer.specs.Words.{connective_level, term_side, formula_side, comparison_side}
use Rattle.pb_text_printer.specs.Words.{arithmetic_side}

-- ---- operators with two operands

abbrev mutual
  pub operators : TermForm → ℕ
  operators (TermForm.not p x) = operators x
  operators (TermForm.negative p x) = operators x
  operators (TermForm.connected c p x y) = operators x + suc (operators y)
  operators (TermForm.compared c p x y) = operators x + suc (operators y)
  operators (TermForm.computed o p x y) = operators x + suc (operators y)
  operators (TermForm.application f xs) = list_operators xs
  operators (TermForm.quantified q p vars x) = operators x
  operators _ = 0

  pub list_operators : ArgumentForms → ℕ
  list_operators no_arguments = 0
  list_operators (argument p x xs) = operators x + list_operators xs

abbrev pub formula_operators : FormulaForm → ℕ
formula_operators (FormulaForm.constant p value) = 0
formula_operators (FormulaForm.val p x) = operators x
formula_operators (FormulaForm.instance i) = list_operators i.arguments
formula_operators (FormulaForm.negation p x) = formula_operators x
formula_operators (FormulaForm.connected c p x y) = formula_operators x + suc (formula_operators y)
formula_operators (FormulaForm.quantified q p vars x) = formula_operators x

-- ---- levels that open

-- one level opens, and the rest has those that are left
abbrev pub Opens : ℕ → (ℕ → Type 0) → Type 0
Opens zero P = ⊥
Opens (suc depth) P = P depth

-- what stands by itself, or else in brackets, which open a level
abbrev pub IsPut : Bool → (Bool → ℕ → Type 0) → Bool → ℕ → Type 0
IsPut true P ends depth = P ends depth
IsPut false P ends depth = Opens depth (P true)

-- ---- what can be said

abbrev pub IsName : Named → Type 0
IsName n = is_name n.text ≡ true

abbrev pub AreNames : List VariableForm → Type 0
AreNames [] = Unit {0}
AreNames (v ∷ vs) = IsName v.name × IsName v.sort × AreNames vs

-- variables of a quantifier or of an equation: one or more
abbrev pub AreVariables : List VariableForm → Type 0
AreVariables [] = ⊥
AreVariables (v ∷ vs) = AreNames (v ∷ vs)

abbrev mutual
  -- within so many levels, where a quantifier may end the term or not
  pub IsSayable : TermForm → Bool → ℕ → Type 0
  IsSayable (TermForm.constant p value) ends depth = Unit {0}
  IsSayable (TermForm.number p n) ends depth = n ≤ largest_number
  IsSayable (TermForm.name n) ends depth = IsName n
  IsSayable (TermForm.not p x) ends depth =
      Opens depth (IsPut (needs_no_brackets x level.Unary false) (IsSayable x) false)
  IsSayable (TermForm.negative p x) ends depth =
      Opens depth (IsPut (needs_no_brackets x level.Unary false) (IsSayable x) false)
  IsSayable (TermForm.connected c p x y) ends depth =
      IsPut (needs_no_brackets x (term_side c) false) (IsSayable x) false depth
      × IsPut (needs_no_brackets y (connective_level c) ends) (IsSayable y) ends depth
  IsSayable (TermForm.compared c p x y) ends depth =
      IsPut (needs_no_brackets x (comparison_side c) false) (IsSayable x) false depth
      × IsPut (needs_no_brackets y (comparison_side c) false) (IsSayable y) false depth
  IsSayable (TermForm.computed o p x y) ends depth =
      IsPut (goes_on o x || needs_no_brackets x (arithmetic_side o) false) (IsSayable x) false depth
      × IsPut (needs_no_brackets y (arithmetic_side o) false) (IsSayable y) false depth
  IsSayable (TermForm.application f xs) ends depth = IsName f × AreSayable xs depth
  IsSayable (TermForm.quantified q p vars x) ends depth =
      AreVariables vars × Opens depth (IsSayable x true)

  -- one argument or more
  pub AreSayable : ArgumentForms → ℕ → Type 0
  AreSayable no_arguments depth = ⊥
  AreSayable (argument p x xs) depth = Opens depth (λ d. IsSayable x true d × MoreSayable xs d)

  -- the arguments behind the first
  pub MoreSayable : ArgumentForms → ℕ → Type 0
  MoreSayable no_arguments depth = Unit {0}
  MoreSayable (argument p x xs) depth = IsSayable x true depth × MoreSayable xs depth

abbrev pub SomeSayable : ArgumentForms → ℕ → Type 0
SomeSayable no_arguments depth = Unit {0}
SomeSayable (argument p x xs) depth = AreSayable (argument p x xs) depth

abbrev pub InstanceSayable : InstanceForm → ℕ → Type 0
InstanceSayable i depth = IsName i.name × SomeSayable i.arguments depth

abbrev pub FormulaSayable : FormulaForm → Bool → ℕ → Type 0
FormulaSayable (FormulaForm.constant p value) ends depth = Unit {0}
FormulaSayable (FormulaForm.val p x) ends depth = Opens depth (IsSayable x true)
FormulaSayable (FormulaForm.instance i) ends depth = InstanceSayable i depth
FormulaSayable (FormulaForm.negation p x) ends depth =
    Opens depth (IsPut (formula_needs_no_brackets x level.Unary false) (FormulaSayable x) false)
FormulaSayable (FormulaForm.connected c p x y) ends depth =
    IsPut (formula_needs_no_brackets x (formula_side c) false) (FormulaSayable x) false depth
    × IsPut (formula_needs_no_brackets y (connective_level c) ends) (FormulaSayable y) ends depth
FormulaSayable (FormulaForm.quantified q p vars x) ends depth =
    AreVariables vars × Opens depth (FormulaSayable x true)

-- ---- texts

abbrev pub Each : {X : Type 0} → (X → Type 0) → List X → Type 0
Each P [] = Unit {0}
Each P (x ∷ xs) = P x × Each P xs

-- one or more
abbrev pub EachOf : {X : Type 0} → (X → Type 0) → List X → Type 0
EachOf P [] = ⊥
EachOf P (x ∷ xs) = P x × Each P xs

abbrev pub RecogniserSayable : Option Named → Type 0
RecogniserSayable None = Unit {0}
RecogniserSayable (Some n) = IsName n

abbrev pub EnumeratorSayable : EnumeratorForm → Type 0
EnumeratorSayable e = IsName e.name × RecogniserSayable e.recogniser

abbrev pub SortSayable : SortForm → Type 0
SortSayable (struct es) = EachOf EnumeratorSayable es
SortSayable (alias n) = IsName n

abbrev pub DeclarationSayable : SortDeclarationForm → Type 0
DeclarationSayable d = IsName d.name × SortSayable d.sort

-- the bracket of parameters opens a level
abbrev pub ParametersSayable : List VariableForm → ℕ → Type 0
ParametersSayable [] depth = Unit {0}
ParametersSayable (v ∷ vs) depth = Opens depth (λ d. AreVariables (v ∷ vs))

-- within so many levels and operators
abbrev pub EquationSayable : ℕ → ℕ → EquationForm → Type 0
EquationSayable depth limit e =
    IsName e.name × ParametersSayable e.parameters depth × FormulaSayable e.right true depth
    × (formula_operators e.right ≤ limit)

-- A text that can be said, but for its range lines: each equation, and the initial instance, may
-- have so many operators.
pub record TextSayable (depth limit : ℕ) (s : SpecForm) : Type 0 where
  pub sorts : Each DeclarationSayable s.sorts
  pub equations : EachOf (EquationSayable depth limit) s.equations
  pub initial : InstanceSayable s.initial depth
  pub operators : list_operators s.initial.arguments ≤ limit

-- a bound of 32 bits with a sign
abbrev pub IsBound : ℤ → Type 0
IsBound (pos n) = n ≤ 2147483647
IsBound (negsuc n) = suc n ≤ 2147483648

-- a range line that can be said
pub record RangeSayable (r : RangeForm) : Type 0 where
  pub name : is_name r.name ≡ true
  pub low : IsBound r.low
  pub high : IsBound r.high
  pub order : int_le r.low r.high ≡ true
