-- The words of a printed text: its tokens without their places. Brackets stand only where the
-- grammar needs them.
use Rattle.std.specs.Prelude.{◌≡◌, ℕ, Bool, true, false, ◌||◌, ◌&&◌, if◌then◌else◌, nat_le, List}
use Rattle.std.specs.Prelude.{[], ◌∷◌, ◌++◌, codes, decimal, flat_map, Option, Some, None}
use Rattle.std.specs.Fmt.{signed_decimal}
use Rattle.std.specs.Str.{bytes_eq}
use Rattle.pb_fixpoint.specs.declared.Sign.{Sign}
use Rattle.pb_fixpoint.specs.declared.Sign.TheVariants as sign
use Rattle.pb_text_tree.specs.declared.operator.Connective.{Connective}
use Rattle.pb_text_tree.specs.declared.operator.Connective.TheVariants as connective
use Rattle.pb_text_tree.specs.declared.operator.Comparison.{Comparison}
use Rattle.pb_text_tree.specs.declared.operator.Comparison.TheVariants as comparison
use Rattle.pb_text_tree.specs.declared.operator.Arithmetic.{Arithmetic}
use Rattle.pb_text_tree.specs.declared.operator.Arithmetic.TheVariants as arithmetic
use Rattle.pb_text_tree.specs.declared.operator.Quantifier.{Quantifier}
use Rattle.pb_text_tree.specs.declared.operator.Quantifier.TheVariants.{Forall, Exists}
use Rattle.pb_text_tree.specs.Form.{Named, VariableForm, TermForm, ArgumentForms, no_arguments}
use Rattle.pb_text_tree.specs.Form.{argument, InstanceForm, FormulaForm, EnumeratorForm, SortForm}
use Rattle.pb_text_tree.specs.Form.{struct, alias, SortDeclarationForm, RangeForm, EquationForm}
use Rattle.pb_text_tree.specs.Form.{SpecForm}
use Rattle.pb_text_lexer.specs.declared.kind.Kind.{Kind}
use Rattle.pb_text_lexer.specs.declared.kind.Kind.TheVariants as k
use Rattle.pb_text_lexer.specs.Tokens.{Tok}
use Rattle.pb_text_terms.specs.Operators.{is_additive, is_times, is_division}
use Rattle.pb_text_printer.specs.declared.level.Level.{Level}
use Rattle.pb_text_printer.specs.declared.level.Level.TheVariants as level
use Rattle.pb_text_printer.specs.declared.level.RightEnd.{RightEnd}
use Rattle.pb_text_printer.specs.declared.level.RightEnd.TheVariants.{Open, Closed}

-- Its token, whether a space goes before it where one may, whether one may go behind it, and
-- whether it ends its line.
pub record Word : Type 0 where
  pub kind : Kind
  pub text : List ℕ
  pub spaced : Bool
  pub gap : Bool
  pub ends_line : Bool

abbrev pub word : Kind → List ℕ → Word
word kind text = record { kind = kind; text = text; spaced = true; gap = true; ends_line = false }

-- close to what is before it
abbrev pub closing : Kind → List ℕ → Word
closing kind text =
    record { kind = kind; text = text; spaced = false; gap = true; ends_line = false }

-- close to what is behind it
abbrev pub opening_word : Kind → List ℕ → Word
opening_word kind text =
    record { kind = kind; text = text; spaced = true; gap = false; ends_line = false }

abbrev pub last_of_line : Word → Word
last_of_line w = record w { gap = false; ends_line = true }

-- ---- words of their own

abbrev pub open_word : Word
open_word = opening_word k.Open (codes "(")

-- the bracket of arguments and parameters, close to the name before it
abbrev pub list_word : Word
list_word = record open_word { spaced = false }

abbrev pub close_word : Word
close_word = closing k.Close (codes ")")

abbrev pub comma_word : Word
comma_word = closing k.Comma (codes ",")

abbrev pub colon_word : Word
colon_word = closing k.Colon (codes ":")

abbrev pub period_word : Word
period_word = closing k.Period (codes ".")

abbrev pub not_word : Word
not_word = opening_word k.Not (codes "!")

abbrev pub minus_word : Word
minus_word = opening_word k.Minus (codes "-")

abbrev pub truth_word : Bool → Word
truth_word true = word k.True (codes "true")
truth_word false = word k.False (codes "false")

abbrev pub name_word : Named → Word
name_word n = word k.Name n.text

abbrev pub quantifier_word : Quantifier → Word
quantifier_word Forall = word k.Forall (codes "forall")
quantifier_word Exists = word k.Exists (codes "exists")

abbrev pub connective_word : Connective → Word
connective_word connective.And = word k.And (codes "&&")
connective_word connective.Or = word k.Or (codes "||")
connective_word connective.Implies = word k.Implies (codes "=>")

abbrev pub comparison_word : Comparison → Word
comparison_word comparison.Equal = word k.Equal (codes "==")
comparison_word comparison.NotEqual = word k.NotEqual (codes "!=")
comparison_word comparison.Less = word k.Less (codes "<")
comparison_word comparison.LessEqual = word k.LessOrEqual (codes "<=")
comparison_word comparison.Greater = word k.Greater (codes ">")
comparison_word comparison.GreaterEqual = word k.GreaterOrEqual (codes ">=")

abbrev pub arithmetic_word : Arithmetic → Word
arithmetic_word arithmetic.Plus = word k.Plus (codes "+")
arithmetic_word arithmetic.Minus = word k.Minus (codes "-")
arithmetic_word arithmetic.Times = word k.Times (codes "*")
arithmetic_word arithmetic.Div = word k.Div (codes "div")
arithmetic_word arithmetic.Mod = word k.Mod (codes "mod")

-- ---- levels

-- how tightly a level binds
abbrev pub binding_strength : Level → ℕ
binding_strength level.Implication = 0
binding_strength level.Disjunction = 1
binding_strength level.Conjunction = 2
binding_strength level.Equality = 3
binding_strength level.Order = 4
binding_strength level.Sum = 5
binding_strength level.Product = 6
binding_strength level.Unary = 7

-- whether what has a level of its own stands without brackets where one is asked for
abbrev pub fits : Level → Level → Bool
fits own asked = nat_le (binding_strength asked) (binding_strength own)

abbrev pub connective_level : Connective → Level
connective_level connective.And = level.Conjunction
connective_level connective.Or = level.Disjunction
connective_level connective.Implies = level.Implication

-- the level of a connective's left side, of terms and of formulas
abbrev pub term_side : Connective → Level
term_side connective.And = level.Equality
term_side connective.Or = level.Conjunction
term_side connective.Implies = level.Disjunction

abbrev pub formula_side : Connective → Level
formula_side connective.And = level.Unary
formula_side connective.Or = level.Conjunction
formula_side connective.Implies = level.Disjunction

abbrev pub comparison_level : Comparison → Level
comparison_level comparison.Equal = level.Equality
comparison_level comparison.NotEqual = level.Equality
comparison_level _ = level.Order

abbrev pub comparison_side : Comparison → Level
comparison_side comparison.Equal = level.Order
comparison_side comparison.NotEqual = level.Order
comparison_side _ = level.Sum

abbrev pub arithmetic_level : Arithmetic → Level
arithmetic_level arithmetic.Plus = level.Sum
arithmetic_level arithmetic.Minus = level.Sum
arithmetic_level _ = level.Product

abbrev pub arithmetic_side : Arithmetic → Level
arithmetic_side arithmetic.Plus = level.Product
arithmetic_side arithmetic.Minus = level.Product
arithmetic_side _ = level.Unary

-- with which operators one may stand in a chain
abbrev pub chains_with : Arithmetic → Kind → Bool
chains_with arithmetic.Plus = is_additive
chains_with arithmetic.Minus = is_additive
chains_with arithmetic.Times = is_times
chains_with arithmetic.Div = is_division
chains_with arithmetic.Mod = is_division

-- ---- brackets

-- whether a quantifier may stand at a right end
abbrev pub is_open_end : RightEnd → Bool
is_open_end Open = true
is_open_end Closed = false

-- Whether a term needs no brackets where a level is asked for, and where a quantifier may end it or
-- not.
abbrev pub needs_no_brackets : TermForm → Level → Bool → Bool
needs_no_brackets (TermForm.connected c p x y) asked ends = fits (connective_level c) asked
needs_no_brackets (TermForm.compared c p x y) asked ends = fits (comparison_level c) asked
needs_no_brackets (TermForm.computed o p x y) asked ends = fits (arithmetic_level o) asked
needs_no_brackets (TermForm.quantified q p vars x) asked ends = ends
needs_no_brackets _ asked ends = true

-- whether a term's operators and one behind it are one chain
abbrev pub goes_on : Arithmetic → TermForm → Bool
goes_on o (TermForm.computed q p x y) = chains_with o (arithmetic_word q).kind
goes_on o _ = false

abbrev pub formula_needs_no_brackets : FormulaForm → Level → Bool → Bool
formula_needs_no_brackets (FormulaForm.connected c p x y) asked ends =
    fits (connective_level c) asked
formula_needs_no_brackets (FormulaForm.quantified q p vars x) asked ends = ends
formula_needs_no_brackets _ asked ends = true

-- words that stand by themselves, or else in brackets, where anything may end them
abbrev pub put : Bool → (Bool → List Word) → Bool → List Word
put true words ends = words ends
put false words ends = open_word ∷ words true ++ close_word ∷ []

-- ---- variables

-- variables with their sorts, each sort once for those that follow one another
abbrev pub variable_words : List VariableForm → List Word
variable_words [] = []
variable_words (v ∷ []) = name_word v.name ∷ colon_word ∷ name_word v.sort ∷ []
variable_words (v ∷ w ∷ vs) = if bytes_eq v.sort.text w.sort.text
    then name_word v.name ∷ comma_word ∷ variable_words (w ∷ vs)
    else name_word v.name ∷ colon_word ∷ name_word v.sort ∷ comma_word ∷ variable_words (w ∷ vs)

abbrev pub binding_words : Quantifier → List VariableForm → List Word → List Word
binding_words q vars body = quantifier_word q ∷ variable_words vars ++ period_word ∷ body

-- ---- data terms

abbrev mutual
  -- where a quantifier may end the term or not
  pub term_words : TermForm → Bool → List Word
  term_words (TermForm.constant p value) ends = truth_word value ∷ []
  term_words (TermForm.number p n) ends = word k.Number (decimal n) ∷ []
  term_words (TermForm.name n) ends = name_word n ∷ []
  term_words (TermForm.not p x) ends =
      not_word ∷ put (needs_no_brackets x level.Unary false) (term_words x) false
  term_words (TermForm.negative p x) ends =
      minus_word ∷ put (needs_no_brackets x level.Unary false) (term_words x) false
  term_words (TermForm.connected c p x y) ends =
      put (needs_no_brackets x (term_side c) false) (term_words x) false
      ++ connective_word c ∷ put (needs_no_brackets y (connective_level c) ends) (term_words y) ends
  term_words (TermForm.compared c p x y) ends =
      put (needs_no_brackets x (comparison_side c) false) (term_words x) false
      ++ comparison_word c
      ∷ put (needs_no_brackets y (comparison_side c) false) (term_words y) false
  term_words (TermForm.computed o p x y) ends =
      put (goes_on o x || needs_no_brackets x (arithmetic_side o) false) (term_words x) false
      ++ arithmetic_word o
      ∷ put (needs_no_brackets y (arithmetic_side o) false) (term_words y) false
  term_words (TermForm.application f xs) ends = name_word f ∷ list_words xs
  term_words (TermForm.quantified q p vars x) ends = binding_words q vars (term_words x true)

  -- arguments in brackets, or nothing where there are none
  pub list_words : ArgumentForms → List Word
  list_words no_arguments = []
  list_words (argument p x xs) = list_word ∷ term_words x true ++ more_words xs

  -- what stands behind an argument
  pub more_words : ArgumentForms → List Word
  more_words no_arguments = close_word ∷ []
  more_words (argument p x xs) = comma_word ∷ term_words x true ++ more_words xs

abbrev pub instance_words : InstanceForm → List Word
instance_words i = name_word i.name ∷ list_words i.arguments

-- ---- formulas

abbrev pub formula_words : FormulaForm → Bool → List Word
formula_words (FormulaForm.constant p value) ends = truth_word value ∷ []
formula_words (FormulaForm.val p x) ends =
    word k.Val (codes "val") ∷ list_word ∷ term_words x true ++ close_word ∷ []
formula_words (FormulaForm.instance i) ends = instance_words i
formula_words (FormulaForm.negation p x) ends =
    not_word ∷ put (formula_needs_no_brackets x level.Unary false) (formula_words x) false
formula_words (FormulaForm.connected c p x y) ends =
    put (formula_needs_no_brackets x (formula_side c) false) (formula_words x) false
    ++ connective_word c
    ∷ put (formula_needs_no_brackets y (connective_level c) ends) (formula_words y) ends
formula_words (FormulaForm.quantified q p vars x) ends = binding_words q vars (formula_words x true)

-- ---- texts

abbrev pub sign_word : Sign → Word
sign_word sign.Mu = word k.Mu (codes "mu")
sign_word sign.Nu = word k.Nu (codes "nu")

abbrev pub is_word : Word
is_word = word k.Is (codes "=")

abbrev pub semicolon_word : Word
semicolon_word = last_of_line (closing k.Semicolon (codes ";"))

abbrev pub recogniser_words : Option Named → List Word
recogniser_words None = []
recogniser_words (Some n) = word k.Question (codes "?") ∷ name_word n ∷ []

abbrev pub enumerator_words : EnumeratorForm → List Word
enumerator_words e = name_word e.name ∷ recogniser_words e.recogniser

-- enumerators with bars between them
abbrev pub enumerators_words : List EnumeratorForm → List Word
enumerators_words [] = []
enumerators_words (e ∷ []) = enumerator_words e
enumerators_words (e ∷ f ∷ es) =
    enumerator_words e ++ word k.Bar (codes "|") ∷ enumerators_words (f ∷ es)

abbrev pub sort_words : SortForm → List Word
sort_words (struct es) = word k.Struct (codes "struct") ∷ enumerators_words es
sort_words (alias n) = name_word n ∷ []

abbrev pub declaration_words : SortDeclarationForm → List Word
declaration_words d = name_word d.name ∷ is_word ∷ sort_words d.sort ++ semicolon_word ∷ []

-- parameters in brackets, or nothing where there are none
abbrev pub parameter_words : List VariableForm → List Word
parameter_words [] = []
parameter_words (v ∷ vs) = list_word ∷ variable_words (v ∷ vs) ++ close_word ∷ []

abbrev pub equation_words : EquationForm → List Word
equation_words e =
    sign_word e.sign ∷ name_word e.name ∷ parameter_words e.parameters
    ++ (is_word ∷ formula_words e.right true ++ semicolon_word ∷ [])

-- sorts under one word, or nothing where there are none
abbrev pub sorts_words : List SortDeclarationForm → List Word
sorts_words [] = []
sorts_words (d ∷ ds) =
    last_of_line (word k.Sort (codes "sort")) ∷ flat_map declaration_words (d ∷ ds)

-- a whole text, but for its range lines
abbrev pub text_words : SpecForm → List Word
text_words s =
    sorts_words s.sorts
    ++ (last_of_line (word k.Pbes (codes "pbes")) ∷ flat_map equation_words s.equations
    ++ (word k.Init (codes "init") ∷ instance_words s.initial ++ semicolon_word ∷ []))

-- ---- words and bytes

-- The bytes that words are written as, where a space may go before the first or not.
abbrev pub written : Bool → List Word → List ℕ
written gap [] = []
written gap (w ∷ ws) =
    (if gap && w.spaced then 32 ∷ [] else [])
    ++ (w.text ++ ((if w.ends_line then 10 ∷ [] else []) ++ written w.gap ws))

-- a range line
abbrev pub range_bytes : RangeForm → List ℕ
range_bytes r =
    codes "%range" ++ (32 ∷ r.name ++ (32 ∷ signed_decimal r.low ++ (32 ∷ signed_decimal r.high)))

-- A whole text: its range lines, and then its words.
abbrev pub text_bytes : SpecForm → List ℕ
text_bytes s = flat_map (λ r. range_bytes r ++ 10 ∷ []) s.ranges ++ written false (text_words s)

-- ---- words and tokens

-- from some tokens to others, these words stand
abbrev pub Spells : List Word → List Tok → List Tok → Type 0
Spells [] s r = s ≡ r
Spells (w ∷ ws) s r =
    (t : Tok) × (m : List Tok) × (s ≡ t ∷ m) × (t.kind ≡ w.kind) × (t.text ≡ w.text) × Spells ws m r
