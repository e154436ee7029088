-- What is written of a part of a text when so much of it has been written.
use Rattle.std.specs.Prelude.{ℕ, zero, suc, Bool, true, false, ◌||◌, if◌then◌else◌, List, [], ◌∷◌}
use Rattle.std.specs.Prelude.{◌++◌, codes, Option, Some, None}
use Rattle.std.specs.Str.{bytes_eq}
use Rattle.pb_text_tree.specs.declared.place.Place.{Place}
use Rattle.pb_text_tree.specs.declared.operator.Connective.{Connective}
use Rattle.pb_text_tree.specs.declared.operator.Arithmetic.{Arithmetic}
use Rattle.pb_text_tree.specs.Form.{Named, VariableForm, TermForm, ArgumentForms, FormulaForm}
use Rattle.pb_text_tree.specs.Form.{EnumeratorForm, RangeForm}
use Rattle.pb_text_lexer.specs.declared.kind.Kind.TheVariants as k
use Rattle.pb_text_printer.specs.declared.level.Level.{Level}
use Rattle.pb_text_printer.specs.declared.level.Bracketing.{Bracketing}
use Rattle.pb_text_printer.specs.declared.level.Bracketing.TheVariants.{Bare, Bracketed}
use Rattle.pb_text_printer.specs.Words.{Word, word, open_word, close_word, comma_word, colon_word}
use Rattle.pb_text_printer.specs.Words.{list_word, name_word, connective_word, arithmetic_word, put}
use Rattle.pb_text_printer.specs.Words.{needs_no_brackets, term_words, list_words, more_words}
use Rattle.pb_text_printer.specs.Words.{formula_needs_no_brackets, formula_words, connective_level}
use Rattle.pb_text_printer.specs.Words.{term_side, formula_side, arithmetic_level, arithmetic_side}
use Rattle.pb_text_printer.specs.Words.{chains_with, goes_on, fits, enumerator_words}
use Rattle.pb_text_printer.specs.Words.{enumerators_words, range_bytes}
use Rattle.pb_text_printer.specs.Page.{Page, broken, typed}

-- a term, in brackets where it needs them
abbrev pub placed_words : TermForm → Level → Bool → List Word
placed_words x asked ends = put (needs_no_brackets x asked ends) (term_words x) ends

abbrev pub placed_formula : FormulaForm → Level → Bool → List Word
placed_formula x asked ends = put (formula_needs_no_brackets x asked ends) (formula_words x) ends

-- `val` and its data term
abbrev pub value_words : TermForm → List Word
value_words x = word k.Val (codes "val") ∷ list_word ∷ term_words x true ++ close_word ∷ []

-- ---- variables

-- a variable behind one of a sort, if it is not the first
abbrev pub variable_behind : Option Named → Named → Named → List Word
variable_behind None n sort = name_word n ∷ []
variable_behind (Some before) n sort = if bytes_eq before.text sort.text
    then comma_word ∷ name_word n ∷ []
    else colon_word ∷ name_word before ∷ comma_word ∷ name_word n ∷ []

-- the sort of the last variable, if there is one
abbrev pub last_sort : Option Named → List Word
last_sort None = []
last_sort (Some before) = colon_word ∷ name_word before ∷ []

-- variables behind one of a sort
abbrev pub variables_behind : Option Named → List VariableForm → List Word
variables_behind before [] = last_sort before
variables_behind before (v ∷ vs) =
    variable_behind before v.name v.sort ++ variables_behind (Some v.sort) vs

-- ---- arguments and enumerators

-- what stands before an argument, of which so many stand before it
abbrev pub separator : ℕ → Word
separator zero = list_word
separator (suc n) = comma_word

abbrev pub arguments_from : ℕ → ArgumentForms → List Word
arguments_from zero xs = list_words xs
arguments_from (suc n) xs = more_words xs

abbrev pub bar_words : ℕ → List Word
bar_words zero = []
bar_words (suc n) = word k.Bar (codes "|") ∷ []

abbrev pub barred_words : List EnumeratorForm → List Word
barred_words [] = []
barred_words (e ∷ es) = word k.Bar (codes "|") ∷ enumerator_words e ++ barred_words es

abbrev pub enumerators_from : ℕ → List EnumeratorForm → List Word
enumerators_from zero es = enumerators_words es
enumerators_from (suc n) es = barred_words es

-- ---- chains of a connective

-- the links of a chain, each a connective with its operand, the last of which is written in another
-- way
abbrev pub chain_words : {F : Type 0} → Word → (F → List Word) → (F → List Word) → List (Place × F)
    → List Word
chain_words w inner last [] = []
chain_words w inner last (l ∷ []) = w ∷ last l.1
chain_words w inner last (l ∷ m ∷ ls) = w ∷ inner l.1 ++ chain_words w inner last (m ∷ ls)

abbrev pub link_words : Connective → Bool → List (Place × TermForm) → List Word
link_words c ends =
    chain_words (connective_word c) (λ y. placed_words y (term_side c) false)
    (λ y. placed_words y (connective_level c) ends)

abbrev pub formula_link_words : Connective → Bool → List (Place × FormulaForm) → List Word
formula_link_words c ends =
    chain_words (connective_word c) (λ y. placed_formula y (formula_side c) false)
    (λ y. placed_formula y (connective_level c) ends)

-- ---- chains of arithmetic

-- whether what an operator computes stands without brackets before another
abbrev pub continues : Arithmetic → Arithmetic → Bool
continues o p =
    chains_with p (arithmetic_word o).kind || fits (arithmetic_level o) (arithmetic_side p)

-- how an operator's left side is written, where the operator before it computes that side, if there
-- is one
abbrev pub left_bracketing : Option Arithmetic → Arithmetic → Bracketing
left_bracketing None p = Bare
left_bracketing (Some o) p = if continues o p then Bare else Bracketed

-- an operator with its right side
abbrev pub operation_words : Arithmetic → TermForm → List Word
operation_words o y = arithmetic_word o ∷ placed_words y (arithmetic_side o) false

-- the left side of an operator
abbrev pub left_words : Arithmetic → TermForm → List Word
left_words o x =
    put (goes_on o x || needs_no_brackets x (arithmetic_side o) false) (term_words x) false

-- a bracket, or none
abbrev pub bracket : Bracketing → Word → List Word
bracket Bare w = []
bracket Bracketed w = w ∷ []

-- the brackets that open before a chain, one for each operator whose left side is computed and
-- needs them
abbrev pub opened : Option Arithmetic → List (Arithmetic × Place × TermForm) → List Word
opened before [] = []
opened before (l ∷ ls) = bracket (left_bracketing before l.0) open_word ++ opened (Some l.0) ls

-- the links of a chain, each behind the bracket that closes before it, if one does
abbrev pub computed_words : Option Arithmetic → List (Arithmetic × Place × TermForm) → List Word
computed_words before [] = []
computed_words before (l ∷ ls) =
    bracket (left_bracketing before l.0) close_word
    ++ (operation_words l.0 l.2 ++ computed_words (Some l.0) ls)

-- ---- texts

abbrev pub are_none : List VariableForm → Bool
are_none [] = true
are_none (v ∷ vs) = false

-- a page behind range lines
abbrev pub behind_ranges : List RangeForm → Page → Page
behind_ranges [] p = p
behind_ranges (r ∷ rs) p = behind_ranges rs (broken (typed false true (range_bytes r) p))
