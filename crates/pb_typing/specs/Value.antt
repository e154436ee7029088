-- Data below val, as it is built bottom up: a term without quantifiers, or the formula as which
-- data is read.
use Rattle.std.specs.Prelude.{ℕ, ◌+◌, Bool, true, false, List, [], ◌∷◌}
use Rattle.pb_text_tree.specs.declared.operator.Connective.{Connective}
use Rattle.pb_text_meaning.specs.Erase.{of_connective}
use Rattle.pb_text_meaning.specs.Syntax as syntax
use Rattle.pb_text_meaning.specs.Syntax.{Spec}
use Rattle.pb_typing_rules.specs.Scope.{Scope}
use Rattle.pb_typing_tree.specs.Tree.{Term, Binary, Formula, Test, Connected, Negation}
use Rattle.pb_typing_tree.specs.Elaboration.{Slotting, slotted, elaborated, width}
use Rattle.pb_typing_tree.specs.Expansion.{has_quantifier, expanded_term}
use Rattle.pb_typing_tree.specs.View.{chained_formula}

pub data TermValue : Type 0 where
  Data : Term → TermValue
  Whole : Formula → TermValue

abbrev pub as_formula : TermValue → Formula
as_formula (Data x) = Test x
as_formula (Whole f) = f

abbrev pub negated : TermValue → TermValue
negated (Data x) = Data (Term.Not x)
negated (Whole f) = Whole (Negation f)

-- two operands: data where both are
abbrev pub joined : Connective → TermValue → TermValue → TermValue
joined o (Data x) (Data y) = Data (Binary (of_connective o) x y)
joined o (Data x) (Whole g) = Whole (Connected o (Test x) g)
joined o (Whole f) y = Whole (Connected o f (as_formula y))

abbrev pub folded : Connective → List TermValue → TermValue
folded o [] = Data (Term.Truth false)
folded o (x ∷ xs) = chained_formula (joined o) x xs

-- data behind the last formula is one test, if there is any
abbrev pub tail : Connective → List Term → List Formula
tail o [] = []
tail o (x ∷ xs) = Test (chained_formula (Binary (of_connective o)) x xs) ∷ []

abbrev pub chosen : Bool → Formula → Term → TermValue
chosen true f x = Whole f
chosen false f x = Data x

-- which value a term of the text has
abbrev pub term_value : Spec → Slotting → Scope → ℕ → syntax.Term → TermValue
term_value spec c scope n x =
    chosen (has_quantifier x) (elaborated spec c scope n (expanded_term x)) (slotted spec c x)

-- each takes its slots
abbrev pub term_values : Spec → Slotting → Scope → ℕ → List syntax.Term → List TermValue
term_values spec c scope n [] = []
term_values spec c scope n (x ∷ xs) =
    term_value spec c scope n x ∷ term_values spec c scope (n + width (expanded_term x)) xs
