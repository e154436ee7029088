-- A term that is written in its parts.
use Rattle.std.proofs.Common.{◌≡◌, Bool, true, false, List, [], ◌∷◌, ◌++◌, refl, sym, ◌∙◌, ap, Box, Vec, Global}
use Rattle.std.specs.Prelude.{box_value}
use Rattle.pb_text_tree.specs.declared.place.Place.{Place}
use Rattle.pb_text_tree.specs.declared.operator.Connective.{Connective}
use Rattle.pb_text_tree.specs.declared.operator.Connective.TheVariants as connective
use Rattle.pb_text_tree.specs.declared.operator.Comparison.{Comparison}
use Rattle.pb_text_tree.specs.declared.operator.Comparison.TheVariants as comparison
use Rattle.pb_text_tree.specs.declared.operator.Quantifier.{Quantifier}
use Rattle.pb_text_tree.specs.declared.name.Name.{Name}
use Rattle.pb_text_tree.specs.declared.variable.Variables.{Variables}
use Rattle.pb_text_tree.specs.declared.term.Term as term
use Rattle.pb_text_tree.specs.declared.term.Term.{Term}
use Rattle.pb_text_tree.specs.declared.term.Argument.{Argument}
use Rattle.pb_text_tree.specs.declared.formula.Formula as formula
use Rattle.pb_text_tree.specs.declared.formula.Formula.{Formula}
use Rattle.pb_text_tree.specs.Form.{TermForm, VariableForm, named, term_form, formula_form, argument_forms, variable_forms}
use Rattle.pb_text_tree.proofs.FormLemmas.{term-application}
use Rattle.pb_text_printer.specs.declared.level.Level.{Level}
use Rattle.pb_text_printer.specs.declared.level.Position.{Position}
use Rattle.pb_text_printer.specs.declared.level.RightEnd.TheVariants.{Closed}
use Rattle.pb_text_printer.specs.Words.{Word, is_open_end, term_words, formula_words, list_words, name_word, connective_word, comparison_word, comparison_side, quantifier_word, variable_words, period_word}
use Rattle.pb_text_printer.specs.Page.{Page, typed, after}
use Rattle.pb_text_printer.specs.Parts.{placed_words, placed_formula}
use Rattle.pb_text_printer.proofs.PageLemmas.{left}

-- an operator between its sides
pub infixed : (first second : List Word) (w : Word) (p q r : Page) → q ≡ after first p → r ≡ after (w ∷ []) q → after second r ≡ after (first ++ w ∷ second) p
infixed first second w p q r one two = ap (after second) two ∙ left first (w ∷ second) p q one

pub placed : (x y : Term) (position wanted : Position) (p : Page) → x ≡ y → position ≡ wanted
    → after (placed_words (term_form x) position.level (is_open_end position.right_end)) p ≡ after (placed_words (term_form y) wanted.level (is_open_end wanted.right_end)) p
placed x y position wanted p same at =
    ap (λ (v : Term). after (placed_words (term_form v) position.level (is_open_end position.right_end)) p) same
    ∙ ap (λ (v : Position). after (placed_words (term_form y) v.level (is_open_end v.right_end)) p) at

pub placed-formula : (x y : Formula) (position wanted : Position) (p : Page) → x ≡ y → position ≡ wanted
    → after (placed_formula (formula_form x) position.level (is_open_end position.right_end)) p ≡ after (placed_formula (formula_form y) wanted.level (is_open_end wanted.right_end)) p
placed-formula x y position wanted p same at =
    ap (λ (v : Formula). after (placed_formula (formula_form v) position.level (is_open_end position.right_end)) p) same
    ∙ ap (λ (v : Position). after (placed_formula (formula_form y) v.level (is_open_end v.right_end)) p) at

abbrev pub closed : Level → Position
closed level = record { level = level; right_end = Closed }

pub connective-typed : (c : Connective) (p : Page) → typed true true (connective_word c).text p ≡ after (connective_word c ∷ []) p
connective-typed connective.And p = refl
connective-typed connective.Or p = refl
connective-typed connective.Implies p = refl

pub comparison-typed : (c : Comparison) (p : Page) → typed true true (comparison_word c).text p ≡ after (comparison_word c ∷ []) p
comparison-typed comparison.Equal p = refl
comparison-typed comparison.NotEqual p = refl
comparison-typed comparison.Less p = refl
comparison-typed comparison.LessEqual p = refl
comparison-typed comparison.Greater p = refl
comparison-typed comparison.GreaterEqual p = refl

pub comparison-words : (place : Place) (o : Comparison) (x y : Box Term Global) (t : Term) (ends : Bool) (p q r : Page) → t ≡ term.Comparison place o x y
    → q ≡ after (placed_words (term_form (box_value x)) (comparison_side o) false) p → r ≡ after (comparison_word o ∷ []) q
    → after (placed_words (term_form (box_value y)) (comparison_side o) false) r ≡ after (term_words (term_form t) ends) p
comparison-words place o x y t ends p q r is one two =
    infixed (placed_words (term_form (box_value x)) (comparison_side o) false) (placed_words (term_form (box_value y)) (comparison_side o) false) (comparison_word o) p q r one two
    ∙ ap (λ (v : Term). after (term_words (term_form v) ends) p) (sym is)

pub application-words : (f : Name) (v : Vec Argument Global) (xs : List Argument) (t : Term) (ends : Bool) (p q : Page) → t ≡ term.Application f v → xs ≡ v.items
    → q ≡ after (name_word (named f) ∷ []) p → after (list_words (argument_forms xs)) q ≡ after (term_words (term_form t) ends) p
application-words f v xs t ends p q is are first =
    ap (after (list_words (argument_forms xs))) first
    ∙ ap (λ (ys : List Argument). after (name_word (named f) ∷ list_words (argument_forms ys)) p) are
    ∙ ap (λ (y : TermForm). after (term_words y ends) p) (sym (term-application f v) ∙ ap term_form (sym is))

-- a quantifier with its variables, and its body
bound : (q : Quantifier) (vs : List VariableForm) (body : List Word) (p r : Page) → r ≡ after (quantifier_word q ∷ variable_words vs ++ period_word ∷ []) p
    → after body r ≡ after (quantifier_word q ∷ variable_words vs ++ period_word ∷ body) p
bound q vs body p r first =
    left (quantifier_word q ∷ variable_words vs ++ period_word ∷ []) body p r first
    ∙ ap (λ (ws : List Word). after (quantifier_word q ∷ ws) p) (by (variable_words vs))
  where
    by : (ws : List Word) → (ws ++ period_word ∷ []) ++ body ≡ ws ++ period_word ∷ body
    by [] = refl
    by (w ∷ ws) = ap (λ (v : List Word). w ∷ v) (by ws)

pub quantified-words : (place : Place) (q : Quantifier) (v : Vec Variables Global) (vs : List Variables)
    (x : Box Term Global) (t : Term) (ends : Bool) (p r : Page) → t ≡ term.Quantified place q v x → vs ≡ v.items
    → r ≡ after (quantifier_word q ∷ variable_words (variable_forms vs) ++ period_word ∷ []) p → after (term_words (term_form (box_value x)) true) r ≡ after (term_words (term_form t) ends) p
quantified-words place q v vs x t ends p r is are first =
    bound q (variable_forms vs) (term_words (term_form (box_value x)) true) p r first
    ∙ ap (λ (ws : List Variables). after (quantifier_word q ∷ variable_words (variable_forms ws) ++ period_word ∷ term_words (term_form (box_value x)) true) p) are
    ∙ ap (λ (y : Term). after (term_words (term_form y) ends) p) (sym is)

pub quantified-formula : (place : Place) (q : Quantifier) (v : Vec Variables Global) (vs : List Variables)
    (x : Box Formula Global) (t : Formula) (ends : Bool) (p r : Page) → t ≡ formula.Quantified place q v x → vs ≡ v.items
    → r ≡ after (quantifier_word q ∷ variable_words (variable_forms vs) ++ period_word ∷ []) p
    → after (formula_words (formula_form (box_value x)) true) r ≡ after (formula_words (formula_form t) ends) p
quantified-formula place q v vs x t ends p r is are first =
    bound q (variable_forms vs) (formula_words (formula_form (box_value x)) true) p r first
    ∙ ap (λ (ws : List Variables). after (quantifier_word q ∷ variable_words (variable_forms ws) ++ period_word ∷ formula_words (formula_form (box_value x)) true) p) are
    ∙ ap (λ (y : Formula). after (formula_words (formula_form y) ends) p) (sym is)
