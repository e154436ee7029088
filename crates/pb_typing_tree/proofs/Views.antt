-- The operands of a chain, as they stand in its node, are those of its vector.
use Rattle.std.proofs.Common.{◌≡◌, refl, ◌∙◌, ap, ◌∷◌, Vec, Global, Box}
use Rattle.std.specs.Prelude.{box_value}
use Rattle.pb_text_tree.specs.declared.operator.Connective.{Connective}
use Rattle.pb_text_meaning.specs.Erase.{of_connective}
use Rattle.pb_typing_tree.specs.Tree.{Binary, Connected}
use Rattle.pb_typing_tree.specs.declared.term.Term as term
use Rattle.pb_typing_tree.specs.declared.term.Term.{Term, Row_of-Term, end_of-Term, more_of-Term, items-the_row-Term, items_hidden-the_row-Term-0, Row_of-Link, end_of-Link, more_of-Link, items-the_row-Link, items_hidden-the_row-Link-1}
use Rattle.pb_typing_tree.specs.declared.term.Link.{Link}
use Rattle.pb_typing_tree.specs.View.{term_view, terms_in, links_in, term_views, link_views, chained_formula, term_of_operands, formula_view, formulas_in, formula_views}
use Rattle.pb_typing_tree.specs.declared.formula.Formula as formula
use Rattle.pb_typing_tree.specs.declared.formula.Formula.{Formula, Row_of-Formula, end_of-Formula, more_of-Formula, items-the_row-Formula, items_hidden-the_row-Formula-0}
use mathlib.Core.Former.{Count}

pub terms-items : (n : _) (row : Row_of-Term n) → terms_in row ≡ term_views (items-the_row-Term n row)
terms-items n end_of-Term = refl
terms-items n (more_of-Term x row) = ap (λ v. term_view x ∷ v) (terms-items _ row)

abbrev term_row_in : Term → (n : Count) × Row_of-Term n
term_row_in (term.Chain' c p first shape row) = (_, row)
term_row_in _ = (_, end_of-Term)

pub term-chain : (c : Connective) (first : Box Term Global) (v : Vec Term Global)
    → term_view (term.Chain c first v) ≡ chained_formula (Binary (of_connective c)) (term_view (box_value first)) (term_views v.items)
term-chain c first v =
    let row = term_row_in (term.Chain c first v) in
    ap (chained_formula (Binary (of_connective c)) (term_view (box_value first))) (terms-items row.0 row.1 ∙ ap term_views (items_hidden-the_row-Term-0 v))

pub links-items : (n : _) (row : Row_of-Link n) → links_in row ≡ link_views (items-the_row-Link n row)
links-items n end_of-Link = refl
links-items n (more_of-Link operator operand row) = ap (λ v. (operator, term_view operand) ∷ v) (links-items _ row)

abbrev link_row_in : Term → (n : Count) × Row_of-Link n
link_row_in (term.Arithmetic' p first shape row) = (_, row)
link_row_in _ = (_, end_of-Link)

pub term-arithmetic : (first : Box Term Global) (v : Vec Link Global) → term_view (term.Arithmetic first v) ≡ term_of_operands (term_view (box_value first)) (link_views v.items)
term-arithmetic first v =
    let row = link_row_in (term.Arithmetic first v) in
    ap (term_of_operands (term_view (box_value first))) (links-items row.0 row.1 ∙ ap link_views (items_hidden-the_row-Link-1 v))

pub formulas-items : (n : _) (row : Row_of-Formula n) → formulas_in row ≡ formula_views (items-the_row-Formula n row)
formulas-items n end_of-Formula = refl
formulas-items n (more_of-Formula x row) = ap (λ v. formula_view x ∷ v) (formulas-items _ row)

abbrev formula_row_in : Formula → (n : Count) × Row_of-Formula n
formula_row_in (formula.Chain' c p first shape row) = (_, row)
formula_row_in _ = (_, end_of-Formula)

pub formula-chain : (c : Connective) (first : Box Formula Global) (v : Vec Formula Global)
    → formula_view (formula.Chain c first v) ≡ chained_formula (Connected c) (formula_view (box_value first)) (formula_views v.items)
formula-chain c first v =
    let row = formula_row_in (formula.Chain c first v) in
    ap (chained_formula (Connected c) (formula_view (box_value first))) (formulas-items row.0 row.1 ∙ ap formula_views (items_hidden-the_row-Formula-0 v))
