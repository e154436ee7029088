-- The links of a chain and the arguments of an application, as they stand in their node, are those of its vector.
use Rattle.std.proofs.Common.{◌≡◌, refl, ◌∙◌, ap, ◌∷◌, Vec, Global, Box}
use Rattle.std.specs.Prelude.{box_value}
use Rattle.pb_text_tree.specs.declared.operator.Connective.{Connective}
use Rattle.pb_text_tree.specs.declared.name.Name.{Name}
use Rattle.pb_text_tree.specs.declared.formula.Formula as formula
use Rattle.pb_text_tree.specs.declared.formula.Formula.{Formula, Row_of-Link, end_of-Link, more_of-Link, items-the_row-Link, items_hidden-the_row-Link-0}
use Rattle.pb_text_tree.specs.declared.formula.Link.{Link}
use Rattle.pb_text_tree.specs.declared.term.Term as term
use Rattle.pb_text_tree.specs.declared.term.Term.{Term, Row_of-TermLink, end_of-TermLink, more_of-TermLink, items-the_row-TermLink, items_hidden-the_row-TermLink-0, Row_of-ArithmeticLink, end_of-ArithmeticLink, more_of-ArithmeticLink, items-the_row-ArithmeticLink, items_hidden-the_row-ArithmeticLink-1, Row_of-Argument, end_of-Argument, more_of-Argument, items-the_row-Argument, items_hidden-the_row-Argument-2}
use Rattle.pb_text_tree.specs.declared.term.TermLink.{TermLink}
use Rattle.pb_text_tree.specs.declared.term.ArithmeticLink.{ArithmeticLink}
use Rattle.pb_text_tree.specs.declared.term.Argument.{Argument}
use Rattle.pb_text_tree.specs.Form.{FormulaForm, TermForm, named, formula_form, links_in, link_forms, chained, calculated, term_form, term_links_in, term_links, arithmetic_links_in, arithmetic_links, arguments_in, argument_forms, argument}
use mathlib.Core.Former.{Count}

-- ---- formulas

links-items : (n : _) (row : Row_of-Link n) → links_in row ≡ link_forms (items-the_row-Link n row)
links-items n end_of-Link = refl
links-items n (more_of-Link place operand row) = ap (λ v. (place, formula_form operand) ∷ v) (links-items _ row)

abbrev row_in : Formula → (n : Count) × Row_of-Link n
row_in (formula.Chain' c p first shape row) = (_, row)
row_in _ = (_, end_of-Link)

-- a chain says its first operand and its links
pub formula-chain : (c : Connective) (first : Box Formula Global) (v : Vec Link Global)
    → formula_form (formula.Chain c first v) ≡ chained (FormulaForm.connected c) (formula_form (box_value first)) (link_forms v.items)
formula-chain c first v =
    let row = row_in (formula.Chain c first v) in
    ap (chained (FormulaForm.connected c) (formula_form (box_value first))) (links-items row.0 row.1 ∙ ap link_forms (items_hidden-the_row-Link-0 v))

-- ---- terms

term-links-items : (n : _) (row : Row_of-TermLink n) → term_links_in row ≡ term_links (items-the_row-TermLink n row)
term-links-items n end_of-TermLink = refl
term-links-items n (more_of-TermLink place operand row) = ap (λ v. (place, term_form operand) ∷ v) (term-links-items _ row)

abbrev term_row_in : Term → (n : Count) × Row_of-TermLink n
term_row_in (term.Chain' c p first shape row) = (_, row)
term_row_in _ = (_, end_of-TermLink)

-- a chain says its first operand and its links
pub term-chain : (c : Connective) (first : Box Term Global) (v : Vec TermLink Global)
    → term_form (term.Chain c first v) ≡ chained (TermForm.connected c) (term_form (box_value first)) (term_links v.items)
term-chain c first v =
    let row = term_row_in (term.Chain c first v) in
    ap (chained (TermForm.connected c) (term_form (box_value first))) (term-links-items row.0 row.1 ∙ ap term_links (items_hidden-the_row-TermLink-0 v))

arithmetic-links-items : (n : _) (row : Row_of-ArithmeticLink n) → arithmetic_links_in row ≡ arithmetic_links (items-the_row-ArithmeticLink n row)
arithmetic-links-items n end_of-ArithmeticLink = refl
arithmetic-links-items n (more_of-ArithmeticLink place operator operand row) = ap (λ v. (operator, place, term_form operand) ∷ v) (arithmetic-links-items _ row)

abbrev arithmetic_row_in : Term → (n : Count) × Row_of-ArithmeticLink n
arithmetic_row_in (term.Arithmetic' p first shape row) = (_, row)
arithmetic_row_in _ = (_, end_of-ArithmeticLink)

-- a chain of arithmetic says its first operand and its links
pub term-arithmetic : (first : Box Term Global) (v : Vec ArithmeticLink Global) → term_form (term.Arithmetic first v) ≡ calculated (term_form (box_value first)) (arithmetic_links v.items)
term-arithmetic first v =
    let row = arithmetic_row_in (term.Arithmetic first v) in
    ap (calculated (term_form (box_value first))) (arithmetic-links-items row.0 row.1 ∙ ap arithmetic_links (items_hidden-the_row-ArithmeticLink-1 v))

arguments-items : (n : _) (row : Row_of-Argument n) → arguments_in row ≡ argument_forms (items-the_row-Argument n row)
arguments-items n end_of-Argument = refl
arguments-items n (more_of-Argument place operand row) = ap (argument place (term_form operand)) (arguments-items _ row)

abbrev argument_row_in : Term → (n : Count) × Row_of-Argument n
argument_row_in (term.Application' f shape row) = (_, row)
argument_row_in _ = (_, end_of-Argument)

-- an application says its function and its arguments
pub term-application : (f : Name) (v : Vec Argument Global) → term_form (term.Application f v) ≡ TermForm.application (named f) (argument_forms v.items)
term-application f v =
    let row = argument_row_in (term.Application f v) in
    ap (TermForm.application (named f)) (arguments-items row.0 row.1 ∙ ap argument_forms (items_hidden-the_row-Argument-2 v))
