-- The lists of variables of operands that are joined, as the code meets them.
use Rattle.std.proofs.Common.{◌≡◌, ℕ, ◌+◌, ◌<◌, List, [], ◌∷◌, ◌++◌, length, get_or, drop, sym, ◌∙◌, ap, Result, Ok, Err, OnOk, Vec, Box, Global}
use Rattle.std.specs.Prelude.{box_value}
use Rattle.std.proofs.lemmas.List.{append-nil, append_assoc}
use Rattle.pb_sorts.proofs.Places.{drop-at}
use Rattle.pb_text_tree.specs.declared.operator.Connective.{Connective}
use Rattle.pb_text_tree.specs.declared.name.Name as declared_name
use Rattle.pb_text_tree.specs.declared.term.Term as term
use Rattle.pb_text_tree.specs.declared.term.Term.{Term}
use Rattle.pb_text_tree.specs.declared.term.TermLink.{TermLink}
use Rattle.pb_text_tree.specs.declared.term.ArithmeticLink.{ArithmeticLink}
use Rattle.pb_text_tree.specs.declared.term.Argument.{Argument}
use Rattle.pb_text_tree.specs.Form.{VariableForm, TermForm, term_form, term_links, arithmetic_links, argument_forms, chained, calculated}
use Rattle.pb_text_tree.proofs.FormLemmas.{term-chain, term-arithmetic, term-application}
use Rattle.pb_protocol_tree.specs.declared.formula.Formula as formula
use Rattle.pb_protocol_tree.specs.declared.formula.Formula.{Formula, Row_of-Link, end_of-Link, more_of-Link, items-the_row-Link, items_hidden-the_row-Link-0}
use Rattle.pb_protocol_tree.specs.declared.formula.Link.{Link}
use Rattle.pb_protocol_tree.specs.Form.{FormulaForm, formula_form, links_in}
use Rattle.pb_protocol_typing.specs.Lists.{term_lists, arguments_lists, formula_lists}
use Rattle.pb_protocol_typing.specs.ListLinks.{links_lists, operations_lists, operands_lists}
use mathlib.Core.Former.{Count}

abbrev Lists : Type 0
Lists = List (List VariableForm)

chain-lists : (c : Connective) (f : TermForm) (ls : List TermLink) → term_lists (chained (TermForm.connected c) f (term_links ls)) ≡ term_lists f ++ links_lists ls
chain-lists c f [] = sym (append-nil (term_lists f))
chain-lists c f (l ∷ ls) = ap (λ (xs : Lists). term_lists f ++ xs) (chain-lists c (term_form l.operand) ls)

pub chain-said : (t x : Term) (c : Connective) (p : Box Term Global) (v : Vec TermLink Global) (ls : List TermLink) → t ≡ term.Chain c p v → x ≡ box_value p → ls ≡ v.items
    → term_lists (term_form t) ≡ term_lists (term_form x) ++ links_lists ls
chain-said t x c p v ls is at same =
    ap (λ u. term_lists (term_form u)) is ∙ (ap term_lists (term-chain c p v) ∙ (chain-lists c (term_form (box_value p)) v.items
    ∙ (ap (λ ks. term_lists (term_form (box_value p)) ++ links_lists ks) (sym same) ∙ ap (λ u. term_lists (term_form u) ++ links_lists ls) (sym at))))

arithmetic-lists : (f : TermForm) (ls : List ArithmeticLink) → term_lists (calculated f (arithmetic_links ls)) ≡ term_lists f ++ operations_lists ls
arithmetic-lists f [] = sym (append-nil (term_lists f))
arithmetic-lists f (l ∷ ls) =
    arithmetic-lists (TermForm.computed l.operator l.place f (term_form l.operand)) ls ∙ append_assoc (term_lists f) (term_lists (term_form l.operand)) (operations_lists ls)

pub arithmetic-said : (t x : Term) (p : Box Term Global) (v : Vec ArithmeticLink Global) (ls : List ArithmeticLink) → t ≡ term.Arithmetic p v → x ≡ box_value p → ls ≡ v.items
    → term_lists (term_form t) ≡ term_lists (term_form x) ++ operations_lists ls
arithmetic-said t x p v ls is at same =
    ap (λ u. term_lists (term_form u)) is ∙ (ap term_lists (term-arithmetic p v) ∙ (arithmetic-lists (term_form (box_value p)) v.items
    ∙ (ap (λ ks. term_lists (term_form (box_value p)) ++ operations_lists ks) (sym same) ∙ ap (λ u. term_lists (term_form u) ++ operations_lists ls) (sym at))))

pub application-said : (t : Term) (f : declared_name.Name) (v : Vec Argument Global) (es : List Argument) → t ≡ term.Application f v → es ≡ v.items
    → term_lists (term_form t) ≡ arguments_lists (argument_forms es)
application-said t f v es is same =
    ap (λ u. term_lists (term_form u)) is ∙ (ap term_lists (term-application f v) ∙ ap (λ ks. arguments_lists (argument_forms ks)) (sym same))

pub argument-next : (es : List Argument) (k : ℕ) (e : Argument) → k < length es → e ≡ get_or es k e
    → arguments_lists (argument_forms (drop k es)) ≡ term_lists (term_form e.term) ++ arguments_lists (argument_forms (drop (k + 1) es))
argument-next es k e below at = ap (λ (xs : List Argument). arguments_lists (argument_forms xs)) (drop-at es k e below at)

-- ---- formulas

row-lists : (c : Connective) (f : FormulaForm) (n : _) (row : Row_of-Link n)
    → formula_lists (chained (FormulaForm.connected c) f (links_in row)) ≡ formula_lists f ++ operands_lists (items-the_row-Link n row)
row-lists c f n end_of-Link = sym (append-nil (formula_lists f))
row-lists c f n (more_of-Link place operand row) = ap (λ (xs : Lists). formula_lists f ++ xs) (row-lists c (formula_form operand) _ row)

abbrev formula_row : Formula → (n : Count) × Row_of-Link n
formula_row (formula.Chain' c p first shape row) = (_, row)
formula_row _ = (_, end_of-Link)

pub operands-said : (f x : Formula) (c : Connective) (p : Box Formula Global) (v : Vec Link Global) (ls : List Link) → f ≡ formula.Chain c p v → x ≡ box_value p → ls ≡ v.items
    → formula_lists (formula_form f) ≡ formula_lists (formula_form x) ++ operands_lists ls
operands-said f x c p v ls is at same =
    let row = formula_row (formula.Chain c p v) in
    let first = formula_form (box_value p) in
    ap (λ (g : Formula). formula_lists (formula_form g)) is
    ∙ (row-lists c first row.0 row.1
    ∙ (ap (λ (ks : List Link). formula_lists first ++ operands_lists ks) (items_hidden-the_row-Link-0 v ∙ sym same)
    ∙ ap (λ (g : Formula). formula_lists (formula_form g) ++ operands_lists ls) (sym at)))

-- lists behind those before, part by part
pub two_parts : (old mid new xs ys all : Lists) → mid ≡ old ++ xs → new ≡ mid ++ ys → all ≡ xs ++ ys → new ≡ old ++ all
two_parts old mid new xs ys all first second is =
    second ∙ (ap (λ (zs : Lists). zs ++ ys) first ∙ (append_assoc old xs ys ∙ ap (λ (zs : Lists). old ++ zs) (sym is)))

pub then_parts : {E : Type 0} (r : Result (Unit {0}) E) (old mid new xs ys all : Lists) → mid ≡ old ++ xs → OnOk r (new ≡ mid ++ ys) → all ≡ xs ++ ys → OnOk r (new ≡ old ++ all)
then_parts (Ok u) old mid new xs ys all first second is = two_parts old mid new xs ys all first second is
then_parts (Err e) old mid new xs ys all first second is = second
