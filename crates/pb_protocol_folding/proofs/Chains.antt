-- Chains of terms, of formulas and of sets with one operand more in front.
use Rattle.std.proofs.Common.{◌≡◌, ◌++◌, false, if◌then◌else◌, List, [], ◌∷◌, take, drop, refl, sym, ap, ◌∙◌, Vec, Global, Box}
use Rattle.std.specs.Prelude.{box_value}
use Rattle.pb_text_tree.specs.declared.place.Place.{Place}
use Rattle.pb_text_tree.specs.declared.operator.Connective.{Connective}
use Rattle.pb_text_tree.specs.declared.operator.Arithmetic.{Arithmetic}
use Rattle.pb_text_tree.specs.declared.term.Term as term
use Rattle.pb_text_tree.specs.declared.term.Term.{Term}
use Rattle.pb_text_tree.specs.declared.term.TermLink.{TermLink}
use Rattle.pb_text_tree.specs.declared.term.ArithmeticLink.{ArithmeticLink}
use Rattle.pb_text_tree.specs.Form.{TermForm, term_form, term_links, arithmetic_links, chained, calculated}
use Rattle.pb_text_tree.proofs.FormLemmas.{term-chain, term-arithmetic}
use Rattle.pb_text_meaning.specs.Syntax as syntax
use Rattle.pb_text_meaning.specs.Erase.{of_connective, of_arithmetic, erased_term}
use Rattle.pb_model_tree.specs.declared.formula.Formula as formula
use Rattle.pb_model_tree.specs.declared.formula.Formula.{Formula, Row_of-Link, end_of-Link, more_of-Link, items-the_row-Link, items_hidden-the_row-Link-0}
use Rattle.pb_model_tree.specs.declared.formula.Link.{Link}
use Rattle.pb_model_tree.specs.declared.step_set.StepSet as step_set
use Rattle.pb_model_tree.specs.declared.step_set.StepSet.{StepSet, Row_of-StepSetLink, end_of-StepSetLink, more_of-StepSetLink, items-the_row-StepSetLink, items_hidden-the_row-StepSetLink-0}
use Rattle.pb_model_tree.specs.declared.step_set.StepSetLink.{StepSetLink}
use Rattle.pb_model_tree.specs.Form.{StepSetForm, step_set_form, step_set_links_in, FormulaForm, formula_form, links_in}
use Rattle.pb_model_meaning.specs.Erase.{joined, erased_formula, erased_steps}
use Rattle.pb_model_meaning.specs.Syntax as sets
use Rattle.pb_protocol_folding.specs.FoldedModels.{is_none, folded_union}
use Rattle.pb_protocol_folding.specs.View.{term_of, formula_of, set_of, link_forms, set_links}
use mathlib.Core.Former.{Count}

pub inserted : {A : Type 0} (xs : List A) (x : A) → take 0 xs ++ (x ∷ drop 0 xs) ≡ x ∷ xs
inserted [] x = refl
inserted (y ∷ xs) x = refl

-- ---- terms

pub longer-term : (c inner : Connective) (p : Place) (first : Box Term Global) (v : Vec TermLink Global)
    (ls : List TermLink) (operand t : Term) → t ≡ term.Chain inner first v → inner ≡ c → operand ≡ box_value first →
    ls ≡ record { place = p; operand = operand } ∷ v.items → (x : TermForm) → chained (TermForm.connected c) x (term_links ls) ≡ TermForm.connected c p x (term_form t)
longer-term c inner p first v ls operand t is same at here x =
    ap (λ ks. chained (TermForm.connected c) x (term_links ks)) here
    ∙ ap (λ y. TermForm.connected c p x (chained (TermForm.connected c) (term_form y) (term_links v.items))) at
    ∙ ap (λ d. TermForm.connected c p x (chained (TermForm.connected d) (term_form (box_value first)) (term_links v.items))) (sym same)
    ∙ ap (TermForm.connected c p x) (sym (ap term_form is ∙ term-chain inner first v))

pub chained-term : (c : Connective) (p : Place) (first : Box Term Global) (v : Vec TermLink Global) (left right : Term) → box_value first ≡ left →
    ((x : TermForm) → chained (TermForm.connected c) x (term_links v.items) ≡ TermForm.connected c p x (term_form right)) →
    term_of (term.Chain c first v) ≡ syntax.Term.Binary (of_connective c) (term_of left) (term_of right)
chained-term c p first v left right at links =
    ap erased_term (term-chain c first v ∙ links (term_form (box_value first)))
    ∙ ap (λ y. syntax.Term.Binary (of_connective c) (term_of y) (term_of right)) at

pub operated-term : (o : Arithmetic) (p : Place) (first : Box Term Global) (v : Vec ArithmeticLink Global) (left right : Term) → box_value first ≡ left →
    v.items ≡ record { place = p; operator = o; operand = right } ∷ [] →
    term_of (term.Arithmetic first v) ≡ syntax.Term.Binary (of_arithmetic o) (term_of left) (term_of right)
operated-term o p first v left right at here =
    ap erased_term (term-arithmetic first v ∙ ap (λ ls. calculated (term_form (box_value first)) (arithmetic_links ls)) here)
    ∙ ap (λ y. syntax.Term.Binary (of_arithmetic o) (term_of y) (term_of right)) at

-- ---- formulas

links-items : (n : _) (row : Row_of-Link n) → links_in row ≡ link_forms (items-the_row-Link n row)
links-items n end_of-Link = refl
links-items n (more_of-Link place operand row) = ap (λ v. (place, formula_form operand) ∷ v) (links-items _ row)

abbrev row_in : Formula → (n : Count) × Row_of-Link n
row_in (formula.Chain' c p first shape row) = (_, row)
row_in _ = (_, end_of-Link)

-- a chain says its first operand and its links
pub formula-chain : (c : Connective) (first : Box Formula Global) (v : Vec Link Global)
    → formula_form (formula.Chain c first v) ≡ chained (FormulaForm.connected c) (formula_form (box_value first)) (link_forms v.items)
formula-chain c first v =
    let row = row_in (formula.Chain c first v) in
    ap (chained (FormulaForm.connected c) (formula_form (box_value first))) (links-items row.0 row.1 ∙ ap link_forms (items_hidden-the_row-Link-0 v))

pub longer-formula : (c inner : Connective) (p : Place) (first : Box Formula Global) (v : Vec Link Global)
    (ls : List Link) (operand f : Formula) → f ≡ formula.Chain inner first v → inner ≡ c → operand ≡ box_value first →
    ls ≡ record { place = p; operand = operand } ∷ v.items → (x : FormulaForm) → chained (FormulaForm.connected c) x (link_forms ls) ≡ FormulaForm.connected c p x (formula_form f)
longer-formula c inner p first v ls operand f is same at here x =
    ap (λ ks. chained (FormulaForm.connected c) x (link_forms ks)) here
    ∙ ap (λ y. FormulaForm.connected c p x (chained (FormulaForm.connected c) (formula_form y) (link_forms v.items))) at
    ∙ ap (λ d. FormulaForm.connected c p x (chained (FormulaForm.connected d) (formula_form (box_value first)) (link_forms v.items))) (sym same)
    ∙ ap (FormulaForm.connected c p x) (sym (ap formula_form is ∙ formula-chain inner first v))

pub chained-formula : (c : Connective) (p : Place) (first : Box Formula Global) (v : Vec Link Global) (left right : Formula) → box_value first ≡ left →
    ((x : FormulaForm) → chained (FormulaForm.connected c) x (link_forms v.items) ≡ FormulaForm.connected c p x (formula_form right)) →
    formula_of (formula.Chain c first v) ≡ joined c (formula_of left) (formula_of right)
chained-formula c p first v left right at links =
    ap erased_formula (formula-chain c first v ∙ links (formula_form (box_value first)))
    ∙ ap (λ y. joined c (formula_of y) (formula_of right)) at

-- ---- sets of steps

set-links-items : (n : _) (row : Row_of-StepSetLink n) → step_set_links_in row ≡ set_links (items-the_row-StepSetLink n row)
set-links-items n end_of-StepSetLink = refl
set-links-items n (more_of-StepSetLink place operand row) = ap (λ v. (place, step_set_form operand) ∷ v) (set-links-items _ row)

abbrev set_row_in : StepSet → (n : Count) × Row_of-StepSetLink n
set_row_in (step_set.Union' p first shape row) = (_, row)
set_row_in _ = (_, end_of-StepSetLink)

-- sets with `||` between them say the first and the links
pub set-union : (first : Box StepSet Global) (v : Vec StepSetLink Global) → step_set_form (step_set.Union first v) ≡ chained StepSetForm.union (step_set_form (box_value first)) (set_links v.items)
set-union first v =
    let row = set_row_in (step_set.Union first v) in
    ap (chained StepSetForm.union (step_set_form (box_value first))) (set-links-items row.0 row.1 ∙ ap set_links (items_hidden-the_row-StepSetLink-0 v))

pub longer-set : (p : Place) (first : Box StepSet Global) (v : Vec StepSetLink Global) (ls : List StepSetLink) (operand A : StepSet) → A ≡ step_set.Union first v → operand ≡ box_value first →
    ls ≡ record { place = p; operand = operand } ∷ v.items → (x : StepSetForm) → chained StepSetForm.union x (set_links ls) ≡ StepSetForm.union p x (step_set_form A)
longer-set p first v ls operand A is at here x =
    ap (λ ks. chained StepSetForm.union x (set_links ks)) here
    ∙ ap (λ y. StepSetForm.union p x (chained StepSetForm.union (step_set_form y) (set_links v.items))) at
    ∙ ap (StepSetForm.union p x) (sym (ap step_set_form is ∙ set-union first v))

united-set : (A B : sets.StepSet) → is_none A ≡ false → is_none B ≡ false → sets.StepSet.Union A B ≡ folded_union A B
united-set A B e h =
    sym (ap (λ b. if b then B else if is_none B then A else sets.StepSet.Union A B) e ∙ ap (λ b. if b then A else sets.StepSet.Union A B) h)

pub set-of-union : (p : Place) (first : Box StepSet Global) (v : Vec StepSetLink Global) (left right : StepSet) → box_value first ≡ left →
    ((x : StepSetForm) → chained StepSetForm.union x (set_links v.items) ≡ StepSetForm.union p x (step_set_form right)) → is_none (set_of left) ≡ false → is_none (set_of right) ≡ false →
    set_of (step_set.Union first v) ≡ folded_union (set_of left) (set_of right)
set-of-union p first v left right at links e h =
    ap erased_steps (set-union first v ∙ links (step_set_form (box_value first)))
    ∙ (ap (λ y. sets.StepSet.Union (set_of y) (set_of right)) at ∙ united-set (set_of left) (set_of right) e h)
