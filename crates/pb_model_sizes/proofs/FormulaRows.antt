-- Formulas that are joined, as the code meets them: a first one and links.
use Rattle.std.proofs.Common.{◌≡◌, ◌∙◌, ℕ, ◌+◌, ◌<◌, Bool, List, [], ◌∷◌, length, get_or, drop, refl, sym, ap, arith, Some, None, Vec, Box, Global}
use Rattle.std.specs.Prelude.{box_value}
use Rattle.std.specs.List.{slice_get}
use Rattle.pb_sorts.proofs.Places.{drop-at}
use Rattle.pb_text_tree.specs.declared.place.Place.{Place}
use Rattle.pb_text_tree.specs.declared.operator.Connective.{Connective}
use Rattle.pb_text_tree.specs.Form.{chained}
use Rattle.pb_text_meaning.specs.Syntax.{Spec}
use Rattle.pb_protocol_tree.specs.declared.formula.Formula as formula
use Rattle.pb_protocol_tree.specs.declared.formula.Formula.{Formula, Row_of-Link, end_of-Link, more_of-Link, items-the_row-Link, items_hidden-the_row-Link-0}
use Rattle.pb_protocol_tree.specs.declared.formula.Link.{Link}
use Rattle.pb_protocol_tree.specs.Form.{FormulaForm, formula_form, links_in}
use Rattle.pb_model_sizes.specs.Equations.{formula_equations}
use Rattle.pb_model_sizes.specs.Links.{links_count}
use mathlib.Core.Former.{Count}

abbrev formula_row : Formula → (n : Count) × Row_of-Link n
formula_row (formula.Chain' c p first shape row) = (_, row)
formula_row _ = (_, end_of-Link)

-- ---- how many equations they have

row-count : (spec : Spec) (c : Connective) (f : FormulaForm) (n : _) (row : Row_of-Link n)
    → formula_equations spec (chained (FormulaForm.connected c) f (links_in row)) ≡ formula_equations spec f + links_count spec (items-the_row-Link n row)
row-count spec c f n end_of-Link = omega arith
row-count spec c f n (more_of-Link place operand row) = ap (λ (m : ℕ). formula_equations spec f + m) (row-count spec c (formula_form operand) _ row)

pub chain-count : (spec : Spec) (f x : Formula) (c : Connective) (p : Box Formula Global) (v : Vec Link Global) (ls : List Link) → f ≡ formula.Chain c p v → x ≡ box_value p → ls ≡ v.items
    → formula_equations spec (formula_form f) ≡ formula_equations spec (formula_form x) + links_count spec ls
chain-count spec f x c p v ls is at same =
    let row = formula_row (formula.Chain c p v) in
    let first = formula_form (box_value p) in
    ap (λ (g : Formula). formula_equations spec (formula_form g)) is
    ∙ (row-count spec c first row.0 row.1
    ∙ (ap (λ (ks : List Link). formula_equations spec first + links_count spec ks) (items_hidden-the_row-Link-0 v ∙ sym same)
    ∙ ap (λ (g : Formula). formula_equations spec (formula_form g) + links_count spec ls) (sym at)))

pub links-next : (spec : Spec) (links : List Link) (k : ℕ) (link : Link) → k < length links → link ≡ get_or links k link
    → links_count spec (drop k links) ≡ formula_equations spec (formula_form link.operand) + links_count spec (drop (k + 1) links)
links-next spec links k link below at = ap (links_count spec) (drop-at links k link below at)

-- ---- a test that is the same of all that are joined

abbrev of_chain : Bool → Bool → List Link → Bool
of_chain alone joined [] = alone
of_chain alone joined (link ∷ links) = joined

module _ (test : FormulaForm → Bool) (b : Bool) (joined : (c : Connective) (p : Place) (f g : FormulaForm) → test (FormulaForm.connected c p f g) ≡ b) where
  row-test : (c : Connective) (f : FormulaForm) (n : _) (row : Row_of-Link n)
      → test (chained (FormulaForm.connected c) f (links_in row)) ≡ of_chain (test f) b (items-the_row-Link n row)
  row-test c f n end_of-Link = refl
  row-test c f n (more_of-Link place operand row) = joined c place f (chained (FormulaForm.connected c) (formula_form operand) (links_in row))

  test-said : (f x : Formula) (c : Connective) (p : Box Formula Global) (v : Vec Link Global) (ls : List Link) → f ≡ formula.Chain c p v → x ≡ box_value p → ls ≡ v.items
      → test (formula_form f) ≡ of_chain (test (formula_form x)) b ls
  test-said f x c p v ls is at same =
      let row = formula_row (formula.Chain c p v) in
      ap (λ (g : Formula). test (formula_form g)) is
      ∙ (row-test c (formula_form (box_value p)) row.0 row.1
      ∙ (ap (of_chain (test (formula_form (box_value p))) b) (items_hidden-the_row-Link-0 v ∙ sym same)
      ∙ ap (λ (g : Formula). of_chain (test (formula_form g)) b ls) (sym at)))

  pub test-alone : (f x : Formula) (c : Connective) (p : Box Formula Global) (v : Vec Link Global) (ls : List Link) → f ≡ formula.Chain c p v → x ≡ box_value p → ls ≡ v.items → None ≡ slice_get ls 0
      → test (formula_form f) ≡ test (formula_form x)
  test-alone f x c p v [] is at same none = test-said f x c p v [] is at same
  test-alone f x c p v (l ∷ ls) is at same none = cc

  pub test-several : (f : Formula) (c : Connective) (p : Box Formula Global) (v : Vec Link Global) (ls : List Link) (l : Link) → f ≡ formula.Chain c p v → ls ≡ v.items → Some l ≡ slice_get ls 0
      → test (formula_form f) ≡ b
  test-several f c p v [] l is same some = cc
  test-several f c p v (k ∷ ls) l is same some = test-said f (box_value p) c p v (k ∷ ls) is refl same
