-- A chain of formulas says its first operand and the operands of its links.
use Rattle.std.proofs.Common.{◌≡◌, List, [], ◌∷◌, map, refl, sym, ap, ◌∙◌, Vec, Global, Box}
use Rattle.std.specs.Prelude.{box_value}
use Rattle.pb_text_tree.specs.declared.place.Place.{Place}
use Rattle.pb_text_tree.specs.declared.operator.Connective.{Connective}
use Rattle.pb_text_tree.specs.declared.operator.Connective.TheVariants as connective
use Rattle.pb_text_tree.specs.Form.{chained}
use Rattle.pb_model_tree.specs.declared.formula.Formula as tree
use Rattle.pb_model_tree.specs.declared.formula.Formula.{Row_of-Link, end_of-Link, more_of-Link, items-the_row-Link, items_hidden-the_row-Link-0}
use Rattle.pb_model_tree.specs.declared.formula.Link.{Link}
use Rattle.pb_model_tree.specs.Form.{FormulaForm, formula_form, links_in}
use Rattle.pb_model_meaning.specs.Syntax.{Formula}
use Rattle.pb_model_meaning.specs.Erase.{joined, erased_formula}
use Rattle.pb_protocol_packing.specs.Said.{Scope}
use Rattle.pb_protocol_packing.specs.Packing.{formula_said}
use Rattle.pb_protocol_packer.specs.Formulas.{formula_of, operands_of, without_data, shape_of, link_shapes}
use mathlib.Core.Former.{Count}

abbrev link_form : Link → Place × FormulaForm
link_form link = (link.place, formula_form link.operand)

links-items : (n : _) (row : Row_of-Link n) → links_in row ≡ map link_form (items-the_row-Link n row)
links-items n end_of-Link = refl
links-items n (more_of-Link place operand row) = ap (λ v. (place, formula_form operand) ∷ v) (links-items _ row)

abbrev row_in : tree.Formula → (n : Count) × Row_of-Link n
row_in (tree.Chain' c p first shape row) = (_, row)
row_in _ = (_, end_of-Link)

chain-form : (c : Connective) (first : Box tree.Formula Global) (v : Vec Link Global)
    → formula_form (tree.Chain c first v) ≡ chained (FormulaForm.connected c) (formula_form (box_value first)) (map link_form v.items)
chain-form c first v =
    let row = row_in (tree.Chain c first v) in
    ap (chained (FormulaForm.connected c) (formula_form (box_value first))) (links-items row.0 row.1 ∙ ap (map link_form) (items_hidden-the_row-Link-0 v))

-- operands of one connective, joined to the right
abbrev pub all_joined : Connective → Formula → List Formula → Formula
all_joined c f [] = f
all_joined c f (g ∷ gs) = joined c f (all_joined c g gs)

erased-chained : (c : Connective) (x : FormulaForm) (ls : List Link) → erased_formula (chained (FormulaForm.connected c) x (map link_form ls)) ≡ all_joined c (erased_formula x) (operands_of ls)
erased-chained c x [] = refl
erased-chained c x (l ∷ ls) = ap (joined c (erased_formula x)) (erased-chained c (formula_form l.operand) ls)

chain-says : (c : Connective) (first : Box tree.Formula Global) (v : Vec Link Global) → formula_of (tree.Chain c first v) ≡ all_joined c (formula_of (box_value first)) (operands_of v.items)
chain-says c first v = ap erased_formula (chain-form c first v) ∙ erased-chained c (formula_form (box_value first)) v.items

bare-chained : (c : Connective) (x : FormulaForm) (ls : List Link)
    → without_data (chained (FormulaForm.connected c) x (map link_form ls))
    ≡ chained (FormulaForm.connected c) (without_data x) (link_shapes ls)
bare-chained c x [] = refl
bare-chained c x (l ∷ ls) = ap (FormulaForm.connected c l.place (without_data x)) (bare-chained c (formula_form l.operand) ls)

chain-shape : (c : Connective) (first : Box tree.Formula Global) (v : Vec Link Global)
    → shape_of (tree.Chain c first v) ≡ chained (FormulaForm.connected c) (shape_of (box_value first)) (link_shapes v.items)
chain-shape c first v = ap without_data (chain-form c first v) ∙ bare-chained c (formula_form (box_value first)) v.items

-- as the code meets it
pub at-chain : (c : Connective) (x : tree.Formula) (p : Box tree.Formula Global) (v : Vec Link Global) (ls : List Link) (f : tree.Formula) → f ≡ tree.Chain c p v → x ≡ box_value p → ls ≡ v.items
    → formula_of f ≡ all_joined c (formula_of x) (operands_of ls)
at-chain c x p v ls f is at same =
    ap formula_of is ∙ chain-says c p v ∙ ap (λ (y : tree.Formula). all_joined c (formula_of y) (operands_of v.items)) (sym at)
    ∙ ap (λ (ks : List Link). all_joined c (formula_of x) (operands_of ks)) (sym same)

said-joined : (σ : Scope) (c : Connective) (f : Formula) (gs : List Formula) → formula_said σ (all_joined c f gs) ≡ all_joined c (formula_said σ f) (map (formula_said σ) gs)
said-joined σ c f [] = refl
said-joined σ c f (g ∷ gs) = by c ∙ ap (joined c (formula_said σ f)) (said-joined σ c g gs)
  where
    by : (c : Connective) → formula_said σ (joined c f (all_joined c g gs)) ≡ joined c (formula_said σ f) (formula_said σ (all_joined c g gs))
    by connective.And = refl
    by connective.Or = refl
    by connective.Implies = refl

-- ---- a chain that is said, as the code makes it

pub said-chain : (σ : Scope) (c : Connective) (p q : Box tree.Formula Global) (v w : Vec Link Global) (ls : List Link) (f : tree.Formula) → f ≡ tree.Chain c p v → ls ≡ v.items
    → formula_of (box_value q) ≡ formula_said σ (formula_of (box_value p)) → operands_of w.items ≡ map (formula_said σ) (operands_of ls)
    → formula_of (tree.Chain c q w) ≡ formula_said σ (formula_of f)
said-chain σ c p q v w ls f is same first others =
    chain-says c q w ∙ ap (λ (g : Formula). all_joined c g (operands_of w.items)) first
    ∙ ap (all_joined c (formula_said σ (formula_of (box_value p)))) (others ∙ ap (λ (ks : List Link). map (formula_said σ) (operands_of ks)) same)
    ∙ sym (said-joined σ c (formula_of (box_value p)) (operands_of v.items))
    ∙ ap (formula_said σ) (sym (ap formula_of is ∙ chain-says c p v))

pub same-shape : (c : Connective) (p q : Box tree.Formula Global) (v w : Vec Link Global) (ls : List Link) (f : tree.Formula) → f ≡ tree.Chain c p v → ls ≡ v.items
    → shape_of (box_value q) ≡ shape_of (box_value p) → link_shapes w.items ≡ link_shapes ls → shape_of (tree.Chain c q w) ≡ shape_of f
same-shape c p q v w ls f is same first others =
    chain-shape c q w ∙ ap (λ (x : FormulaForm). chained (FormulaForm.connected c) x (link_shapes w.items)) first
    ∙ ap (chained (FormulaForm.connected c) (shape_of (box_value p))) (others ∙ ap link_shapes same)
    ∙ sym (ap shape_of is ∙ chain-shape c p v)
