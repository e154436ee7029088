-- How much work a formula in normal form is at most, as a measure; the operands of a chain, as they stand in its node.
use Rattle.std.proofs.Common.{◌≡◌, ℕ, zero, suc, ◌+◌, ◌<◌, List, [], ◌∷◌, length, get_or, None, arith, refl, sym, ◌∙◌, ap, Vec, Global, Box}
use Rattle.std.specs.Prelude.{box_value}
use Rattle.std.proofs.lemmas.List.{nil_from_length}
use mathlib.Core.Former.{Count}
use Rattle.pb_sorts.specs.declared.carrier.Carrier.{Carrier}
use Rattle.pb_text_tree.specs.declared.operator.Quantifier.{Quantifier}
use Rattle.pb_normal.specs.Normal as normal
use Rattle.pb_normal.specs.Normal.{Join}
use Rattle.pb_fixpoint_trees.specs.declared.junction.Junction.{Junction}
use Rattle.pb_normal.specs.declared.formula.Formula as formula
use Rattle.pb_normal.specs.declared.formula.Formula.{Formula, Row_of-Formula, end_of-Formula, more_of-Formula, items-the_row-Formula, items_hidden-the_row-Formula-0}
use Rattle.pb_normal.specs.View.{formula_view, formula_views, chained_formula, nested}
use Rattle.pb_normal.proofs.Views.{formula-join}
use Rattle.pb_assembler_scheme.specs.Scheme.{test_of}

abbrev mutual
  pub weight : Formula → ℕ
  weight (formula.Test polarity x) = 1
  weight (formula.Join' junction p first shape row) = 8 + (weight first + formulas_row row)
  weight (formula.Each' quantifier slot carriers p body) = 8 + weight body
  weight (formula.Call equation arguments) = 1

  formulas_row : {m : _} → Row_of-Formula m → ℕ
  formulas_row end_of-Formula = 0
  formulas_row (more_of-Formula x row) = weight x + formulas_row row

abbrev pub formulas_weight : List Formula → ℕ
formulas_weight [] = 0
formulas_weight (x ∷ xs) = weight x + formulas_weight xs

weights-items : (n : _) (row : Row_of-Formula n) → formulas_row row ≡ formulas_weight (items-the_row-Formula n row)
weights-items n end_of-Formula = refl
weights-items n (more_of-Formula x row) = ap (λ w. weight x + w) (weights-items _ row)

abbrev row_in : Formula → (n : Count) × Row_of-Formula n
row_in (formula.Join' c p first shape row) = (_, row)
row_in _ = (_, end_of-Formula)

pub weight-join : (c : Junction) (first : Box Formula Global) (v : Vec Formula Global) → weight (formula.Join c first v) ≡ 8 + (weight (box_value first) + formulas_weight v.items)
weight-join c first v =
    let row = row_in (formula.Join c first v) in
    ap (λ w. 8 + (weight (box_value first) + w)) (weights-items row.0 row.1 ∙ ap formulas_weight (items_hidden-the_row-Formula-0 v))

-- in the code's words
pub join_is : (t x : Formula) (c : Junction) (first : Box Formula Global) (v : Vec Formula Global) (rest : List Formula) → t ≡ formula.Join c first v → x ≡ box_value first → rest ≡ v.items
    → chained_formula (Join c) (formula_view x) (formula_views rest) ≡ formula_view t
join_is t x c first v rest is same are =
    ap (λ (y : Formula). chained_formula (Join c) (formula_view y) (formula_views rest)) same
    ∙ ap (λ (fs : List Formula). chained_formula (Join c) (formula_view (box_value first)) (formula_views fs)) are
    ∙ sym (ap formula_view is ∙ formula-join c first v)

pub join_weighs : (t x : Formula) (c : Junction) (first : Box Formula Global) (v : Vec Formula Global) (rest : List Formula) → t ≡ formula.Join c first v → x ≡ box_value first → rest ≡ v.items
    → weight t ≡ 8 + (weight x + formulas_weight rest)
join_weighs t x c first v rest is same are =
    ap weight is ∙ weight-join c first v
    ∙ sym (ap (λ (y : Formula). 8 + (weight y + formulas_weight rest)) same ∙ ap (λ (fs : List Formula). 8 + (weight (box_value first) + formulas_weight fs)) are)

pub positive : (f : Formula) → 0 < weight f
positive (formula.Test polarity x) = omega arith
positive (formula.Join' junction p first shape row) = omega arith
positive (formula.Each' quantifier slot carriers p body) = omega arith
positive (formula.Call equation arguments) = omega arith

pub formula_lighter : (fs : List Formula) (k : ℕ) (f : Formula) → k < length fs → f ≡ get_or fs k f → weight f < formulas_weight fs + 1
formula_lighter [] k f lt at = absurd (omega arith)
formula_lighter (g ∷ fs) zero f lt at = omega (arith, ap weight at)
formula_lighter (g ∷ fs) (suc k) f lt at = omega (arith, formula_lighter fs k f (omega arith) at)

-- a chain of one operand, and one of several
pub alone : (t x : Formula) (c : Junction) (first : Box Formula Global) (v : Vec Formula Global)
    → t ≡ formula.Join c first v → x ≡ box_value first → length v.items ≡ 0 → formula_view x ≡ formula_view t
alone t x c first v is same none = join_is t x c first v [] is same (sym (nil_from_length v.items none))

pub several : (t : Formula) (c : Junction) (first : Box Formula Global) (v : Vec Formula Global) → t ≡ formula.Join c first v → 0 < length v.items → None ≡ test_of (formula_view t)
several t c first v is some = by v.items some ∙ ap test_of (join_is t (box_value first) c first v v.items is refl refl)
  where
    by : (fs : List Formula) → 0 < length fs → None ≡ test_of (chained_formula (Join c) (formula_view (box_value first)) (formula_views fs))
    by [] l = absurd (omega arith)
    by (f ∷ fs) l = refl

pub no_test : (q : Quantifier) (s : ℕ) (cs : List Carrier) (f : normal.Formula) → 0 < length cs → None ≡ test_of (nested q s cs f)
no_test q s [] f l = absurd (omega arith)
no_test q s (c ∷ cs) f l = refl
