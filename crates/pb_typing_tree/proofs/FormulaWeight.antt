-- How much work a typed formula is at most, as a measure; the operands of a chain, as they stand in its node.
use Rattle.std.proofs.Common.{◌≡◌, ℕ, zero, suc, ◌+◌, ◌<◌, ◌≤◌, List, [], ◌∷◌, length, get_or, arith, refl, sym, ◌∙◌, ap, Vec, Global, Box}
use Rattle.std.specs.Prelude.{box_value}
use mathlib.Core.Former.{Count}
use Rattle.pb_text_tree.specs.declared.operator.Connective.{Connective}
use Rattle.pb_typing_tree.specs.Tree.{Connected}
use Rattle.pb_typing_tree.specs.declared.formula.Formula as formula
use Rattle.pb_typing_tree.specs.declared.formula.Formula.{Formula, Row_of-Formula, end_of-Formula, more_of-Formula, items-the_row-Formula, items_hidden-the_row-Formula-0}
use Rattle.pb_typing_tree.specs.View.{formula_view, formula_views, chained_formula}
use Rattle.pb_typing_tree.proofs.Views.{formula-chain}

abbrev mutual
  pub weight : Formula → ℕ
  weight (formula.Test x) = 1
  weight (formula.Negation' p f) = 8 + weight f
  weight (formula.Chain' connective p first shape row) = 8 + (weight first + links_row row)
  weight (formula.Quantified' quantifier slot carriers p body) = 8 + weight body
  weight (formula.Call place equation arguments) = 1

  links_row : {m : _} → Row_of-Formula m → ℕ
  links_row end_of-Formula = 0
  links_row (more_of-Formula x row) = weight x + links_row row

abbrev pub links_weight : List Formula → ℕ
links_weight [] = 0
links_weight (x ∷ xs) = weight x + links_weight xs

weights-items : (n : _) (row : Row_of-Formula n) → links_row row ≡ links_weight (items-the_row-Formula n row)
weights-items n end_of-Formula = refl
weights-items n (more_of-Formula x row) = ap (λ w. weight x + w) (weights-items _ row)

abbrev row_in : Formula → (n : Count) × Row_of-Formula n
row_in (formula.Chain' c p first shape row) = (_, row)
row_in _ = (_, end_of-Formula)

pub weight-chain : (c : Connective) (first : Box Formula Global) (v : Vec Formula Global) → weight (formula.Chain c first v) ≡ 8 + (weight (box_value first) + links_weight v.items)
weight-chain c first v =
    let row = row_in (formula.Chain c first v) in
    ap (λ w. 8 + (weight (box_value first) + w)) (weights-items row.0 row.1 ∙ ap links_weight (items_hidden-the_row-Formula-0 v))

-- an operand weighs no more than all of them
pub operand_lighter : (xs : List Formula) (k : ℕ) (x : Formula) → k < length xs → x ≡ get_or xs k x → weight x ≤ links_weight xs
operand_lighter [] k x below at = absurd (omega (arith, below))
operand_lighter (y ∷ xs) zero x below at = omega (arith, ap weight at)
operand_lighter (y ∷ xs) (suc k) x below at = omega (arith, operand_lighter xs k x (omega (arith, below)) at)

-- what the code's words for a chain say
pub chain_is : (t x : Formula) (c : Connective) (first : Box Formula Global) (v : Vec Formula Global) (rest : List Formula) → t ≡ formula.Chain c first v → x ≡ box_value first → rest ≡ v.items
    → chained_formula (Connected c) (formula_view x) (formula_views rest) ≡ formula_view t
chain_is t x c first v rest is same are =
    ap (λ (y : Formula). chained_formula (Connected c) (formula_view y) (formula_views rest)) same
    ∙ (ap (λ (fs : List Formula). chained_formula (Connected c) (formula_view (box_value first)) (formula_views fs)) are
    ∙ sym (ap formula_view is ∙ formula-chain c first v))
