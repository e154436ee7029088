-- How much work a formula is at most, as a measure.
use Rattle.std.proofs.Common.{◌≡◌, ℕ, zero, suc, ◌+◌, ◌<◌, List, [], ◌∷◌, length, get_or, arith, refl, ◌∙◌, ap, Vec, Global, Box}
use Rattle.std.specs.Prelude.{box_value}
use mathlib.Core.Former.{Count}
use Rattle.pb_text_tree.specs.declared.operator.Connective.{Connective}
use Rattle.pb_text_tree.specs.declared.formula.Formula as formula
use Rattle.pb_text_tree.specs.declared.formula.Formula.{Formula, Row_of-Link, end_of-Link, more_of-Link, items-the_row-Link, items_hidden-the_row-Link-0}
use Rattle.pb_text_tree.specs.declared.formula.Link.{Link}
use Rattle.pb_typing_terms.proofs.Weight.{groups_weight}

abbrev mutual
  pub weight : Formula → ℕ
  weight (formula.Constant place b) = 1
  weight (formula.Value place x) = 1
  weight (formula.Instance i) = 1
  weight (formula.Negation' place p operand) = 1 + weight operand
  weight (formula.Chain' c p first shape row) = 1 + (weight first + links_row row)
  weight (formula.Quantified' place q variables p body) = 2 + (groups_weight variables.items + weight body)

  links_row : {m : _} → Row_of-Link m → ℕ
  links_row end_of-Link = 0
  links_row (more_of-Link place operand row) = weight operand + links_row row

abbrev pub links_weight : List Link → ℕ
links_weight [] = 0
links_weight (link ∷ links) = weight link.operand + links_weight links

links-items : (n : _) (row : Row_of-Link n) → links_row row ≡ links_weight (items-the_row-Link n row)
links-items n end_of-Link = refl
links-items n (more_of-Link place operand row) = ap (λ w. weight operand + w) (links-items _ row)

abbrev links_in : Formula → (n : Count) × Row_of-Link n
links_in (formula.Chain' c p first shape row) = (_, row)
links_in _ = (_, end_of-Link)

pub weight-chain : (c : Connective) (first : Box Formula Global) (v : Vec Link Global) → weight (formula.Chain c first v) ≡ 1 + (weight (box_value first) + links_weight v.items)
weight-chain c first v =
    let row = links_in (formula.Chain c first v) in
    ap (λ w. 1 + (weight (box_value first) + w)) (links-items row.0 row.1 ∙ ap links_weight (items_hidden-the_row-Link-0 v))

pub link_lighter : (links : List Link) (k : ℕ) (link : Link) → k < length links → link ≡ get_or links k link → weight link.operand < links_weight links + 1
link_lighter [] k link lt at = absurd (omega arith)
link_lighter (l ∷ links) zero link lt at = omega (arith, ap (λ (m : Link). weight m.operand) at)
link_lighter (l ∷ links) (suc k) link lt at = omega (arith, link_lighter links k link (omega arith) at)
