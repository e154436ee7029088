-- How much work a typed data term is at most, as a measure.
use Rattle.std.proofs.Common.{◌≡◌, ℕ, zero, suc, ◌+◌, ◌<◌, List, [], ◌∷◌, length, get_or, arith, refl, ◌∙◌, ap, Vec, Global, Box}
use Rattle.std.specs.Prelude.{box_value}
use mathlib.Core.Former.{Count}
use Rattle.pb_text_tree.specs.declared.operator.Connective.{Connective}
use Rattle.pb_typing_tree.specs.declared.term.Term as term
use Rattle.pb_typing_tree.specs.declared.term.Term.{Term, Row_of-Term, end_of-Term, more_of-Term, items-the_row-Term, items_hidden-the_row-Term-0, Row_of-Link, end_of-Link, more_of-Link, items-the_row-Link, items_hidden-the_row-Link-1}
use Rattle.pb_typing_tree.specs.declared.term.Link.{Link}

abbrev mutual
  pub weight : Term → ℕ
  weight (term.Constant b) = 1
  weight (term.Number n) = 1
  weight (term.Enumerator e) = 1
  weight (term.Slot s) = 1
  weight (term.Not' p x) = 2 + weight x
  weight (term.Negative' p x) = 2 + weight x
  weight (term.Absolute' p x) = 2 + weight x
  weight (term.Successor' p x) = 2 + weight x
  weight (term.Predecessor' p x) = 2 + weight x
  weight (term.Chain' c p first shape row) = 4 + (weight first + terms_row row)
  weight (term.Comparison' c p x q y) = 3 + (weight x + weight y)
  weight (term.Arithmetic' p first shape row) = 4 + (weight first + links_row row)
  weight (term.Maximum' p x q y) = 2 + (weight x + weight y)
  weight (term.Minimum' p x q y) = 2 + (weight x + weight y)
  weight (term.Choice' p c q x r y) = 2 + (weight c + (weight x + weight y))
  weight (term.Recognised' e p x) = 2 + weight x

  terms_row : {m : _} → Row_of-Term m → ℕ
  terms_row end_of-Term = 0
  terms_row (more_of-Term x row) = weight x + terms_row row

  links_row : {m : _} → Row_of-Link m → ℕ
  links_row end_of-Link = 0
  links_row (more_of-Link operator operand row) = weight operand + links_row row

abbrev pub terms_weight : List Term → ℕ
terms_weight [] = 0
terms_weight (x ∷ xs) = weight x + terms_weight xs

abbrev pub links_weight : List Link → ℕ
links_weight [] = 0
links_weight (l ∷ ls) = weight l.operand + links_weight ls

terms-items : (n : _) (row : Row_of-Term n) → terms_row row ≡ terms_weight (items-the_row-Term n row)
terms-items n end_of-Term = refl
terms-items n (more_of-Term x row) = ap (λ w. weight x + w) (terms-items _ row)

abbrev term_row_in : Term → (n : Count) × Row_of-Term n
term_row_in (term.Chain' c p first shape row) = (_, row)
term_row_in _ = (_, end_of-Term)

pub weight-chain : (c : Connective) (first : Box Term Global) (v : Vec Term Global) → weight (term.Chain c first v) ≡ 4 + (weight (box_value first) + terms_weight v.items)
weight-chain c first v =
    let row = term_row_in (term.Chain c first v) in
    ap (λ w. 4 + (weight (box_value first) + w)) (terms-items row.0 row.1 ∙ ap terms_weight (items_hidden-the_row-Term-0 v))

links-items : (n : _) (row : Row_of-Link n) → links_row row ≡ links_weight (items-the_row-Link n row)
links-items n end_of-Link = refl
links-items n (more_of-Link operator operand row) = ap (λ w. weight operand + w) (links-items _ row)

abbrev link_row_in : Term → (n : Count) × Row_of-Link n
link_row_in (term.Arithmetic' p first shape row) = (_, row)
link_row_in _ = (_, end_of-Link)

pub weight-arithmetic : (first : Box Term Global) (v : Vec Link Global) → weight (term.Arithmetic first v) ≡ 4 + (weight (box_value first) + links_weight v.items)
weight-arithmetic first v =
    let row = link_row_in (term.Arithmetic first v) in
    ap (λ w. 4 + (weight (box_value first) + w)) (links-items row.0 row.1 ∙ ap links_weight (items_hidden-the_row-Link-1 v))

pub term_lighter : (xs : List Term) (k : ℕ) (x : Term) → k < length xs → x ≡ get_or xs k x → weight x < terms_weight xs + 1
term_lighter [] k x lt at = absurd (omega arith)
term_lighter (y ∷ xs) zero x lt at = omega (arith, ap weight at)
term_lighter (y ∷ xs) (suc k) x lt at = omega (arith, term_lighter xs k x (omega arith) at)

pub link_lighter : (ls : List Link) (k : ℕ) (l : Link) → k < length ls → l ≡ get_or ls k l → weight l.operand < links_weight ls + 1
link_lighter [] k l lt at = absurd (omega arith)
link_lighter (m ∷ ls) zero l lt at = omega (arith, ap (λ (n : Link). weight n.operand) at)
link_lighter (m ∷ ls) (suc k) l lt at = omega (arith, link_lighter ls k l (omega arith) at)
