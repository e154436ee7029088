-- How much work a term is at most, as a measure.
use Rattle.std.proofs.Common.{◌≡◌, ℕ, zero, suc, ◌+◌, ◌<◌, List, [], ◌∷◌, length, get_or, arith, refl, ◌∙◌, ap, Vec, Global, Box}
use Rattle.std.specs.Prelude.{box_value}
use mathlib.Core.Former.{Count}
use Rattle.pb_text_tree.specs.declared.operator.Connective.{Connective}
use Rattle.pb_text_tree.specs.declared.name.Name.{Name}
use Rattle.pb_text_tree.specs.declared.variable.Variables.{Variables}
use Rattle.pb_text_tree.specs.declared.term.Term as term
use Rattle.pb_text_tree.specs.declared.term.Term.{Term, Row_of-TermLink, end_of-TermLink, more_of-TermLink, items-the_row-TermLink, items_hidden-the_row-TermLink-0, Row_of-ArithmeticLink, end_of-ArithmeticLink, more_of-ArithmeticLink, items-the_row-ArithmeticLink, items_hidden-the_row-ArithmeticLink-1, Row_of-Argument, end_of-Argument, more_of-Argument, items-the_row-Argument, items_hidden-the_row-Argument-2}
use Rattle.pb_text_tree.specs.declared.term.TermLink.{TermLink}
use Rattle.pb_text_tree.specs.declared.term.ArithmeticLink.{ArithmeticLink}
use Rattle.pb_text_tree.specs.declared.term.Argument.{Argument}

-- groups of variables, each with its names
abbrev pub groups_weight : List Variables → ℕ
groups_weight [] = 0
groups_weight (group ∷ groups) = 2 + (length group.names.items + groups_weight groups)

abbrev mutual
  pub weight : Term → ℕ
  weight (term.Constant place b) = 1
  weight (term.Number place n) = 1
  weight (term.Name n) = 1
  weight (term.Not' place p operand) = 2 + weight operand
  weight (term.Negative' place p operand) = 1 + weight operand
  weight (term.Chain' c p first shape row) = 2 + (weight first + links_row row)
  weight (term.Comparison' place comparison p left q right) = 1 + (weight left + weight right)
  weight (term.Arithmetic' p first shape row) = 2 + (weight first + arithmetic_row row)
  weight (term.Application' f shape row) = 2 + arguments_row row
  weight (term.Quantified' place q variables p body) = 2 + (groups_weight variables.items + weight body)

  links_row : {m : _} → Row_of-TermLink m → ℕ
  links_row end_of-TermLink = 0
  links_row (more_of-TermLink place operand row) = weight operand + links_row row

  arithmetic_row : {m : _} → Row_of-ArithmeticLink m → ℕ
  arithmetic_row end_of-ArithmeticLink = 0
  arithmetic_row (more_of-ArithmeticLink place operator operand row) = weight operand + arithmetic_row row

  arguments_row : {m : _} → Row_of-Argument m → ℕ
  arguments_row end_of-Argument = 0
  arguments_row (more_of-Argument place operand row) = weight operand + arguments_row row

abbrev pub links_weight : List TermLink → ℕ
links_weight [] = 0
links_weight (link ∷ links) = weight link.operand + links_weight links

abbrev pub arithmetic_weight : List ArithmeticLink → ℕ
arithmetic_weight [] = 0
arithmetic_weight (link ∷ links) = weight link.operand + arithmetic_weight links

abbrev pub arguments_weight : List Argument → ℕ
arguments_weight [] = 0
arguments_weight (x ∷ xs) = weight x.term + arguments_weight xs

-- ---- the links and arguments of a node are those of its vector

links-items : (n : _) (row : Row_of-TermLink n) → links_row row ≡ links_weight (items-the_row-TermLink n row)
links-items n end_of-TermLink = refl
links-items n (more_of-TermLink place operand row) = ap (λ w. weight operand + w) (links-items _ row)

abbrev links_in : Term → (n : Count) × Row_of-TermLink n
links_in (term.Chain' c p first shape row) = (_, row)
links_in _ = (_, end_of-TermLink)

pub weight-chain : (c : Connective) (first : Box Term Global) (v : Vec TermLink Global) → weight (term.Chain c first v) ≡ 2 + (weight (box_value first) + links_weight v.items)
weight-chain c first v =
    let row = links_in (term.Chain c first v) in
    ap (λ w. 2 + (weight (box_value first) + w)) (links-items row.0 row.1 ∙ ap links_weight (items_hidden-the_row-TermLink-0 v))

arithmetic-items : (n : _) (row : Row_of-ArithmeticLink n) → arithmetic_row row ≡ arithmetic_weight (items-the_row-ArithmeticLink n row)
arithmetic-items n end_of-ArithmeticLink = refl
arithmetic-items n (more_of-ArithmeticLink place operator operand row) = ap (λ w. weight operand + w) (arithmetic-items _ row)

abbrev arithmetic_in : Term → (n : Count) × Row_of-ArithmeticLink n
arithmetic_in (term.Arithmetic' p first shape row) = (_, row)
arithmetic_in _ = (_, end_of-ArithmeticLink)

pub weight-arithmetic : (first : Box Term Global) (v : Vec ArithmeticLink Global) → weight (term.Arithmetic first v) ≡ 2 + (weight (box_value first) + arithmetic_weight v.items)
weight-arithmetic first v =
    let row = arithmetic_in (term.Arithmetic first v) in
    ap (λ w. 2 + (weight (box_value first) + w)) (arithmetic-items row.0 row.1 ∙ ap arithmetic_weight (items_hidden-the_row-ArithmeticLink-1 v))

arguments-items : (n : _) (row : Row_of-Argument n) → arguments_row row ≡ arguments_weight (items-the_row-Argument n row)
arguments-items n end_of-Argument = refl
arguments-items n (more_of-Argument place operand row) = ap (λ w. weight operand + w) (arguments-items _ row)

abbrev arguments_in : Term → (n : Count) × Row_of-Argument n
arguments_in (term.Application' f shape row) = (_, row)
arguments_in _ = (_, end_of-Argument)

pub weight-application : (f : Name) (v : Vec Argument Global) → weight (term.Application f v) ≡ 2 + arguments_weight v.items
weight-application f v =
    let row = arguments_in (term.Application f v) in
    ap (λ w. 2 + w) (arguments-items row.0 row.1 ∙ ap arguments_weight (items_hidden-the_row-Argument-2 v))

-- ---- a part at its place

pub link_lighter : (links : List TermLink) (k : ℕ) (link : TermLink) → k < length links → link ≡ get_or links k link → weight link.operand < links_weight links + 1
link_lighter [] k link lt at = absurd (omega arith)
link_lighter (l ∷ links) zero link lt at = omega (arith, ap (λ (m : TermLink). weight m.operand) at)
link_lighter (l ∷ links) (suc k) link lt at = omega (arith, link_lighter links k link (omega arith) at)

pub operand_lighter : (links : List ArithmeticLink) (k : ℕ) (link : ArithmeticLink) → k < length links → link ≡ get_or links k link → weight link.operand < arithmetic_weight links + 1
operand_lighter [] k link lt at = absurd (omega arith)
operand_lighter (l ∷ links) zero link lt at = omega (arith, ap (λ (m : ArithmeticLink). weight m.operand) at)
operand_lighter (l ∷ links) (suc k) link lt at = omega (arith, operand_lighter links k link (omega arith) at)

argument_lighter : (xs : List Argument) (k : ℕ) (x : Argument) → k < length xs → x ≡ get_or xs k x → weight x.term < arguments_weight xs + 1
argument_lighter [] k x lt at = absurd (omega arith)
argument_lighter (y ∷ xs) zero x lt at = omega (arith, ap (λ (z : Argument). weight z.term) at)
argument_lighter (y ∷ xs) (suc k) x lt at = omega (arith, argument_lighter xs k x (omega arith) at)

pub lighter_at : (xs : List Argument) (k : ℕ) {d : Argument} → k < length xs → d ≡ get_or xs k d → weight (get_or xs k d).term < arguments_weight xs + 1
lighter_at xs k {d} below at = argument_lighter xs k (get_or xs k d) below (ap (get_or xs k) at)
