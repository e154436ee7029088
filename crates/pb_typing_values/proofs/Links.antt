-- The value of chains, operand by operand, why the operands fit, and the chains that are read.
use Rattle.std.proofs.Common.{◌≡◌, ℕ, zero, suc, ◌+◌, ◌<◌, Bool, List, [], ◌∷◌, length, get_or, drop, refl, sym, ◌∙◌, ap, arith, subst, Vec, Global, Box}
use Rattle.std.specs.Prelude.{⊤, box_value}
use Rattle.pb_sorts.proofs.Places.{drop-at}
use Rattle.pb_text_tree.specs.declared.operator.Connective.{Connective}
use Rattle.pb_text_tree.specs.declared.operator.Connective.TheVariants.{And, Or, Implies}
use Rattle.pb_base_values.specs.Carrier.{Value, of_bool}
use Rattle.pb_text_meaning.specs.Value.{binary, is_true}
use Rattle.pb_text_meaning.specs.Erase.{of_connective, of_arithmetic}
use Rattle.pb_text_meaning.specs.Fits.{IsBounded, DivisorFits}
use Rattle.pb_text_meaning.proofs.Truths.{is_true-of_bool}
use Rattle.pb_typing_tree.specs.declared.term.Term as term
use Rattle.pb_typing_tree.specs.declared.term.Term.{Term}
use Rattle.pb_typing_tree.specs.declared.term.Link.{Link}
use Rattle.pb_typing_tree.specs.Tree as tree
use Rattle.pb_typing_tree.specs.Tree.{Binary}
use Rattle.pb_typing_tree.specs.View.{term_of_operands, chained_formula, link_views, term_view, term_views}
use Rattle.pb_typing_tree.specs.Meaning.{Slots, value, connected_truth}
use Rattle.pb_typing_tree.specs.Fits.{Fits}
use Rattle.pb_typing_tree.proofs.Views.{term-chain, term-arithmetic}
use Rattle.pb_typing_tree.proofs.Weight.{weight, terms_weight, links_weight, weight-chain, weight-arithmetic}

-- ---- chains of one connective

-- the value of a chain whose first operand has this value
abbrev pub chain_value : Slots → Connective → Value → List Term → Value
chain_value a c v [] = v
chain_value a c v (x ∷ xs) = binary (of_connective c) v (chain_value a c (value a (term_view x)) xs)

abbrev pub OperandsFit : ℕ → Slots → List Term → Type 0
OperandsFit n a [] = ⊤
OperandsFit n a (x ∷ xs) = Fits n a (term_view x) × OperandsFit n a xs

value-chained : (a : Slots) (c : Connective) (first : tree.Term) (xs : List Term) → value a (chained_formula (Binary (of_connective c)) first (term_views xs)) ≡ chain_value a c (value a first) xs
value-chained a c first [] = refl
value-chained a c first (x ∷ xs) = ap (binary (of_connective c) (value a first)) (value-chained a c (term_view x) xs)

-- no operand but the first was read
pub chain-begun : (a : Slots) (c : Connective) (first : Term) (xs : List Term) {v : Value} → v ≡ value a (term_view first)
    → chain_value a c v xs ≡ value a (chained_formula (Binary (of_connective c)) (term_view first) (term_views xs))
chain-begun a c first xs is = ap (λ (u : Value). chain_value a c u xs) is ∙ sym (value-chained a c (term_view first) xs)

-- a chain that fits has operands that do
pub fits-chained : (n : ℕ) (a : Slots) (c : Connective) (first : tree.Term) (xs : List Term) → Fits n a (chained_formula (Binary (of_connective c)) first (term_views xs))
    → Fits n a first × OperandsFit n a xs
fits-chained n a c first [] f = (f, tt)
fits-chained n a c first (x ∷ xs) f = (f.0, fits-chained n a c (term_view x) xs f.1)

pub operand_fits : (n : ℕ) (a : Slots) (xs : List Term) (k : ℕ) (x : Term) → OperandsFit n a xs → k < length xs → x ≡ get_or xs k x → Fits n a (term_view x)
operand_fits n a [] k x f lt at = absurd (omega arith)
operand_fits n a (y ∷ xs) zero x f lt at = subst (λ (z : Term). Fits n a (term_view z)) (sym at) f.0
operand_fits n a (y ∷ xs) (suc k) x f lt at = operand_fits n a xs k x f.1 (omega arith) at

-- a binary node of a connective
binary-connected : (c : Connective) (v w : Value) → binary (of_connective c) v w ≡ of_bool (connected_truth c (is_true v) (is_true w))
binary-connected And v w = refl
binary-connected Or v w = refl
binary-connected Implies v w = refl

-- a chain's value, as a truth
truth-chain : (a : Slots) (c : Connective) (v : Value) (xs : List Term) → chain_value a c (of_bool (is_true v)) xs ≡ of_bool (is_true (chain_value a c v xs))
truth-chain a c v [] = refl
truth-chain a c v (x ∷ xs) =
    let rest = chain_value a c (value a (term_view x)) xs in
    binary-connected c (of_bool (is_true v)) rest
    ∙ (ap (λ b. of_bool (connected_truth c b (is_true rest))) (is_true-of_bool (is_true v))
    ∙ (sym (ap of_bool (is_true-of_bool (connected_truth c (is_true v) (is_true rest))))
    ∙ ap (λ w. of_bool (is_true w)) (sym (binary-connected c v rest))))

-- an operand that decides
pub chain_decided : (a : Slots) (c : Connective) (v : Value) (xs : List Term) (k : ℕ) (x : Term) (t b : Bool) → k < length xs → x ≡ get_or xs k x
    → t ≡ is_true v → ((right : Bool) → connected_truth c t right ≡ b) → chain_value a c v (drop k xs) ≡ of_bool b
chain_decided a c v xs k x t b lt at tests decides =
    let rest = chain_value a c (value a (term_view x)) (drop (k + 1) xs) in
    ap (chain_value a c v) (drop-at xs k x lt at)
    ∙ (binary-connected c v rest ∙ ap of_bool (ap (λ u. connected_truth c u (is_true rest)) (sym tests) ∙ decides (is_true rest)))

-- an operand that doesn't
pub chain_next : (a : Slots) (c : Connective) (v w : Value) (xs : List Term) (k : ℕ) (x : Term) (t : Bool) → k < length xs → x ≡ get_or xs k x
    → t ≡ is_true v → ((right : Bool) → connected_truth c t right ≡ right) → w ≡ of_bool (is_true (value a (term_view x)))
    → chain_value a c w (drop (k + 1) xs) ≡ chain_value a c v (drop k xs)
chain_next a c v w xs k x t lt at tests stays is =
    let u = value a (term_view x) in
    let rest = chain_value a c u (drop (k + 1) xs) in
    ap (λ z. chain_value a c z (drop (k + 1) xs)) is
    ∙ (truth-chain a c u (drop (k + 1) xs)
    ∙ (sym (ap of_bool (ap (λ z. connected_truth c z (is_true rest)) (sym tests) ∙ stays (is_true rest)))
    ∙ (sym (binary-connected c v rest) ∙ ap (chain_value a c v) (sym (drop-at xs k x lt at)))))

-- ---- chains of arithmetic

-- the value of a chain whose operands so far have this value
abbrev pub arithmetic_value : Slots → Value → List Link → Value
arithmetic_value a v [] = v
arithmetic_value a v (link ∷ links) = arithmetic_value a (binary (of_arithmetic link.operator) v (value a (term_view link.operand))) links

-- each operand fits, and each value on the way
abbrev pub ArithmeticFits : ℕ → Slots → Value → List Link → Type 0
ArithmeticFits n a v [] = ⊤
ArithmeticFits n a v (link ∷ links) =
    let x = value a (term_view link.operand) in
    let w = binary (of_arithmetic link.operator) v x in
    Fits n a (term_view link.operand) × DivisorFits (of_arithmetic link.operator) x × IsBounded w × ArithmeticFits n a w links

value-calculated : (a : Slots) (first : tree.Term) (links : List Link) → value a (term_of_operands first (link_views links)) ≡ arithmetic_value a (value a first) links
value-calculated a first [] = refl
value-calculated a first (link ∷ links) = value-calculated a (Binary (of_arithmetic link.operator) first (term_view link.operand)) links

pub fits-calculated : (n : ℕ) (a : Slots) (first : tree.Term) (links : List Link) → Fits n a (term_of_operands first (link_views links)) → Fits n a first × ArithmeticFits n a (value a first) links
fits-calculated n a first [] f = (f, tt)
fits-calculated n a first (link ∷ links) f =
    let rest = fits-calculated n a (Binary (of_arithmetic link.operator) first (term_view link.operand)) links f in
    (rest.0.0, (rest.0.1, rest.0.2, rest.0.3, rest.1))

-- the next operand fits, and so do those behind it
pub arithmetic_next : (n : ℕ) (a : Slots) (v : Value) (links : List Link) (k : ℕ) (link : Link) → k < length links → link ≡ get_or links k link → ArithmeticFits n a v (drop k links)
    → ArithmeticFits n a v (link ∷ drop (k + 1) links)
arithmetic_next n a v links k link lt at f = subst (ArithmeticFits n a v) (drop-at links k link lt at) f

-- no operand but the first was read
pub arithmetic-begun : (n : ℕ) (a : Slots) (first : Term) (links : List Link) {v : Value} → v ≡ value a (term_view first) → Fits n a (term_of_operands (term_view first) (link_views links))
    → (arithmetic_value a v links ≡ value a (term_of_operands (term_view first) (link_views links))) × ArithmeticFits n a v links
arithmetic-begun n a first links is f = (
  ap (λ (u : Value). arithmetic_value a u links) is ∙ sym (value-calculated a (term_view first) links),
  subst (λ (u : Value). ArithmeticFits n a u links) (sym is) (fits-calculated n a (term_view first) links f).1,
)

-- the next one was
pub arithmetic-went_on : (n : ℕ) (a : Slots) (v : Value) (links : List Link) (k : ℕ) (link : Link) → k < length links → link ≡ get_or links k link
    → {w : Value} → w ≡ binary (of_arithmetic link.operator) v (value a (term_view link.operand)) → ArithmeticFits n a v (drop k links)
    → (arithmetic_value a w (drop (k + 1) links) ≡ arithmetic_value a v (drop k links)) × ArithmeticFits n a w (drop (k + 1) links)
arithmetic-went_on n a v links k link lt at is f = (
  ap (λ (u : Value). arithmetic_value a u (drop (k + 1) links)) is ∙ sym (ap (arithmetic_value a v) (drop-at links k link lt at)),
  subst (λ (u : Value). ArithmeticFits n a u (drop (k + 1) links)) (sym is) (arithmetic_next n a v links k link lt at f).3,
)

-- ---- chains and arithmetic, as they are read

-- a term connects a first operand and those linked to it
pub record IsChain (x : Term) (o : Connective) (first : Term) (links : List Term) : Type 0 where
  pub view : chained_formula (Binary (of_connective o)) (term_view first) (term_views links) ≡ term_view x
  pub weighs : weight x ≡ 4 + (weight first + terms_weight links)

pub chain-read : {x first : Term} {links : List Term} (o : Connective) (b : Box Term Global) (v : Vec Term Global)
    → x ≡ term.Chain o b v → first ≡ box_value b → links ≡ v.items → IsChain x o first links
chain-read {x} {first} {links} o b v is at behind = record {
  view =
      ap (λ (y : Term). chained_formula (Binary (of_connective o)) (term_view y) (term_views links)) at
      ∙ (ap (λ (xs : List Term). chained_formula (Binary (of_connective o)) (term_view (box_value b)) (term_views xs)) behind
      ∙ sym (ap term_view is ∙ term-chain o b v));
  weighs = omega (arith, ap weight is ∙ weight-chain o b v, ap weight at, ap terms_weight behind);
}

-- a term calculates with a first operand and those linked to it
pub record IsArithmetic (x first : Term) (links : List Link) : Type 0 where
  pub view : term_of_operands (term_view first) (link_views links) ≡ term_view x
  pub weighs : weight x ≡ 4 + (weight first + links_weight links)

pub arithmetic-read : {x first : Term} {links : List Link} (b : Box Term Global) (v : Vec Link Global)
    → x ≡ term.Arithmetic b v → first ≡ box_value b → links ≡ v.items → IsArithmetic x first links
arithmetic-read {x} {first} {links} b v is at behind = record {
  view =
      ap (λ (y : Term). term_of_operands (term_view y) (link_views links)) at
      ∙ (ap (λ (ls : List Link). term_of_operands (term_view (box_value b)) (link_views ls)) behind
      ∙ sym (ap term_view is ∙ term-arithmetic b v));
  weighs = omega (arith, ap weight is ∙ weight-arithmetic b v, ap weight at, ap links_weight behind);
}
