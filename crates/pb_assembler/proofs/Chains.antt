-- Chains of operands, emitted operand by operand.
use Rattle.std.proofs.Common.{◌≡◌, ℕ, zero, suc, ◌+◌, ◌<◌, true, List, [], ◌∷◌, length, get_or, drop, refl, sym, ap, ◌∙◌, subst, arith, Vec, Global, Box}
use Rattle.std.specs.Prelude.{box_value}
use Rattle.std.proofs.lemmas.Bool.{and_parts}
use Rattle.pb_text_tree.specs.declared.operator.Connective.{Connective}
use Rattle.pb_text_tree.specs.declared.operator.Connective.TheVariants as connective
use Rattle.pb_text_meaning.specs.Erase.{of_arithmetic, of_connective}
use Rattle.pb_normal.specs.Normal as normal
use Rattle.pb_normal.specs.Normal.{Binary}
use Rattle.pb_typing_tree.specs.declared.term.Term as term
use Rattle.pb_typing_tree.specs.declared.term.Term.{Term}
use Rattle.pb_typing_tree.specs.declared.term.Link.{Link}
use Rattle.pb_normal.specs.View.{term_of_operands, chained_formula, term_view, term_views, link_views}
use Rattle.pb_assembler_scheme.specs.Pieces.{Then}
use Rattle.pb_assembler_scheme.specs.Scheme.{data_piece}
use Rattle.pb_typing_tree.proofs.Weight.{weight, terms_weight, links_weight, weight-chain, weight-arithmetic}
use Rattle.pb_assembler_measures.proofs.Views.{arithmetic_is, chain_from, chain_is}
use Rattle.pb_assembler.specs.Emitted.{connected_behind}
use Rattle.pb_normal.specs.Small.{is_small}

-- one more operand in front
pub one_more : (o : Connective) (x y : normal.Term) → data_piece (Binary (of_connective o) x y) ≡ Then (data_piece y) (connected_behind o (data_piece x))
one_more connective.And x y = refl
one_more connective.Or x y = refl
one_more connective.Implies x y = refl

pub chain_step : (o : Connective) (xs : List Term) (i : ℕ) (x : Term) → suc i < length xs → x ≡ get_or xs i x
    → chain_from o (drop i xs) ≡ Binary (of_connective o) (term_view x) (chain_from o (drop (suc i) xs))
chain_step o [] i x l e = absurd (omega arith)
chain_step o (y ∷ []) i x l e = absurd (omega arith)
chain_step o (y ∷ z ∷ zs) zero x l e = ap (λ (t : Term). Binary (of_connective o) (term_view t) (chain_from o (z ∷ zs))) (sym e)
chain_step o (y ∷ z ∷ zs) (suc i) x l e = chain_step o (z ∷ zs) i x (omega arith) e

pub chain_all : (o : Connective) (first : normal.Term) (xs : List Term) (k : ℕ) → k ≡ 0 → 0 < length xs
    → chained_formula (Binary (of_connective o)) first (term_views xs) ≡ Binary (of_connective o) first (chain_from o (drop k xs))
chain_all o first [] k z l = absurd (omega arith)
chain_all o first (x ∷ xs) zero z l = refl
chain_all o first (x ∷ xs) (suc k) z l = absurd (omega arith)

pub small_first : (o : Connective) (first : normal.Term) (xs : List Term) → is_small (chained_formula (Binary (of_connective o)) first (term_views xs)) ≡ true → is_small first ≡ true
small_first o first [] h = h
small_first o first (x ∷ xs) h = (and_parts (is_small first) (is_small (chained_formula (Binary (of_connective o)) (term_view x) (term_views xs))) h).0

pub small_link : (o : Connective) (first : normal.Term) (xs : List Term) (k : ℕ) (x : Term) → k < length xs
    → x ≡ get_or xs k x → is_small (chained_formula (Binary (of_connective o)) first (term_views xs)) ≡ true → is_small (term_view x) ≡ true
small_link o first [] k x l e h = absurd (omega arith)
small_link o first (y ∷ ys) zero x l e h =
    let rest = (and_parts (is_small first) (is_small (chained_formula (Binary (of_connective o)) (term_view y) (term_views ys))) h).1 in
    subst (λ (t : Term). is_small (term_view t) ≡ true) (sym e) (small_first o (term_view y) ys rest)
small_link o first (y ∷ ys) (suc k) x l e h =
    small_link o (term_view y) ys k x (omega arith) e (and_parts (is_small first) (is_small (chained_formula (Binary (of_connective o)) (term_view y) (term_views ys))) h).1

-- ---- arithmetic

pub small_head : (first : normal.Term) (ls : List Link) → is_small (term_of_operands first (link_views ls)) ≡ true → is_small first ≡ true
small_head first [] h = h
small_head first (l ∷ ls) h = (and_parts (is_small first) (is_small (term_view l.operand)) (small_head (Binary (of_arithmetic l.operator) first (term_view l.operand)) ls h)).0

pub small_operand : (first : normal.Term) (ls : List Link) (k : ℕ) (l : Link) → k < length ls → l ≡ get_or ls k l
    → is_small (term_of_operands first (link_views ls)) ≡ true → is_small (term_view l.operand) ≡ true
small_operand first [] k l b e h = absurd (omega arith)
small_operand first (m ∷ ls) zero l b e h =
    subst (λ (n : Link). is_small (term_view n.operand) ≡ true) (sym e)
    (and_parts (is_small first) (is_small (term_view m.operand))
    (small_head (Binary (of_arithmetic m.operator) first (term_view m.operand)) ls h)).1
small_operand first (m ∷ ls) (suc k) l b e h = small_operand (Binary (of_arithmetic m.operator) first (term_view m.operand)) ls k l (omega arith) e h

-- ---- chains and arithmetic, as they are read

-- a term connects a first operand and those behind it
pub record IsChainOf (t : Term) (o : Connective) (x : Term) (xs : List Term) : Type 0 where
  pub view : chained_formula (Binary (of_connective o)) (term_view x) (term_views xs) ≡ term_view t
  pub weighs : weight t ≡ 4 + (weight x + terms_weight xs)

pub chain_read : {t x : Term} {xs : List Term} (o : Connective) (b : Box Term Global) (v : Vec Term Global)
    → t ≡ term.Chain o b v → x ≡ box_value b → xs ≡ v.items → IsChainOf t o x xs
chain_read {t} {x} {xs} o b v is first links = record {
  view = chain_is t x o b v xs is first links;
  weighs = omega (arith, ap weight is ∙ weight-chain o b v, ap weight first, ap terms_weight links);
}

-- a term calculates with a first operand and those behind it
pub record IsArithmeticOf (t x : Term) (ls : List Link) : Type 0 where
  pub view : term_of_operands (term_view x) (link_views ls) ≡ term_view t
  pub weighs : weight t ≡ 4 + (weight x + links_weight ls)

pub arithmetic_read : {t x : Term} {ls : List Link} (b : Box Term Global) (v : Vec Link Global)
    → t ≡ term.Arithmetic b v → x ≡ box_value b → ls ≡ v.items → IsArithmeticOf t x ls
arithmetic_read {t} {x} {ls} b v is first links = record {
  view = arithmetic_is t x b v ls is first links;
  weighs = omega (arith, ap weight is ∙ weight-arithmetic b v, ap weight first, ap links_weight links);
}
