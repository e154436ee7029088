-- The operands of a chain, as they stand in its node, are those of its vector.
use Rattle.std.proofs.Common.{◌≡◌, ℕ, zero, suc, ◌<◌, true, List, [], ◌∷◌, length, get_or, take, sym, ◌∙◌, ap, arith, Vec, Global, Box}
use Rattle.std.specs.Prelude.{box_value}
use Rattle.pb_text_tree.specs.declared.operator.Connective.{Connective}
use Rattle.pb_text_meaning.specs.Erase.{of_arithmetic, of_connective}
use Rattle.pb_normal.specs.Normal as normal
use Rattle.pb_normal.specs.Normal.{Binary}
use Rattle.pb_typing_tree.specs.declared.term.Term as term
use Rattle.pb_typing_tree.specs.declared.term.Term.{Term}
use Rattle.pb_typing_tree.specs.declared.term.Link.{Link}
use Rattle.pb_normal.specs.View.{term_view, term_views, link_views, chained_formula, term_of_operands}
use Rattle.pb_typing_tree.proofs.Views.{term-chain, term-arithmetic}

-- in the code's words
pub chain_is : (t x : Term) (o : Connective) (first : Box Term Global) (v : Vec Term Global) (links : List Term) → t ≡ term.Chain o first v → x ≡ box_value first → links ≡ v.items
    → chained_formula (Binary (of_connective o)) (term_view x) (term_views links) ≡ term_view t
chain_is t x o first v links is same are =
    ap (λ (y : Term). chained_formula (Binary (of_connective o)) (term_view y) (term_views links)) same
    ∙ ap (λ (ls : List Term). chained_formula (Binary (of_connective o)) (term_view (box_value first)) (term_views ls)) are
    ∙ sym (ap term_view is ∙ term-chain o first v)

pub arithmetic_is : (t x : Term) (first : Box Term Global) (v : Vec Link Global) (links : List Link) → t ≡ term.Arithmetic first v → x ≡ box_value first → links ≡ v.items
    → term_of_operands (term_view x) (link_views links) ≡ term_view t
arithmetic_is t x first v links is same are =
    ap (λ (y : Term). term_of_operands (term_view y) (link_views links)) same
    ∙ ap (λ (ls : List Link). term_of_operands (term_view (box_value first)) (link_views ls)) are
    ∙ sym (ap term_view is ∙ term-arithmetic first v)

-- the operands from one of them on
abbrev pub chain_from : Connective → List Term → normal.Term
chain_from o [] = normal.Term.Truth true
chain_from o (x ∷ xs) = chained_formula (Binary (of_connective o)) (term_view x) (term_views xs)

-- one more operand of arithmetic behind
pub calculated_more : (first : normal.Term) (ls : List Link) (k : ℕ) (l : Link) → k < length ls → l ≡ get_or ls k l
    → term_of_operands first (link_views (take (suc k) ls)) ≡ Binary (of_arithmetic l.operator) (term_of_operands first (link_views (take k ls))) (term_view l.operand)
calculated_more first [] k l b e = absurd (omega arith)
calculated_more first (m ∷ ls) zero l b e = ap (λ (n : Link). Binary (of_arithmetic n.operator) first (term_view n.operand)) (sym e)
calculated_more first (m ∷ ls) (suc k) l b e = calculated_more (Binary (of_arithmetic m.operator) first (term_view m.operand)) ls k l (omega arith) e
