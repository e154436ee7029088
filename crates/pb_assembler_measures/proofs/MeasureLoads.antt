-- Loads that stop just above a million, put together.
use Rattle.std.proofs.Common.{◌≡◌, ℕ, ap, ◌∙◌, arith}
use Rattle.pb_text_tree.specs.declared.operator.Arithmetic.{Arithmetic}
use Rattle.pb_text_tree.specs.declared.operator.Arithmetic.TheVariants as arithmetic
use Rattle.pb_text_meaning.specs.Erase.{of_arithmetic}
use Rattle.pb_normal.specs.Normal.{Term, Binary}
use Rattle.pb_assembler_measures.specs.declared.measure_load.Load.{Load}
use Rattle.pb_assembler_measures.specs.MeasureTerms.{capped_load, followed, both, term_load}

abbrev pub load : ℕ → ℕ → Load
load n o = record { instructions = n; operands = o }

pub load_of : (n m o q : ℕ) → n ≡ m → o ≡ q → load n o ≡ load m q
load_of n m o q e f = ap (λ k. load k o) e ∙ ap (load m) f

pub followed_capped : (l : Load) → capped_load (followed (capped_load l)) ≡ capped_load (followed l)
followed_capped l = load_of _ _ _ _ (omega arith) (omega arith)

-- ---- loads of operands, in the words of their measures

pub arithmetic_capped : (o : Arithmetic) (x y : Term) (r s : Load) → r ≡ capped_load (term_load x)
    → s ≡ capped_load (term_load y)
    → capped_load (followed (capped_load (both r s))) ≡ capped_load (term_load (Binary (of_arithmetic o) x y))
arithmetic_capped o x y r s e f = followed_capped (both r s) ∙ ap (λ (k : Load). capped_load (followed k)) (ap (λ (k : Load). both k s) e ∙ ap (both (capped_load (term_load x))) f) ∙ by o
  where
    by : (o : Arithmetic) → capped_load (followed (both (capped_load (term_load x)) (capped_load (term_load y)))) ≡ capped_load (term_load (Binary (of_arithmetic o) x y))
    by arithmetic.Plus = load_of _ _ _ _ (omega arith) (omega arith)
    by arithmetic.Minus = load_of _ _ _ _ (omega arith) (omega arith)
    by arithmetic.Times = load_of _ _ _ _ (omega arith) (omega arith)
    by arithmetic.Div = load_of _ _ _ _ (omega arith) (omega arith)
    by arithmetic.Mod = load_of _ _ _ _ (omega arith) (omega arith)
