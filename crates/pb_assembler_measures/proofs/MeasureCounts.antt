-- The operands, brackets and loops that are measured are those that are counted on the right side.
use Rattle.std.proofs.Common.{◌≡◌, ℕ, suc, Bool, true, false, List, [], ◌∷◌, Option, Some, None, refl, ap, ◌∙◌, arith}
use Rattle.std.specs.Prelude.{max, slice_get}
use Rattle.pb_sorts.specs.declared.carrier.Carrier.{Carrier}
use Rattle.pb_fixpoint_trees.specs.declared.junction.Junction.{Junction}
use Rattle.pb_fixpoint_trees.specs.declared.junction.Junction.TheVariants.{Conjunction, Disjunction}
use Rattle.pb_normal.specs.Normal.{Term, Argument, Formula, Test, Join, Each, Call}
use Rattle.pb_assembler_scheme.specs.Scheme.{junction_of, any_tested, parameters, test_of}
use Rattle.pb_assembler_scheme.specs.Limits.{one_kept, term_operands, argument_operands, formula_operands, brackets_under, join_brackets, formula_brackets, formula_loops}
use Rattle.pb_assembler_measures.specs.declared.measure_load.Load.{Load}
use Rattle.pb_assembler_measures.specs.declared.measure_tally.Tally.{Tally}
use Rattle.pb_assembler_measures.specs.MeasureTerms.{term_load}
use Rattle.pb_assembler_measures.specs.MeasureFormulas.{tested_tally, under_tally, after, looped, join_tally, arguments_load, ended_call, shape_size, formula_tally}

-- n operands, b brackets and l loops are measured
pub record Counts (t : Tally) (n b l : ℕ) : Type 0 where
  pub operands : t.operands ≡ n
  pub brackets : t.brackets ≡ b
  pub loops : t.nesting ≡ l

-- the operands of a test, which has no loops
abbrev IsTestOf : Option Term → (operands loops : ℕ) → Type 0
IsTestOf None n l = Unit {0}
IsTestOf (Some t) n l = (n ≡ term_operands t) × (l ≡ 0)

test_counts : (f : Formula) → IsTestOf (test_of f) (formula_operands f) (formula_loops f)
test_counts (Test t) = (refl, refl)
test_counts (Join m f g) = tt
test_counts (Each q s shape f) = tt
test_counts (Call equation xs) = tt

counts_as : (t : Tally) (n b l m c k : ℕ) → n ≡ m → b ≡ c → l ≡ k → Counts t n b l → Counts t m c k
counts_as t n b l m c k e f g h = record { operands = h.operands ∙ e; brackets = h.brackets ∙ f; loops = h.loops ∙ g }

tested_counts : (m around : Junction) (t : Term) (x : Tally) (n b l : ℕ) → Counts x n b l → Counts (tested_tally m around (term_load t) x) (max (term_operands t) n) b l
tested_counts Conjunction Conjunction t x n b l h = record { operands = ap (max (term_operands t)) h.operands; brackets = h.brackets; loops = h.loops }
tested_counts Disjunction Disjunction t x n b l h = record { operands = ap (max (term_operands t)) h.operands; brackets = h.brackets; loops = h.loops }
tested_counts Conjunction Disjunction t x n b l h = record { operands = ap (max (term_operands t)) h.operands; brackets = h.brackets; loops = h.loops }
tested_counts Disjunction Conjunction t x n b l h = record { operands = ap (max (term_operands t)) h.operands; brackets = h.brackets; loops = h.loops }

under_counts : (m around : Junction) (x : Tally) (n b l : ℕ) → Counts x n b l → Counts (under_tally m around x) n (brackets_under m around b) l
under_counts Conjunction Conjunction x n b l h = h
under_counts Disjunction Disjunction x n b l h = h
under_counts Conjunction Disjunction x n b l h = record { operands = h.operands; brackets = let e = h.brackets in omega (arith, e); loops = h.loops }
under_counts Disjunction Conjunction x n b l h = record { operands = h.operands; brackets = let e = h.brackets in omega (arith, e); loops = h.loops }

after_counts : (x y : Tally) (n b l m c k : ℕ) → Counts x n b l → Counts y m c k → Counts (after x y) (max n m) (max b c) (max l k)
after_counts x y n b l m c k h i = record {
  operands = ap (λ a. max a y.operands) h.operands ∙ ap (max n) i.operands;
  brackets = ap (λ a. max a y.brackets) h.brackets ∙ ap (max b) i.brackets;
  loops = ap (λ a. max a y.nesting) h.loops ∙ ap (max l) i.loops;
}

join_counts : (m around : Junction) (s t : Option Term) (fa ga fo go : Tally) (n l o k a b c d : ℕ) → IsTestOf s n l → IsTestOf t o k
    → Counts fa n a l → Counts ga o b k → Counts fo n c l → Counts go o d k
    → Counts (join_tally m around s t fa ga fo go) (max n o) (join_brackets m around s t a b c d) (max l k)
join_counts m around (Some s) t fa ga fo go n l o k a b c d p q w x y z =
    let e = p.0 in
    let f = p.1 in
    counts_as _ _ _ _ _ _ _ (omega (arith, e)) refl (omega (arith, f)) (tested_counts m around s ga o b k x)
join_counts m around None (Some t) fa ga fo go n l o k a b c d p q w x y z =
    let e = q.0 in
    let f = q.1 in
    counts_as _ _ _ _ _ _ _ (omega (arith, e)) refl (omega (arith, f)) (tested_counts m around t fa n a l w)
join_counts m around None None fa ga fo go n l o k a b c d p q w x y z =
    under_counts m around (after fo go) (max n o) (max c d) (max l k) (after_counts fo go n c l o d k y z)

looped_counts : (v : ℕ) (x : Tally) (n b l : ℕ) → Counts x n b l → Counts (looped v x) n b (suc l)
looped_counts v x n b l h = record { operands = h.operands; brackets = h.brackets; loops = let e = h.loops in omega (arith, e) }

arguments_counts : (cs : List Carrier) (xs : List Argument) → (arguments_load cs xs).operands ≡ argument_operands xs
arguments_counts [] [] = refl
arguments_counts (c ∷ cs) [] = refl
arguments_counts [] (x ∷ xs) = ap (one_kept (term_operands x.term)) (arguments_counts [] xs)
arguments_counts (c ∷ cs) (x ∷ xs) = ap (one_kept (term_operands x.term)) (arguments_counts cs xs)

ended_counts : (any : Bool) (l : Load) (n : ℕ) → l.operands ≡ n → Counts (ended_call any l) n 0 0
ended_counts true l n e = record { operands = e; brackets = refl; loops = refl }
ended_counts false l n e = record { operands = e; brackets = refl; loops = refl }

pub formula_counts : (callees : List (List Carrier)) (f : Formula) (around : Junction) → Counts (formula_tally callees around f) (formula_operands f) (formula_brackets around f) (formula_loops f)
formula_counts callees (Test t) around = record { operands = refl; brackets = refl; loops = refl }
formula_counts callees (Join m f g) around =
    join_counts m around (test_of f) (test_of g) _ _ _ _ (formula_operands f) (formula_loops f) (formula_operands g) (formula_loops g) _ _ _ _ (test_counts f) (test_counts g)
    (formula_counts callees f around) (formula_counts callees g around) (formula_counts callees f m) (formula_counts callees g m)
formula_counts callees (Each q s shape f) around =
    under_counts (junction_of q) around (looped (shape_size shape) (formula_tally callees (junction_of q) f))
    (formula_operands f) (formula_brackets (junction_of q) f) (suc (formula_loops f))
    (looped_counts (shape_size shape) (formula_tally callees (junction_of q) f) (formula_operands f)
    (formula_brackets (junction_of q) f) (formula_loops f) (formula_counts callees f (junction_of q)))
formula_counts callees (Call equation xs) around =
    let cs = parameters (slice_get callees equation) in
    ended_counts (any_tested cs xs) (arguments_load cs xs) (argument_operands xs) (arguments_counts cs xs)
