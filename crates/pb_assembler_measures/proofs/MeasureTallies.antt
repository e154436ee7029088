-- Tallies that stop just above a million, put together.
use Rattle.std.proofs.Common.{◌≡◌, ℕ, zero, suc, ◌+◌, ◌*◌, ◌<◌, Bool, ap, ◌∙◌, arith, ⊎_elim}
use Rattle.std.proofs.lemmas.Bool.{cases_lt}
use Rattle.pb_fixpoint_trees.specs.declared.junction.Junction.{Junction}
use Rattle.pb_fixpoint_trees.specs.declared.junction.Junction.TheVariants.{Conjunction, Disjunction}
use Rattle.pb_assembler_measures.specs.declared.measure_load.Load.{Load}
use Rattle.pb_assembler_measures.specs.declared.measure_tally.Tally.{Tally}
use Rattle.pb_assembler_measures.specs.MeasureTerms.{capped, capped_load}
use Rattle.pb_assembler_measures.proofs.MeasureLoads.{load_of}
use Rattle.pb_assembler_measures.specs.MeasureFormulas.{capped_tally, test_tally, passing, deciding_tally, tested_tally, bracketed_tally, under_tally, after, looped, argument_load}

-- ---- products

suc_mul : (n x : ℕ) → suc n * x ≡ x + n * x
suc_mul n x = omega arith

above : (n x : ℕ) → 1000001 < x → capped (suc n * capped x) ≡ capped (suc n * x)
above n x lt =
    let a : capped x ≡ 1000001 = omega (arith, lt) in
    let l : suc n * 1000001 ≡ 1000001 + n * 1000001 = omega arith in
    let m : suc n * x ≡ x + n * x = suc_mul n x in
    ap (λ k. capped (suc n * k)) a ∙ omega (arith, l, m, lt)

pub times_capped : (n x : ℕ) → capped (n * capped x) ≡ capped (n * x)
times_capped zero x = omega arith
times_capped (suc n) x = ⊎_elim (λ l. above n x l) (λ g. let a : capped x ≡ x = omega (arith, g) in ap (λ k. capped (suc n * k)) a) (cases_lt 1000001 x)

-- in a loop over n values
pub steps_capped : (n s : ℕ) → capped (capped (n * capped (s + 1)) + 1) ≡ capped (1 + n * (1 + s))
steps_capped n s = let t = times_capped n (s + 1) in let e : n * (s + 1) ≡ n * (1 + s) = ap (λ k. n * k) (omega arith) in omega (arith, t, e)

-- ---- tallies of parts, in the words of their measures

abbrev tally : ℕ → ℕ → ℕ → ℕ → ℕ → ℕ → Tally
tally i o b n s t = record { instructions = i; operands = o; brackets = b; nesting = n; steps = s; tokens = t }

tally_of : (i o b n s t i' o' b' n' s' t' : ℕ) → i ≡ i' → o ≡ o' → b ≡ b' → n ≡ n' → s ≡ s' → t ≡ t' → tally i o b n s t ≡ tally i' o' b' n' s' t'
tally_of i o b n s t i' o' b' n' s' t' ei eo eb en es et =
    ap (λ k. tally k o b n s t) ei ∙ ap (λ k. tally i' k b n s t) eo ∙ ap (λ k. tally i' o' k n s t) eb
    ∙ ap (λ k. tally i' o' b' k s t) en ∙ ap (λ k. tally i' o' b' n' k t) es ∙ ap (tally i' o' b' n' s') et

deciding_capped : (l : Load) (x : Tally) → capped_tally (deciding_tally (capped_load l) (capped_tally x)) ≡ capped_tally (deciding_tally l x)
deciding_capped l x = tally_of _ _ _ _ _ _ _ _ _ _ _ _ (omega arith) (omega arith) (omega arith) (omega arith) (omega arith) (omega arith)

passing_capped : (l : Load) (x : Tally) → capped_tally (passing (capped_load l) (capped_tally x)) ≡ capped_tally (passing l x)
passing_capped l x = tally_of _ _ _ _ _ _ _ _ _ _ _ _ (omega arith) (omega arith) (omega arith) (omega arith) (omega arith) (omega arith)

tested_capped : (m around : Junction) (l : Load) (x : Tally) → capped_tally (tested_tally m around (capped_load l) (capped_tally x)) ≡ capped_tally (tested_tally m around l x)
tested_capped Conjunction Conjunction l x = deciding_capped l x
tested_capped Disjunction Disjunction l x = deciding_capped l x
tested_capped Conjunction Disjunction l x = passing_capped l x
tested_capped Disjunction Conjunction l x = passing_capped l x

same_capped : (x : Tally) → capped_tally (capped_tally x) ≡ capped_tally x
same_capped x = tally_of _ _ _ _ _ _ _ _ _ _ _ _ (omega arith) (omega arith) (omega arith) (omega arith) (omega arith) (omega arith)

bracketed_capped : (x : Tally) → capped_tally (bracketed_tally (capped_tally x)) ≡ capped_tally (bracketed_tally x)
bracketed_capped x = tally_of _ _ _ _ _ _ _ _ _ _ _ _ (omega arith) (omega arith) (omega arith) (omega arith) (omega arith) (omega arith)

under_capped : (m around : Junction) (x : Tally) → capped_tally (under_tally m around (capped_tally x)) ≡ capped_tally (under_tally m around x)
under_capped Conjunction Conjunction x = same_capped x
under_capped Disjunction Disjunction x = same_capped x
under_capped Conjunction Disjunction x = bracketed_capped x
under_capped Disjunction Conjunction x = bracketed_capped x

after_capped : (x y : Tally) → capped_tally (after (capped_tally x) (capped_tally y)) ≡ capped_tally (after x y)
after_capped x y = tally_of _ _ _ _ _ _ _ _ _ _ _ _ (omega arith) (omega arith) (omega arith) (omega arith) (omega arith) (omega arith)

loop_steps : (n s : ℕ) → capped (1 + n * (1 + capped s)) ≡ capped (1 + n * (1 + s))
loop_steps n s =
    let a = times_capped n (1 + capped s) in
    let b = times_capped n (1 + s) in
    let e : n * capped (1 + capped s) ≡ n * capped (1 + s) = ap (λ k. n * k) (omega arith) in
    omega (arith, a, b, e)

looped_capped : (n : ℕ) (x : Tally) → capped_tally (looped n (capped_tally x)) ≡ capped_tally (looped n x)
looped_capped n x = tally_of _ _ _ _ _ _ _ _ _ _ _ _ (omega arith) (omega arith) (omega arith) (omega arith) (loop_steps n x.steps) (times_capped n x.tokens)

test_capped : (l : Load) → capped_tally (test_tally (capped_load l)) ≡ capped_tally (test_tally l)
test_capped l = tally_of _ _ _ _ _ _ _ _ _ _ _ _ (omega arith) (omega arith) (omega arith) (omega arith) (omega arith) (omega arith)

-- ---- with equations for the parts

pub test_by : (r l : Load) → r ≡ capped_load l → capped_tally (test_tally r) ≡ capped_tally (test_tally l)
test_by r l e = ap (λ (k : Load). capped_tally (test_tally k)) e ∙ test_capped l

pub tested_by : (m around : Junction) (r l : Load) (y x : Tally) → r ≡ capped_load l → y ≡ capped_tally x → capped_tally (tested_tally m around r y) ≡ capped_tally (tested_tally m around l x)
tested_by m around r l y x e f =
    ap (λ (k : Load). capped_tally (tested_tally m around k y)) e
    ∙ ap (λ (k : Tally). capped_tally (tested_tally m around (capped_load l) k)) f ∙ tested_capped m around l x

pub under_by : (m around : Junction) (y x : Tally) → y ≡ capped_tally x → capped_tally (under_tally m around y) ≡ capped_tally (under_tally m around x)
under_by m around y x e = ap (λ (k : Tally). capped_tally (under_tally m around k)) e ∙ under_capped m around x

pub after_by : (z w x y : Tally) → z ≡ capped_tally x → w ≡ capped_tally y → capped_tally (after z w) ≡ capped_tally (after x y)
after_by z w x y e f = ap (λ (k : Tally). capped_tally (after k w)) e ∙ ap (λ (k : Tally). capped_tally (after (capped_tally x) k)) f ∙ after_capped x y

pub looped_by : (n k : ℕ) (y x : Tally) → n ≡ k → y ≡ capped_tally x → capped_tally (looped n y) ≡ capped_tally (looped k x)
looped_by n k y x e f = ap (λ i. capped_tally (looped i y)) e ∙ ap (λ (z : Tally). capped_tally (looped k z)) f ∙ looped_capped k x

argument_capped : (tested later : Bool) (l m : Load) → capped_load (argument_load tested later (capped_load l) (capped_load m)) ≡ capped_load (argument_load tested later l m)
argument_capped tested later l m = load_of _ _ _ _ (omega arith) (omega arith)

pub argument_by : (a b c d : Bool) (r s l m : Load) → a ≡ b → c ≡ d → r ≡ capped_load l → s ≡ capped_load m → capped_load (argument_load a c r s) ≡ capped_load (argument_load b d l m)
argument_by a b c d r s l m e f g h =
    ap (λ k. capped_load (argument_load k c r s)) e
    ∙ ap (λ k. capped_load (argument_load b k r s)) f
    ∙ ap (λ (k : Load). capped_load (argument_load b d k s)) g
    ∙ ap (λ (k : Load). capped_load (argument_load b d (capped_load l) k)) h
    ∙ argument_capped b d l m
