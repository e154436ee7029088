-- How deep the loops of the scheme's code are nested: as deep as is counted on the right side.
use Rattle.std.proofs.Common.{◌≡◌, ℕ, zero, suc, ◌+◌, ◌-◌, ◌<◌, ◌≤◌, ◌⊎◌, Bool, true, false, cond, Option, Some, None, List, [], ◌∷◌, ◌++◌, length, refl, sym, ap, ◌∙◌, subst, arith, ⊎_elim, length-append}
use Rattle.std.specs.Prelude.{ℤ, max, slice_get}
use Rattle.std.proofs.lemmas.Bool.{cases_lt}
use Rattle.pb_sorts.specs.declared.carrier.Carrier.{Carrier}
use Rattle.pb_text_meaning.specs.Syntax.{Operator}
use Rattle.pb_bytecode_program.specs.Machine.{Program}
use Rattle.pb_bytecode_program.specs.Counts.{LoopEffect, Enters, Leaves, Straight, loop_effect, loops_after, loops_open_after, loops_around}
use Rattle.pb_bytecode_program.specs.declared.instruction.Leaf.TheVariants as leaf
use Rattle.pb_bytecode_program.specs.declared.instruction.Op.{Op}
use Rattle.pb_bytecode_program.specs.declared.instruction.Op.TheVariants as op
use Rattle.pb_fixpoint_trees.specs.declared.junction.Junction.{Junction}
use Rattle.pb_fixpoint_trees.specs.declared.junction.Junction.TheVariants.{Conjunction, Disjunction}
use Rattle.pb_normal.specs.Normal.{Term, Number, Slot, Negative, Absolute, Successor, Predecessor, Binary, Maximum, Minimum, Choice, Recognised, Argument, Formula, Test, Join, Each, Call}
use Rattle.pb_assembler_scheme.specs.Correct.{IsCompiled}
use Rattle.pb_assembler_scheme.specs.Pieces.{Piece, Empty, Plain, Then, Unless, Choose, Repeat, Block, Leave, Guard, end, flat}
use Rattle.pb_assembler_scheme.specs.Scheme.{junction_of, data_piece, binary_piece, bracketed, under, tested_piece, test_of, join_piece, tested_range, any_tested, guarded, arguments_piece, call_piece, parameters, formula_piece, head, equation_piece}
use Rattle.pb_assembler_scheme.specs.Limits.{formula_loops}
use Rattle.pb_assembler_scheme.proofs.Tables.{IsStraight}
use Rattle.pb_assembler_scheme.proofs.Weights.{equation_straight}
use Rattle.pb_assembler_places.specs.Reached.{AreMostLoops}

-- ---- how many loops are open, whichever they are

abbrev depth_after : LoopEffect → ℕ → ℕ
depth_after (Enters s) d = suc d
depth_after Leaves d = d - 1
depth_after Straight d = d

-- after n of these instructions, where d are open in front
abbrev depth : List Op → ℕ → ℕ → ℕ
depth [] d n = d
depth (i ∷ is) d zero = d
depth (i ∷ is) d (suc n) = depth is (depth_after (loop_effect i) d) n

after_long : (t : LoopEffect) (q : ℕ) (st : List ℕ) → length (loops_after t q st) ≡ depth_after t (length st)
after_long (Enters s) q st = refl
after_long Leaves q [] = refl
after_long Leaves q (x ∷ st) = omega arith
after_long Straight q st = refl

open_long : (is : List Op) (q : ℕ) (st : List ℕ) (n : ℕ) → length (loops_open_after is q st n) ≡ depth is (length st) n
open_long [] q st n = refl
open_long (i ∷ is) q st zero = refl
open_long (i ∷ is) q st (suc n) =
    open_long is (q + 1) (loops_after (loop_effect i) q st) n ∙ ap (λ d. depth is d n) (after_long (loop_effect i) q st)

depth_start : (is : List Op) (d : ℕ) → depth is d 0 ≡ d
depth_start [] d = refl
depth_start (i ∷ is) d = refl

depth_first : (xs ys : List Op) (d n : ℕ) → n ≤ length xs → depth (xs ++ ys) d n ≡ depth xs d n
depth_first [] ys d zero l = depth_start ys d
depth_first [] ys d (suc n) l = absurd (omega arith)
depth_first (i ∷ xs) ys d zero l = refl
depth_first (i ∷ xs) ys d (suc n) l = depth_first xs ys (depth_after (loop_effect i) d) n (omega arith)

depth_second : (xs ys : List Op) (d m n : ℕ) → n ≡ length xs + m → depth (xs ++ ys) d n ≡ depth ys (depth xs d (length xs)) m
depth_second [] ys d m n e = ap (depth ys d) (let f : n ≡ m = omega arith in f)
depth_second (i ∷ xs) ys d m zero e = absurd (omega arith)
depth_second (i ∷ xs) ys d m (suc n) e = depth_second xs ys (depth_after (loop_effect i) d) m n (omega arith)

-- ---- code that closes the loops that it opens, k of them at once at most

pub record Nests (is : List Op) (k : ℕ) : Type 0 where
  pub closed : (d : ℕ) → depth is d (length is) ≡ d
  pub most : (d n : ℕ) → n ≤ length is → depth is d n ≤ d + k
  pub deepest : ℕ
  pub within : deepest ≤ length is
  pub held : (d : ℕ) → depth is d deepest ≡ d + k

-- a place where k more are open
abbrev Deepest : List Op → ℕ → Type 0
Deepest is k = (n : ℕ) × (n ≤ length is) × ((d : ℕ) → depth is d n ≡ d + k)

nests_none : Nests [] 0
nests_none = record { closed = λ d. refl; most = λ d n l. omega arith; deepest = 0; within = omega arith; held = λ d. omega arith }

nests_as : (is : List Op) (k l : ℕ) → k ≡ l → Nests is k → Nests is l
nests_as is k l e h = subst (Nests is) e h

-- an instruction in front that neither opens nor closes a loop
nests_straight : (i : Op) (is : List Op) (k : ℕ) → loop_effect i ≡ Straight → Nests is k → Nests (i ∷ is) k
nests_straight i is k s h = record {
  closed = λ d. here d (length is) ∙ h.closed d;
  most = most;
  deepest = suc h.deepest;
  within = let w = h.within in omega arith;
  held = λ d. here d h.deepest ∙ h.held d;
}
  where
    here : (d n : ℕ) → depth is (depth_after (loop_effect i) d) n ≡ depth is d n
    here d n = ap (λ (t : LoopEffect). depth is (depth_after t d) n) s

    most : (d n : ℕ) → n ≤ suc (length is) → depth (i ∷ is) d n ≤ d + k
    most d zero l = omega arith
    most d (suc n) l = let a = h.most d n (omega arith) in let e = here d n in omega (arith, a, e)

nests_both : (xs ys : List Op) (k l : ℕ) → Nests xs k → Nests ys l → Nests (xs ++ ys) (max k l)
nests_both xs ys k l a b = record {
  closed = λ d. ap (depth (xs ++ ys) d) long ∙ second d (length ys) ∙ b.closed d;
  most = most;
  deepest = (deepest_of (cases_lt k l)).0;
  within = (deepest_of (cases_lt k l)).1;
  held = (deepest_of (cases_lt k l)).2;
}
  where
    long : length (xs ++ ys) ≡ length xs + length ys
    long = length-append xs ys

    second : (d m : ℕ) → depth (xs ++ ys) d (length xs + m) ≡ depth ys d m
    second d m = depth_second xs ys d m (length xs + m) refl ∙ ap (λ e. depth ys e m) (a.closed d)

    most : (d n : ℕ) → n ≤ length (xs ++ ys) → depth (xs ++ ys) d n ≤ d + max k l
    most d n low =
        ⊎_elim (λ (behind : length xs < n).
        let at : n ≡ length xs + (n - length xs) = omega (arith, behind) in
        let e = ap (depth (xs ++ ys) d) at ∙ second d (n - length xs) in
        let m = b.most d (n - length xs) (omega (arith, low, long, behind)) in
        omega (arith, e, m))
        (λ (before : n ≤ length xs). let e = depth_first xs ys d n before in let m = a.most d n before in omega (arith, e, m))
        (cases_lt (length xs) n)

    deepest_of : (k < l) ⊎ (l ≤ k) → Deepest (xs ++ ys) (max k l)
    deepest_of c =
        ⊎_elim (λ (less : k < l). (
          length xs + b.deepest,
          let w = b.within in omega (arith, w, long),
          λ d. let e = second d b.deepest in let h = b.held d in omega (arith, e, h, less),
        )) (λ (more : l ≤ k). (
          a.deepest,
          let w = a.within in omega (arith, w, long),
          λ d. let e = depth_first xs ys d a.deepest a.within in let h = a.held d in omega (arith, e, h, more),
        )) c

-- a loop round code
nests_loop : (s : ℕ) (is : List Op) (k : ℕ) → Nests is k → Nests (op.Loop s ∷ (is ++ op.Next ∷ [])) (suc k)
nests_loop s is k h = record {
  closed = λ d. ap (depth (is ++ op.Next ∷ []) (suc d)) long ∙ last d;
  most = most;
  deepest = suc h.deepest;
  within = let w = h.within in omega (arith, w, long);
  held = λ d. let e = depth_first is (op.Next ∷ []) (suc d) h.deepest h.within in let g = h.held (suc d) in omega (arith, e, g);
}
  where
    long : length (is ++ op.Next ∷ []) ≡ length is + 1
    long = length-append is (op.Next ∷ [])

    last : (d : ℕ) → depth (is ++ op.Next ∷ []) (suc d) (length is + 1) ≡ d
    last d =
        depth_second is (op.Next ∷ []) (suc d) 1 (length is + 1) refl
        ∙ ap (λ e. e - 1) (h.closed (suc d)) ∙ (let z : suc d - 1 ≡ d = omega arith in z)

    most : (d n : ℕ) → n ≤ suc (length (is ++ op.Next ∷ [])) → depth (op.Loop s ∷ (is ++ op.Next ∷ [])) d n ≤ d + suc k
    most d zero l = omega arith
    most d (suc n) l =
        ⊎_elim (λ (behind : length is < n).
        let at : n ≡ length is + 1 = omega (arith, l, long, behind) in
        let e = ap (depth (is ++ op.Next ∷ []) (suc d)) at ∙ last d in omega (arith, e))
        (λ (before : n ≤ length is). let e = depth_first is (op.Next ∷ []) (suc d) n before in let m = h.most (suc d) n before in omega (arith, e, m))
        (cases_lt (length is) n)

-- ---- pieces

-- how deep a piece's loops are nested
abbrev piece_loops : Piece → ℕ
piece_loops Empty = 0
piece_loops (Plain i) = 0
piece_loops (Then a b) = max (piece_loops a) (piece_loops b)
piece_loops (Unless on a) = piece_loops a
piece_loops (Choose on a b) = max (piece_loops a) (piece_loops b)
piece_loops (Repeat s a) = suc (piece_loops a)
piece_loops (Block a) = piece_loops a
piece_loops Leave = 0
piece_loops (Guard low high a) = piece_loops a

module _ (p : Program) where
  piece_nests : (x : Piece) (q e : ℕ) → IsStraight p x → Nests (flat q e x) (piece_loops x)
  piece_nests Empty q e s = nests_none
  piece_nests (Plain i) q e s = nests_straight i [] 0 s nests_none
  piece_nests (Then a b) q e s = nests_both (flat q e a) (flat (end q a) e b) _ _ (piece_nests a q e s.0) (piece_nests b (end q a) e s.1)
  piece_nests (Unless on a) q e s = nests_straight _ (flat (q + 1) e a) _ refl (piece_nests a (q + 1) e s)
  piece_nests (Choose on a b) q e s =
      let mid = end (q + 1) a + 1 in
      nests_straight _ _ _ refl
      (nests_both (flat (q + 1) e a) (op.Jump (end mid b) ∷ flat mid e b) _ _ (piece_nests a (q + 1) e s.0)
      (nests_straight _ (flat mid e b) _ refl (piece_nests b mid e s.1)))
  piece_nests (Repeat i a) q e s = nests_loop i (flat (q + 1) e a) (piece_loops a) (piece_nests a (q + 1) e s)
  piece_nests (Block a) q e s = piece_nests a q (end q a) s
  piece_nests Leave q e s = nests_straight (op.Jump e) [] 0 refl nests_none
  piece_nests (Guard low high a) q e s =
      nests_straight _ _ _ refl
      (nests_as _ (max (piece_loops a) 0) (piece_loops a) (omega arith)
      (nests_both (flat (q + 1) e a) (op.Pop ∷ []) (piece_loops a) 0 (piece_nests a (q + 1) e s) (nests_straight op.Pop [] 0 refl nests_none)))

-- ---- the scheme's pieces

binary_loops : (o : Operator) (x y : Piece) → piece_loops x ≡ 0 → piece_loops y ≡ 0 → piece_loops (binary_piece o x y) ≡ 0
binary_loops Operator.And x y e f = omega arith
binary_loops Operator.Or x y e f = omega arith
binary_loops Operator.Implies x y e f = omega arith
binary_loops Operator.Equal x y e f = omega arith
binary_loops Operator.NotEqual x y e f = omega arith
binary_loops Operator.Less x y e f = omega arith
binary_loops Operator.LessEqual x y e f = omega arith
binary_loops Operator.Greater x y e f = omega arith
binary_loops Operator.GreaterEqual x y e f = omega arith
binary_loops Operator.Plus x y e f = omega arith
binary_loops Operator.Minus x y e f = omega arith
binary_loops Operator.Times x y e f = omega arith
binary_loops Operator.Div x y e f = omega arith
binary_loops Operator.Mod x y e f = omega arith

data_loops : (t : Term) → piece_loops (data_piece t) ≡ 0
data_loops (Term.Truth b) = refl
data_loops (Number n) = refl
data_loops (Term.Enumerator s i) = refl
data_loops (Slot s) = refl
data_loops (Term.Not x) = let e = data_loops x in omega (arith, e)
data_loops (Negative x) = let e = data_loops x in omega (arith, e)
data_loops (Absolute x) = let e = data_loops x in omega (arith, e)
data_loops (Successor x) = let e = data_loops x in omega (arith, e)
data_loops (Predecessor x) = let e = data_loops x in omega (arith, e)
data_loops (Binary o x y) = binary_loops o (data_piece x) (data_piece y) (data_loops x) (data_loops y)
data_loops (Maximum x y) = let e = data_loops x in let f = data_loops y in omega (arith, e, f)
data_loops (Minimum x y) = let e = data_loops x in let f = data_loops y in omega (arith, e, f)
data_loops (Choice c x y) = let d = data_loops c in let e = data_loops x in let f = data_loops y in omega (arith, d, e, f)
data_loops (Recognised s i x) = let e = data_loops x in omega (arith, e)

tested_loops : (m around : Junction) (t : Term) (x : Piece) → piece_loops (tested_piece m around t x) ≡ piece_loops x
tested_loops Conjunction Conjunction t x = let e = data_loops t in omega (arith, e)
tested_loops Disjunction Disjunction t x = let e = data_loops t in omega (arith, e)
tested_loops Conjunction Disjunction t x = let e = data_loops t in omega (arith, e)
tested_loops Disjunction Conjunction t x = let e = data_loops t in omega (arith, e)

under_loops : (m around : Junction) (x : Piece) → piece_loops (under m around x) ≡ piece_loops x
under_loops Conjunction Conjunction x = refl
under_loops Disjunction Disjunction x = refl
under_loops Conjunction Disjunction x = omega arith
under_loops Disjunction Conjunction x = omega arith

-- a test has no loops
abbrev HasNoLoop : Option Term → ℕ → Type 0
HasNoLoop None n = Unit {0}
HasNoLoop (Some t) n = n ≡ 0

test_has_none : (f : Formula) → HasNoLoop (test_of f) (formula_loops f)
test_has_none (Test t) = refl
test_has_none (Join m f g) = tt
test_has_none (Each q s shape f) = tt
test_has_none (Call equation xs) = tt

join_loops : (m around : Junction) (s t : Option Term) (fa ga fo go : Piece) (a b : ℕ) → HasNoLoop s a → HasNoLoop t b
    → piece_loops fa ≡ a → piece_loops ga ≡ b → piece_loops fo ≡ a → piece_loops go ≡ b
    → piece_loops (join_piece m around s t fa ga fo go) ≡ max a b
join_loops m around (Some s) t fa ga fo go a b n k e f g h = let x = tested_loops m around s ga in omega (arith, x, n, f)
join_loops m around None (Some t) fa ga fo go a b n k e f g h = let x = tested_loops m around t fa in omega (arith, x, k, e)
join_loops m around None None fa ga fo go a b n k e f g h = let x = under_loops m around (Then fo go) in omega (arith, x, g, h)

guarded_loops : (o : Option (ℤ × ℤ)) (later : Bool) (x : Piece) → piece_loops (guarded o later x) ≡ piece_loops x
guarded_loops (Some r) later x = refl
guarded_loops None true x = omega arith
guarded_loops None false x = refl

arguments_loops : (cs : List Carrier) (xs : List Argument) (last : Piece) → piece_loops last ≡ 0 → piece_loops (arguments_piece cs xs last) ≡ 0
arguments_loops (c ∷ cs) (x ∷ xs) last h =
    let own = data_loops x.term in
    let rest = arguments_loops cs xs last h in
    let guard = guarded_loops (tested_range c x.shape) (any_tested cs xs) (arguments_piece cs xs last) in
    omega (arith, own, rest, guard)
arguments_loops [] (x ∷ xs) last h = let own = data_loops x.term in let rest = arguments_loops [] xs last h in omega (arith, own, rest)
arguments_loops [] [] last h = h
arguments_loops (c ∷ cs) [] last h = h

call_loops : (equation : ℕ) (cs : List Carrier) (xs : List Argument) → piece_loops (call_piece equation cs xs) ≡ 0
call_loops equation cs xs = by (any_tested cs xs)
  where
    by : (b : Bool)
        → piece_loops
        (cond b (Block
        (Then (arguments_piece cs xs (Then (Plain (op.Call equation)) Leave)) (Plain (op.Emit leaf.Cut))))
        (arguments_piece cs xs (Plain (op.Call equation)))) ≡ 0
    by true = let e = arguments_loops cs xs (Then (Plain (op.Call equation)) Leave) refl in omega (arith, e)
    by false = arguments_loops cs xs (Plain (op.Call equation)) refl

formula_nested : (callees : List (List Carrier)) (f : Formula) (around : Junction) → piece_loops (formula_piece callees around f) ≡ formula_loops f
formula_nested callees (Test t) around = let e = data_loops t in omega (arith, e)
formula_nested callees (Join m f g) around =
    join_loops m around (test_of f) (test_of g) _ _ _ _ (formula_loops f) (formula_loops g) (test_has_none f) (test_has_none g)
    (formula_nested callees f around) (formula_nested callees g around) (formula_nested callees f m) (formula_nested callees g m)
formula_nested callees (Each q s shape f) around = under_loops (junction_of q) around (Repeat s (formula_piece callees (junction_of q) f)) ∙ ap suc (formula_nested callees f (junction_of q))
formula_nested callees (Call equation xs) around = call_loops equation (parameters (slice_get callees equation)) xs

equation_nested : (callees : List (List Carrier)) (f : Formula) → piece_loops (equation_piece callees f) ≡ formula_loops f
equation_nested callees f = let e = formula_nested callees f (head f) in omega (arith, e)

-- ---- programs

module _ (p : Program) (f : Formula) (compiled : IsCompiled p f) where
  whole : Nests p.code (formula_loops f)
  whole =
      subst (λ (is : List Op). Nests is (formula_loops f)) (sym compiled.code)
      (nests_as (flat 0 0 (equation_piece p.callees f)) (piece_loops (equation_piece p.callees f)) (formula_loops f) (equation_nested p.callees f)
      (piece_nests p (equation_piece p.callees f) 0 0 (equation_straight p p.callees f)))

  around : (q : ℕ) → length (loops_around p.code q) ≡ depth p.code 0 q
  around q = open_long p.code 0 [] q

  -- END is the last instruction
  some : 0 < length p.code
  some =
      let e = ap length compiled.code in
      let l = length-append (flat 0 0 (bracketed (head f) (formula_piece p.callees (head f) f))) (op.End ∷ []) in
      omega (arith, e, l)

  pub most_loops : AreMostLoops p (formula_loops f)
  most_loops = record {
    held =
        ⊎_elim (λ (inside : whole.deepest < length p.code). (whole.deepest, inside, around whole.deepest ∙ whole.held 0 ∙ zero_on (formula_loops f)))
        (λ (behind : length p.code ≤ whole.deepest). (
          0,
          some,
          let w = whole.within in
              let end : whole.deepest ≡ length p.code = omega (arith, w, behind) in
              let closed = whole.closed 0 in
              let held = whole.held 0 in
              let here = ap (depth p.code 0) end in
              let first = around 0 ∙ depth_start p.code 0 in
              omega (arith, closed, held, here, first),
        ))
        (cases_lt whole.deepest (length p.code));
    most = λ q below. let e = around q in let m = whole.most 0 q (omega arith) in omega (arith, e, m);
  }
    where
      zero_on : (n : ℕ) → 0 + n ≡ n
      zero_on n = omega arith
