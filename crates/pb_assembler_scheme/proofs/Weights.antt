-- Static counts are the weights of pieces.
use Rattle.std.proofs.Common.{◌≡◌, ℕ, ◌+◌, ◌*◌, Bool, true, false, cond, List, [], ◌∷◌, ◌++◌, length, Option, Some, None, refl, sym, ap, ◌∙◌, arith, append_assoc, append-nil}
use Rattle.std.specs.Prelude.{ℤ, slice_get}
use Rattle.std.proofs.Math.Nat.{mul-add, mul_assoc}
use Rattle.pb_sorts.specs.declared.carrier.Carrier.{Carrier}
use Rattle.pb_text_meaning.specs.Syntax.{Operator}
use Rattle.pb_bytecode_program.specs.Machine.{Program, carrier_of}
use Rattle.pb_bytecode_program.specs.Counts.{LoopEffect, Straight, loop_effect, carrier_size, multiplier, cost_by, cost_of, one_step, tokens_of, static_steps, static_tokens}
use Rattle.pb_bytecode_program.specs.declared.instruction.Leaf.TheVariants as leaf
use Rattle.pb_bytecode_program.specs.declared.instruction.Op.{Op}
use Rattle.pb_bytecode_program.specs.declared.instruction.Op.TheVariants as op
use Rattle.pb_fixpoint_trees.specs.declared.junction.Junction.{Junction}
use Rattle.pb_fixpoint_trees.specs.declared.junction.Junction.TheVariants.{Conjunction, Disjunction}
use Rattle.pb_normal.specs.Normal.{Term, Number, Slot, Negative, Absolute, Successor, Predecessor, Binary, Maximum, Minimum, Choice, Recognised, Argument, Formula, Test, Join, Each, Call}
use Rattle.pb_assembler_scheme.specs.Pieces.{Piece, Empty, Plain, Then, Unless, Choose, Repeat, Block, Leave, Guard, end, flat}
use Rattle.pb_assembler_scheme.specs.Scheme.{data_piece, binary_piece, junction_of, under, tested_piece, test_of, join_piece, tested_range, any_tested, guarded, arguments_piece, call_piece, parameters, formula_piece, head, equation_piece}
use Rattle.pb_assembler_scheme.specs.Correct.{IsCompiled}
use Rattle.pb_assembler_scheme.specs.Weights.{weight}
use Rattle.pb_assembler_scheme.proofs.Tables.{IsStraight}
use Rattle.pb_assembler_scheme.proofs.Flat.{long}

module _ (p : Program) (cost : Op → ℕ) (jump : ℕ) where
  -- a jump's target costs nothing
  pub record Blind : Type 0 where
    pub always : (t : ℕ) → cost (op.Jump t) ≡ jump
    pub where_true : (on : _) (t : ℕ) → cost (op.JumpIf on t) ≡ jump
    pub ranged : (low high : _) (t : ℕ) → cost (op.InRange low high t) ≡ jump

  one_straight : (o : Op) (is : List Op) (ws : List ℕ) → loop_effect o ≡ Straight → cost_of p cost (o ∷ is) ws ≡ multiplier ws * cost o + cost_of p cost is ws
  one_straight o is ws e = ap (λ (t : LoopEffect). cost_by p t (cost o) ws (cost_of p cost is)) e

  more : (t a b r x y : ℕ) → x ≡ t * a + y → y ≡ t * b + r → x ≡ t * (a + b) + r
  more t a b r x y e f = let d = mul-add t a b in omega (arith, e, f, d)

  pub counted : Blind → (x : Piece) (q e : ℕ) (rest : List Op) (ws : List ℕ) → IsStraight p x → cost_of p cost (flat q e x ++ rest) ws ≡ multiplier ws * weight p cost jump x + cost_of p cost rest ws
  counted bl Empty q e rest ws st = let z : multiplier ws * 0 ≡ 0 = omega arith in omega (arith, z)
  counted bl (Plain o) q e rest ws st = one_straight o rest ws st
  counted bl (Then a b) q e rest ws st =
      more (multiplier ws) (weight p cost jump a) (weight p cost jump b) (cost_of p cost rest ws) _ _
      (ap (λ (is : List Op). cost_of p cost is ws) (append_assoc (flat q e a) (flat (end q a) e b) rest)
      ∙ counted bl a q e (flat (end q a) e b ++ rest) ws st.0) (counted bl b (end q a) e rest ws st.1)
  counted bl (Unless on a) q e rest ws st =
      more (multiplier ws) jump (weight p cost jump a) (cost_of p cost rest ws) _ _
      (ap (λ n. multiplier ws * n + cost_of p cost (flat (q + 1) e a ++ rest) ws) (bl.where_true on _))
      (counted bl a (q + 1) e rest ws st)
  counted bl (Choose on a b) q e rest ws st =
      let mid = end (q + 1) a + 1 in
      let fb = flat mid e b in
      let j = op.Jump (end mid b) in
      more (multiplier ws) jump (weight p cost jump a + (jump + weight p cost jump b)) (cost_of p cost rest ws) _ _
      (ap (λ n. multiplier ws * n + cost_of p cost ((flat (q + 1) e a ++ j ∷ fb) ++ rest) ws) (bl.where_true on _))
      (more (multiplier ws) (weight p cost jump a) (jump + weight p cost jump b) (cost_of p cost rest ws) _ _
      (ap (λ (is : List Op). cost_of p cost is ws) (append_assoc (flat (q + 1) e a) (j ∷ fb) rest) ∙ counted bl a (q + 1) e (j ∷ (fb ++ rest)) ws st.0)
      (more (multiplier ws) jump (weight p cost jump b) (cost_of p cost rest ws) _ _ (ap (λ n. multiplier ws * n + cost_of p cost (fb ++ rest) ws) (bl.always _)) (counted bl b mid e rest ws st.1)))
  counted bl (Repeat s a) q e rest ws st =
      let size = carrier_size (carrier_of p s) in
      let t = multiplier ws in
      let r = cost_of p cost rest ws in
      let body : cost_of p cost ((flat (q + 1) e a ++ op.Next ∷ []) ++ rest) (t * size ∷ ws) ≡ t * size * (weight p cost jump a + cost op.Next) + r =
      more (t * size) (weight p cost jump a) (cost op.Next) r _ _
      (ap (λ (is : List Op). cost_of p cost is (t * size ∷ ws)) (append_assoc (flat (q + 1) e a) (op.Next ∷ []) rest) ∙ counted bl a (q + 1) e (op.Next ∷ rest) (t * size ∷ ws) st) refl in
      more t (cost (op.Loop s)) (size * (weight p cost jump a + cost op.Next)) r _ _ refl (body ∙ ap (λ n. n + r) (mul_assoc t size (weight p cost jump a + cost op.Next)))
  counted bl (Block a) q e rest ws st = counted bl a q (end q a) rest ws st
  counted bl Leave q e rest ws st = ap (λ n. multiplier ws * n + cost_of p cost rest ws) (bl.always e)
  counted bl (Guard low high a) q e rest ws st =
      more (multiplier ws) jump (weight p cost jump a + cost op.Pop) (cost_of p cost rest ws) _ _
      (ap (λ n. multiplier ws * n + cost_of p cost ((flat (q + 1) e a ++ op.Pop ∷ []) ++ rest) ws) (bl.ranged low high _))
      (more (multiplier ws) (weight p cost jump a) (cost op.Pop) (cost_of p cost rest ws) _ _
      (ap (λ (is : List Op). cost_of p cost is ws) (append_assoc (flat (q + 1) e a) (op.Pop ∷ []) rest) ∙ counted bl a (q + 1) e (op.Pop ∷ rest) ws st) refl)

-- ---- no piece of the scheme loops but by its loops

module _ (p : Program) where
  binary_straight : (o : Operator) (x y : Piece) → IsStraight p x → IsStraight p y → IsStraight p (binary_piece o x y)
  binary_straight Operator.And x y a b = (b, (a, refl))
  binary_straight Operator.Or x y a b = (b, (a, refl))
  binary_straight Operator.Implies x y a b = (b, ((a, refl), refl))
  binary_straight Operator.Equal x y a b = (a, (b, refl))
  binary_straight Operator.NotEqual x y a b = (a, (b, refl))
  binary_straight Operator.Less x y a b = (a, (b, refl))
  binary_straight Operator.LessEqual x y a b = (a, (b, refl))
  binary_straight Operator.Greater x y a b = (a, (b, refl))
  binary_straight Operator.GreaterEqual x y a b = (a, (b, refl))
  binary_straight Operator.Plus x y a b = (a, (b, refl))
  binary_straight Operator.Minus x y a b = (a, (b, refl))
  binary_straight Operator.Times x y a b = (a, (b, refl))
  binary_straight Operator.Div x y a b = (a, (b, refl))
  binary_straight Operator.Mod x y a b = (a, (b, refl))

  data_straight : (t : Term) → IsStraight p (data_piece t)
  data_straight (Term.Truth b) = refl
  data_straight (Number n) = refl
  data_straight (Term.Enumerator s i) = refl
  data_straight (Slot s) = refl
  data_straight (Term.Not x) = (data_straight x, refl)
  data_straight (Negative x) = (data_straight x, refl)
  data_straight (Absolute x) = (data_straight x, refl)
  data_straight (Successor x) = (data_straight x, (refl, refl))
  data_straight (Predecessor x) = (data_straight x, (refl, refl))
  data_straight (Binary o x y) = binary_straight o (data_piece x) (data_piece y) (data_straight x) (data_straight y)
  data_straight (Maximum x y) = (data_straight x, (data_straight y, refl))
  data_straight (Minimum x y) = (data_straight x, (data_straight y, refl))
  data_straight (Choice c x y) = (data_straight c, (data_straight x, data_straight y))
  data_straight (Recognised s i x) = (data_straight x, (refl, refl))

  under_straight : (m around : Junction) (x : Piece) → IsStraight p x → IsStraight p (under m around x)
  under_straight Conjunction Conjunction x h = h
  under_straight Disjunction Disjunction x h = h
  under_straight Conjunction Disjunction x h = (refl, (h, refl))
  under_straight Disjunction Conjunction x h = (refl, (h, refl))

  tested_straight : (m around : Junction) (t : Term) (x : Piece) → IsStraight p x → IsStraight p (tested_piece m around t x)
  tested_straight Conjunction Conjunction t x h = (data_straight t, (refl, h))
  tested_straight Disjunction Disjunction t x h = (data_straight t, (refl, h))
  tested_straight Conjunction Disjunction t x h = (data_straight t, h)
  tested_straight Disjunction Conjunction t x h = (data_straight t, h)

  join_straight : (m around : Junction) (s t : Option Term) (fa ga fo go : Piece) → IsStraight p fa → IsStraight p ga
      → IsStraight p fo → IsStraight p go → IsStraight p (join_piece m around s t fa ga fo go)
  join_straight m around (Some s) t fa ga fo go a b c d = tested_straight m around s ga b
  join_straight m around None (Some t) fa ga fo go a b c d = tested_straight m around t fa a
  join_straight m around None None fa ga fo go a b c d = under_straight m around (Then fo go) (c, d)

  guarded_straight : (o : Option (ℤ × ℤ)) (later : Bool) (x : Piece) → IsStraight p x → IsStraight p (guarded o later x)
  guarded_straight (Some r) later x h = h
  guarded_straight None true x h = (h, refl)
  guarded_straight None false x h = h

  arguments_straight : (cs : List Carrier) (xs : List Argument) (last : Piece) → IsStraight p last → IsStraight p (arguments_piece cs xs last)
  arguments_straight (c ∷ cs) (x ∷ xs) last h = (data_straight x.term, guarded_straight (tested_range c x.shape) (any_tested cs xs) (arguments_piece cs xs last) (arguments_straight cs xs last h))
  arguments_straight [] (x ∷ xs) last h = (data_straight x.term, arguments_straight [] xs last h)
  arguments_straight [] [] last h = h
  arguments_straight (c ∷ cs) [] last h = h

  call_straight : (equation : ℕ) (cs : List Carrier) (xs : List Argument) → IsStraight p (call_piece equation cs xs)
  call_straight equation cs xs = by (any_tested cs xs)
    where
      by : (b : Bool)
          → IsStraight p
          (cond b (Block
          (Then (arguments_piece cs xs (Then (Plain (op.Call equation)) Leave)) (Plain (op.Emit leaf.Cut))))
          (arguments_piece cs xs (Plain (op.Call equation))))
      by true = (arguments_straight cs xs (Then (Plain (op.Call equation)) Leave) (refl, tt), refl)
      by false = arguments_straight cs xs (Plain (op.Call equation)) refl

  pub formula_straight : (callees : List (List Carrier)) (f : Formula) (around : Junction) → IsStraight p (formula_piece callees around f)
  formula_straight callees (Test t) around = (data_straight t, refl)
  formula_straight callees (Join m f g) around =
      join_straight m around (test_of f) (test_of g) _ _ _ _ (formula_straight callees f around) (formula_straight callees g around) (formula_straight callees f m) (formula_straight callees g m)
  formula_straight callees (Each q s shape f) around = under_straight (junction_of q) around _ (formula_straight callees f (junction_of q))
  formula_straight callees (Call equation xs) around = call_straight equation (parameters (slice_get callees equation)) xs

  pub equation_straight : (callees : List (List Carrier)) (f : Formula) → IsStraight p (equation_piece callees f)
  equation_straight callees f = ((refl, (formula_straight callees f (head f), refl)), refl)

-- ---- programs of the scheme

module _ (p : Program) (f : Formula) (compiled : IsCompiled p f) where
  abbrev whole : Piece
  whole = equation_piece p.callees f

  all_weighed : (cost : Op → ℕ) (jump : ℕ) → Blind p cost jump → cost_of p cost p.code [] ≡ weight p cost jump whole
  all_weighed cost jump blind =
      ap (λ (is : List Op). cost_of p cost is []) (compiled.code ∙ sym (append-nil (flat 0 0 whole)))
      ∙ (let w = counted p cost jump blind whole 0 0 [] [] (equation_straight p p.callees f) in omega (arith, w))

  pub steps_weighed : static_steps p ≡ weight p one_step 1 whole
  steps_weighed = all_weighed one_step 1 (record { always = λ t. refl; where_true = λ on t. refl; ranged = λ low high t. refl })

  pub tokens_weighed : static_tokens p ≡ weight p tokens_of 0 whole
  tokens_weighed = all_weighed tokens_of 0 (record { always = λ t. refl; where_true = λ on t. refl; ranged = λ low high t. refl })

  pub code_long : length p.code ≡ end 0 whole
  code_long = ap length compiled.code ∙ sym (let l = long 0 0 whole in omega (arith, l))
