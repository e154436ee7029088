-- What the code of a formula costs, in places, steps and tokens, is what is measured.
use Rattle.std.proofs.Common.{◌≡◌, ℕ, suc, ◌+◌, ◌*◌, Bool, true, false, cond, List, [], ◌∷◌, Option, Some, None, refl, sym, ap, ◌∙◌, arith}
use Rattle.std.specs.Prelude.{ℤ, is_some, slice_get}
use Rattle.std.proofs.lemmas.List.{length-map}
use Rattle.pb_sorts.specs.Carrier.{values_of}
use Rattle.pb_sorts.specs.declared.carrier.Carrier.{Carrier}
use Rattle.pb_text_meaning.specs.Syntax.{Operator}
use Rattle.pb_typing_declarations.specs.Shapes.{Shape}
use Rattle.pb_typing_declarations.specs.Entries.{carrier_shape}
use Rattle.pb_bytecode_program.specs.Machine.{Program, carrier_of}
use Rattle.pb_bytecode_program.specs.Counts.{one_step, carrier_size, tokens_of}
use Rattle.pb_bytecode_program.specs.Values.{tagged}
use Rattle.pb_bytecode_program.specs.declared.instruction.Leaf.TheVariants as leaf
use Rattle.pb_bytecode_program.specs.declared.instruction.Op.{Op}
use Rattle.pb_bytecode_program.specs.declared.instruction.Op.TheVariants as op
use Rattle.pb_fixpoint_trees.specs.declared.junction.Junction.{Junction}
use Rattle.pb_fixpoint_trees.specs.declared.junction.Junction.TheVariants.{Conjunction, Disjunction}
use Rattle.pb_normal.specs.Normal.{Term, Number, Slot, Negative, Absolute, Successor, Predecessor, Binary, Maximum, Minimum, Choice, Recognised, Argument, Formula, Test, Join, Each, Call}
use Rattle.pb_assembler_scheme.specs.Pieces.{Piece, Plain, Then, Unless, Choose, Repeat, Block, Leave, Guard, end}
use Rattle.pb_assembler_scheme.specs.Scheme.{neutral, junction_of, data_piece, binary_piece, in_order, swapped, bracketed, under, test_piece, tested_piece, test_of, join_piece, tested_range, any_tested, guarded, arguments_piece, call_piece, parameters, formula_piece, head, equation_piece}
use Rattle.pb_assembler_scheme.proofs.Numbered.{HasSlots}
use Rattle.pb_assembler_scheme.specs.Weights.{weight}
use Rattle.pb_assembler_measures.specs.declared.measure_tally.Tally.{Tally}
use Rattle.pb_assembler_measures.specs.MeasureTerms.{binary_length, term_length, term_load}
use Rattle.pb_assembler_measures.specs.MeasureFormulas.{test_tally, tested_tally, bracketed_tally, under_tally, after, looped, join_tally, guard_length, arguments_load, ended_call, call_tally, shape_size, formula_tally}
use Rattle.pb_assembler_measures.proofs.MeasureChains.{carrier_count}

-- how many places, steps and tokens a piece's code takes
pub record Costs (p : Program) (x : Piece) (n s k : ℕ) : Type 0 where
  pub places : (q : ℕ) → end q x ≡ q + n
  pub steps : weight p one_step 1 x ≡ s
  pub tokens : weight p tokens_of 0 x ≡ k

-- how many values a slot has
sized : (o : Option Carrier) → carrier_size o ≡ shape_size (carrier_shape o)
sized None = refl
sized (Some c) = length-map (values_of c) (tagged c) ∙ sym (carrier_count c)

module _ (p : Program) where
  -- ---- pieces

  costs_as : (x : Piece) (n s k m t l : ℕ) → n ≡ m → s ≡ t → k ≡ l → Costs p x n s k → Costs p x m t l
  costs_as x n s k m t l e f g h = record {
    places = λ q. let a = h.places q in omega (arith, a, e);
    steps = h.steps ∙ f;
    tokens = h.tokens ∙ g;
  }

  plain_costs : (i : Op) (k : ℕ) → tokens_of i ≡ k → Costs p (Plain i) 1 1 k
  plain_costs i k e = record { places = λ q. refl; steps = refl; tokens = e }

  then_costs : (a b : Piece) (n s k m t l i j h : ℕ) → Costs p a n s k → Costs p b m t l → n + m ≡ i → s + t ≡ j → k + l ≡ h → Costs p (Then a b) i j h
  then_costs a b n s k m t l i j h x y e f g = record {
    places = λ q. let c = x.places q in let d = y.places (end q a) in omega (arith, c, d, e);
    steps = let c = x.steps in let d = y.steps in omega (arith, c, d, f);
    tokens = let c = x.tokens in let d = y.tokens in omega (arith, c, d, g);
  }

  unless_costs : (on : Bool) (a : Piece) (n s k : ℕ) → Costs p a n s k → Costs p (Unless on a) (1 + n) (1 + s) k
  unless_costs on a n s k x = record {
    places = λ q. let c = x.places (q + 1) in omega (arith, c);
    steps = ap (λ w. 1 + w) x.steps;
    tokens = let c = x.tokens in omega (arith, c);
  }

  choose_costs : (on : Bool) (a b : Piece) (n s k m t l : ℕ) → Costs p a n s k → Costs p b m t l → Costs p (Choose on a b) (2 + (n + m)) (2 + (s + t)) (k + l)
  choose_costs on a b n s k m t l x y = record {
    places = λ q. let c = x.places (q + 1) in let d = y.places (end (q + 1) a + 1) in omega (arith, c, d);
    steps = let c = x.steps in let d = y.steps in omega (arith, c, d);
    tokens = let c = x.tokens in let d = y.tokens in omega (arith, c, d);
  }

  repeat_costs : (s v : ℕ) (a : Piece) (n t k : ℕ) → carrier_size (carrier_of p s) ≡ v → Costs p a n t k → Costs p (Repeat s a) (2 + n) (1 + v * (1 + t)) (v * k)
  repeat_costs s v a n t k e x =
      let w = weight p one_step 1 a in
      let z = weight p tokens_of 0 a in
      let f : w + 1 ≡ 1 + t = let c = x.steps in omega (arith, c) in
      let g : z + 0 ≡ k = let c = x.tokens in omega (arith, c) in
      let h : carrier_size (carrier_of p s) * (z + 0) ≡ v * k = ap (λ u. u * (z + 0)) e ∙ ap (λ u. v * u) g in
      record {
        places = λ q. let c = x.places (q + 1) in omega (arith, c);
        steps = ap (λ u. 1 + u * (w + 1)) e ∙ ap (λ u. 1 + v * u) f;
        tokens = omega (arith, h);
      }

  guard_costs : (low high : ℤ) (a : Piece) (n s k : ℕ) → Costs p a n s k → Costs p (Guard low high a) (2 + n) (2 + s) k
  guard_costs low high a n s k x = record {
    places = λ q. let c = x.places (q + 1) in omega (arith, c);
    steps = let c = x.steps in omega (arith, c);
    tokens = let c = x.tokens in omega (arith, c);
  }

  block_costs : (a : Piece) (n s k : ℕ) → Costs p a n s k → Costs p (Block a) n s k
  block_costs a n s k x = record { places = x.places; steps = x.steps; tokens = x.tokens }

  leave_costs : Costs p Leave 1 1 0
  leave_costs = record { places = λ q. refl; steps = refl; tokens = refl }

  -- ---- terms, which write no token

  abbrev Data : Piece → ℕ → Type 0
  Data x n = Costs p x n n 0

  pushed : (i : Op) → tokens_of i ≡ 0 → Data (Plain i) 1
  pushed i e = plain_costs i 0 e

  one_costs : (i : Op) (a : Piece) (n : ℕ) → tokens_of i ≡ 0 → Data a n → Data (Then a (Plain i)) (suc n)
  one_costs i a n e x = then_costs a (Plain i) n n 0 1 1 0 (suc n) (suc n) 0 x (pushed i e) (omega arith) (omega arith) refl

  two_costs : (i : Op) (a b : Piece) (n m : ℕ) → tokens_of i ≡ 0 → Data a n → Data b m → Data (in_order i a b) (suc (n + m))
  two_costs i a b n m e x y =
      then_costs a (Then b (Plain i)) n n 0 (suc m) (suc m) 0 (suc (n + m)) (suc (n + m)) 0 x (one_costs i b m e y) (omega arith) (omega arith) refl

  swapped_costs : (i : Op) (a b : Piece) (n m : ℕ) → tokens_of i ≡ 0 → Data a n → Data b m → Data (swapped i a b) (suc (n + m))
  swapped_costs i a b n m e x y =
      then_costs b (Then a (Plain i)) m m 0 (suc n) (suc n) 0 (suc (n + m)) (suc (n + m)) 0 y (one_costs i a n e x) (omega arith) (omega arith) refl

  binary_costs : (o : Operator) (a b : Piece) (n m : ℕ) → Data a n → Data b m → Data (binary_piece o a b) (binary_length o (n + m))
  binary_costs Operator.And a b n m x y = swapped_costs _ a b n m refl x y
  binary_costs Operator.Or a b n m x y = swapped_costs _ a b n m refl x y
  binary_costs Operator.Implies a b n m x y =
      let e : suc (suc n + m) ≡ suc (suc (n + m)) = omega arith in
      costs_as _ _ _ _ _ _ _ e e refl (swapped_costs _ (Then a (Plain op.Not)) b (suc n) m refl (one_costs op.Not a n refl x) y)
  binary_costs Operator.Equal a b n m x y = two_costs _ a b n m refl x y
  binary_costs Operator.NotEqual a b n m x y = two_costs _ a b n m refl x y
  binary_costs Operator.Less a b n m x y = two_costs _ a b n m refl x y
  binary_costs Operator.LessEqual a b n m x y = two_costs _ a b n m refl x y
  binary_costs Operator.Greater a b n m x y = two_costs _ a b n m refl x y
  binary_costs Operator.GreaterEqual a b n m x y = two_costs _ a b n m refl x y
  binary_costs Operator.Plus a b n m x y = two_costs _ a b n m refl x y
  binary_costs Operator.Minus a b n m x y = two_costs _ a b n m refl x y
  binary_costs Operator.Times a b n m x y = two_costs _ a b n m refl x y
  binary_costs Operator.Div a b n m x y = two_costs _ a b n m refl x y
  binary_costs Operator.Mod a b n m x y = two_costs _ a b n m refl x y

  chosen_costs : (c a b : Piece) (l n m : ℕ) → Data c l → Data a n → Data b m → Data (Then c (Choose false a b)) (suc (suc (l + (n + m))))
  chosen_costs c a b l n m z x y =
      let w = 2 + (n + m) in
      let e : l + w ≡ suc (suc (l + (n + m))) = omega arith in
      then_costs c (Choose false a b) l l 0 w w 0 _ _ 0 z (choose_costs false a b n n 0 m m 0 x y) e e refl

  data_costs : (t : Term) → Data (data_piece t) (term_length t)
  data_costs (Term.Truth b) = pushed _ refl
  data_costs (Number n) = pushed _ refl
  data_costs (Term.Enumerator s i) = pushed _ refl
  data_costs (Slot s) = pushed _ refl
  data_costs (Term.Not x) = one_costs _ (data_piece x) (term_length x) refl (data_costs x)
  data_costs (Negative x) = one_costs _ (data_piece x) (term_length x) refl (data_costs x)
  data_costs (Absolute x) = one_costs _ (data_piece x) (term_length x) refl (data_costs x)
  data_costs (Successor x) = two_costs _ (data_piece x) (Plain (op.PushInt _)) (term_length x) 1 refl (data_costs x) (pushed _ refl)
  data_costs (Predecessor x) = two_costs _ (data_piece x) (Plain (op.PushInt _)) (term_length x) 1 refl (data_costs x) (pushed _ refl)
  data_costs (Binary o x y) = binary_costs o (data_piece x) (data_piece y) (term_length x) (term_length y) (data_costs x) (data_costs y)
  data_costs (Maximum x y) = two_costs _ (data_piece x) (data_piece y) (term_length x) (term_length y) refl (data_costs x) (data_costs y)
  data_costs (Minimum x y) = two_costs _ (data_piece x) (data_piece y) (term_length x) (term_length y) refl (data_costs x) (data_costs y)
  data_costs (Choice c x y) = chosen_costs (data_piece c) (data_piece x) (data_piece y) (term_length c) (term_length x) (term_length y) (data_costs c) (data_costs x) (data_costs y)
  data_costs (Recognised s i x) = two_costs _ (data_piece x) (Plain (op.PushEnum s i)) (term_length x) 1 refl (data_costs x) (pushed _ refl)

  -- ---- tests and brackets

  abbrev pub Tallied : Piece → Tally → Type 0
  Tallied x t = Costs p x t.instructions t.steps t.tokens

  test_costs : (around : Junction) (t : Term) → Tallied (test_piece around t) (test_tally (term_load t))
  test_costs around t =
      let n = term_length t in
      let e : n + 2 ≡ 2 + n = omega arith in
      then_costs (data_piece t) _ n n 0 2 2 1 (2 + n) (2 + n) 1 (data_costs t) (unless_costs (neutral around) _ 1 1 1 (plain_costs _ 1 refl)) e e refl

  -- the leaf in place of what follows, and what follows passed over
  decided : (on : Bool) (i : Op) (t : Term) (x : Piece) (n s k : ℕ) → tokens_of i ≡ 1 → Costs p x n s k
      → Costs p (Then (data_piece t) (Choose on (Plain i) x)) (3 + (term_length t + n)) (3 + (term_length t + s)) (1 + k)
  decided on i t x n s k e h =
      then_costs (data_piece t) (Choose on (Plain i) x) (term_length t) (term_length t) 0 (2 + (1 + n)) (2 + (1 + s)) (1 + k) _ _ _
      (data_costs t) (choose_costs on (Plain i) x 1 1 1 n s k (plain_costs i 1 e) h) (omega arith) (omega arith) (omega arith)

  passed : (on : Bool) (t : Term) (x : Piece) (n s k : ℕ) → Costs p x n s k → Costs p (Then (data_piece t) (Unless on x)) (1 + (term_length t + n)) (1 + (term_length t + s)) k
  passed on t x n s k h =
      then_costs (data_piece t) (Unless on x) (term_length t) (term_length t) 0 (1 + n) (1 + s) k _ _ _ (data_costs t) (unless_costs on x n s k h) (omega arith) (omega arith) (omega arith)

  tested_costs : (m around : Junction) (t : Term) (x : Piece) (y : Tally) → Tallied x y → Tallied (tested_piece m around t x) (tested_tally m around (term_load t) y)
  tested_costs Conjunction Conjunction t x y h = decided true _ t x y.instructions y.steps y.tokens refl h
  tested_costs Disjunction Disjunction t x y h = decided false _ t x y.instructions y.steps y.tokens refl h
  tested_costs Conjunction Disjunction t x y h = passed false t x y.instructions y.steps y.tokens h
  tested_costs Disjunction Conjunction t x y h = passed true t x y.instructions y.steps y.tokens h

  in_bracket : (i : Op) (x : Piece) (n s k : ℕ) → tokens_of i ≡ 1 → Costs p x n s k → Costs p (Then (Plain i) (Then x (Plain op.Close))) (2 + n) (2 + s) (2 + k)
  in_bracket i x n s k e h =
      then_costs (Plain i) (Then x (Plain op.Close)) 1 1 1 (1 + n) (1 + s) (1 + k) _ _ _ (plain_costs i 1 e)
      (then_costs x (Plain op.Close) n s k 1 1 1 (1 + n) (1 + s) (1 + k) h (plain_costs op.Close 1 refl) (omega arith) (omega arith) (omega arith))
      (omega arith) (omega arith) (omega arith)

  bracketed_costs : (m : Junction) (x : Piece) (y : Tally) → Tallied x y → Tallied (bracketed m x) (bracketed_tally y)
  bracketed_costs m x y h = in_bracket _ x y.instructions y.steps y.tokens refl h

  under_costs : (m around : Junction) (x : Piece) (y : Tally) → Tallied x y → Tallied (under m around x) (under_tally m around y)
  under_costs Conjunction Conjunction x y h = h
  under_costs Disjunction Disjunction x y h = h
  under_costs Conjunction Disjunction x y h = bracketed_costs Conjunction x y h
  under_costs Disjunction Conjunction x y h = bracketed_costs Disjunction x y h

  after_costs : (a b : Piece) (x y : Tally) → Tallied a x → Tallied b y → Tallied (Then a b) (after x y)
  after_costs a b x y h i = then_costs a b x.instructions x.steps x.tokens y.instructions y.steps y.tokens _ _ _ h i refl refl refl

  join_costs : (m around : Junction) (s t : Option Term) (fa ga fo go : Piece) (x y z w : Tally) → Tallied fa x
      → Tallied ga y → Tallied fo z → Tallied go w → Tallied (join_piece m around s t fa ga fo go) (join_tally m around s t x y z w)
  join_costs m around (Some s) t fa ga fo go x y z w a b c d = tested_costs m around s ga y b
  join_costs m around None (Some t) fa ga fo go x y z w a b c d = tested_costs m around t fa x a
  join_costs m around None None fa ga fo go x y z w a b c d = under_costs m around (Then fo go) (after z w) (after_costs fo go z w c d)

  -- ---- calls

  guarded_costs : (o : Option (ℤ × ℤ)) (later : Bool) (x : Piece) (n s k : ℕ) → Costs p x n s k
      → Costs p (guarded o later x) (guard_length (is_some o) later + n) (guard_length (is_some o) later + s) k
  guarded_costs (Some r) later x n s k h = guard_costs r.0 r.1 x n s k h
  guarded_costs None true x n s k h = then_costs x (Plain op.Pop) n s k 1 1 0 (1 + n) (1 + s) k h (plain_costs op.Pop 0 refl) (omega arith) (omega arith) (omega arith)
  guarded_costs None false x n s k h = costs_as x n s k (0 + n) (0 + s) k (omega arith) (omega arith) refl h

  arguments_costs : (cs : List Carrier) (xs : List Argument) (last : Piece) (n s k : ℕ) → Costs p last n s k
      → Costs p (arguments_piece cs xs last) ((arguments_load cs xs).instructions + n) ((arguments_load cs xs).instructions + s) k
  arguments_costs (c ∷ cs) (x ∷ xs) last n s k h =
      let own = term_length x.term in
      let rest = (arguments_load cs xs).instructions in
      let more = guard_length (is_some (tested_range c x.shape)) (any_tested cs xs) in
      then_costs (data_piece x.term) (guarded (tested_range c x.shape) (any_tested cs xs) (arguments_piece cs xs last)) own own 0 (more + (rest + n)) (more + (rest + s)) k _ _ _
      (data_costs x.term)
      (guarded_costs (tested_range c x.shape) (any_tested cs xs) (arguments_piece cs xs last) (rest + n) (rest + s) k (arguments_costs cs xs last n s k h))
      (omega arith) (omega arith) (omega arith)
  arguments_costs [] (x ∷ xs) last n s k h =
      let own = term_length x.term in
      let rest = (arguments_load [] xs).instructions in
      then_costs (data_piece x.term) (arguments_piece [] xs last) own own 0 (rest + n) (rest + s) k _ _ _
      (data_costs x.term) (arguments_costs [] xs last n s k h) (omega arith) (omega arith) (omega arith)
  arguments_costs [] [] last n s k h = costs_as last n s k (0 + n) (0 + s) k (omega arith) (omega arith) refl h
  arguments_costs (c ∷ cs) [] last n s k h = costs_as last n s k (0 + n) (0 + s) k (omega arith) (omega arith) refl h

  call_costs : (equation : ℕ) (cs : List Carrier) (xs : List Argument) → Tallied (call_piece equation cs xs) (call_tally cs xs)
  call_costs equation cs xs = by (any_tested cs xs)
    where
      load : ℕ
      load = (arguments_load cs xs).instructions

      left : Costs p (Then (Plain (op.Call equation)) Leave) 2 2 1
      left = then_costs (Plain (op.Call equation)) Leave 1 1 1 1 1 0 2 2 1 (plain_costs _ 1 refl) leave_costs refl refl refl

      by : (b : Bool)
          → Tallied (cond b
          (Block (Then (arguments_piece cs xs (Then (Plain (op.Call equation)) Leave)) (Plain (op.Emit leaf.Cut))))
          (arguments_piece cs xs (Plain (op.Call equation)))) (ended_call b (arguments_load cs xs))
      by true =
          let n = (arguments_load cs xs).instructions in
          block_costs _ _ _ _
          (then_costs (arguments_piece cs xs (Then (Plain (op.Call equation)) Leave)) (Plain (op.Emit leaf.Cut)) (n + 2) (n + 2) 1 1 1 1 (3 + n) (3 + n) 2
          (arguments_costs cs xs (Then (Plain (op.Call equation)) Leave) 2 2 1 left) (plain_costs _ 1 refl) (omega arith) (omega arith) refl)
      by false =
          let n = (arguments_load cs xs).instructions in
          let e : n + 1 ≡ 1 + n = omega arith in
          costs_as _ (n + 1) (n + 1) 1 (1 + n) (1 + n) 1 e e refl (arguments_costs cs xs (Plain (op.Call equation)) 1 1 1 (plain_costs _ 1 refl))

  -- ---- formulas

  each_costs : (s : ℕ) (shape : Shape) (x : Piece) (y : Tally) → carrier_shape (carrier_of p s) ≡ shape → Tallied x y → Tallied (Repeat s x) (looped (shape_size shape) y)
  each_costs s shape x y e h = repeat_costs s (shape_size shape) x y.instructions y.steps y.tokens (sized (carrier_of p s) ∙ ap shape_size e) h

  pub formula_costs : (callees : List (List Carrier)) (f : Formula) (around : Junction) → HasSlots p f → Tallied (formula_piece callees around f) (formula_tally callees around f)
  formula_costs callees (Test t) around slots = test_costs around t
  formula_costs callees (Join m f g) around slots =
      join_costs m around (test_of f) (test_of g) _ _ _ _ _ _ _ _
      (formula_costs callees f around slots.0) (formula_costs callees g around slots.1) (formula_costs callees f m slots.0) (formula_costs callees g m slots.1)
  formula_costs callees (Each q s shape f) around slots =
      under_costs (junction_of q) around _ _
      (each_costs s shape (formula_piece callees (junction_of q) f) (formula_tally callees (junction_of q) f)
      slots.0 (formula_costs callees f (junction_of q) slots.1))
  formula_costs callees (Call equation xs) around slots = call_costs equation (parameters (slice_get callees equation)) xs

  -- an equation's, in its outermost bracket and with END behind it
  pub equation_costs : (callees : List (List Carrier)) (f : Formula) → HasSlots p f
      → Costs p (equation_piece callees f) (3 + (formula_tally callees (head f) f).instructions) (3 + (formula_tally callees (head f) f).steps) (2 + (formula_tally callees (head f) f).tokens)
  equation_costs callees f slots =
      let t = formula_tally callees (head f) f in
      then_costs (bracketed (head f) (formula_piece callees (head f) f)) (Plain op.End) (2 + t.instructions) (2 + t.steps) (2 + t.tokens) 1 1 0 _ _ _
      (bracketed_costs (head f) (formula_piece callees (head f) f) t (formula_costs callees f (head f) slots)) (plain_costs op.End 0 refl) (omega arith) (omega arith) (omega arith)
