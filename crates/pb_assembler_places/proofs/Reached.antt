-- The scheme's code reaches the operands and brackets that are counted on the right side.
use Rattle.std.proofs.Common.{◌≡◌, ℕ, suc, ◌+◌, ◌<◌, ◌≤◌, Bool, true, false, cond, ◌||◌, List, [], ◌∷◌, length, Option, Some, None, refl, sym, ap, ◌∙◌, subst, arith, inl, inr, ⊎_elim}
use Rattle.std.specs.Prelude.{ℤ, is_some, max, slice_get}
use Rattle.std.proofs.lemmas.Bool.{cases_lt, true≢false, or_parts}
use Rattle.pb_sorts.specs.declared.carrier.Carrier.{Carrier}
use Rattle.pb_text_meaning.specs.Syntax.{Operator}
use Rattle.pb_bytecode_program.specs.Machine.{Program}
use Rattle.pb_bytecode_program.specs.declared.instruction.Leaf.TheVariants as leaf
use Rattle.pb_bytecode_program.specs.declared.instruction.Op.{Op}
use Rattle.pb_bytecode_program.specs.declared.instruction.Op.TheVariants as op
use Rattle.pb_fixpoint_trees.specs.declared.junction.Junction.{Junction}
use Rattle.pb_fixpoint_trees.specs.declared.junction.Junction.TheVariants.{Conjunction, Disjunction}
use Rattle.pb_normal.specs.Normal.{Term, Number, Slot, Negative, Absolute, Successor, Predecessor, Binary, Maximum, Minimum, Choice, Recognised, Argument, Formula, Test, Join, Each, Call}
use Rattle.pb_assembler_scheme.specs.Pieces.{Piece, Plain, Then, Unless, Choose, Repeat, Block, Leave, end, HasPieceAt}
use Rattle.pb_assembler_scheme.specs.Scheme.{neutral, junction_of, data_piece, binary_piece, in_order, swapped, bracketed, under, test_piece, tested_piece, test_of, join_piece, tested_range, any_tested, guarded, arguments_piece, call_piece, parameters, formula_piece, head}
use Rattle.pb_assembler_scheme.specs.Correct.{HasFullCalls, IsCompiled, IsFullCall}
use Rattle.pb_assembler_scheme.proofs.Calls.{full_length}
use Rattle.pb_assembler_scheme.proofs.Whole.{equation_stands}
use Rattle.pb_assembler_scheme.specs.Limits.{one_kept, binary_operands, term_operands, argument_operands, formula_operands, brackets_under, join_brackets, formula_brackets}
use Rattle.pb_assembler_places.specs.Reached.{Height, taken, pushed_by, opened, closed, LeadsTo, ReachesHeight, HoldsOperands, HoldsBrackets}

module _ (p : Program) where
  abbrev height : (q n b : ℕ) → Height
  height q n b = record { place = q; operands = n; brackets = b }

  abbrev At : (q n b : ℕ) → Type 0
  At q n b = ReachesHeight p (height q n b)

  -- ---- one instruction

  step : (i : Op) (q n b r m c l : ℕ) → slice_get p.code q ≡ Some i → LeadsTo i q r → n ≡ l + taken p i → m ≡ l + pushed_by i → c + closed i ≡ b + opened i → At q n b → At r m c
  step i q n b r m c l there to before after brackets h =
      (suc h.0, (height q n b, h.1, record { instruction = i; there = there; place = to; left = l; before = before; after = after; brackets = brackets }))

  -- an instruction that takes so many operands off, pushes so many, and goes on
  pub record Does (i : Op) (t g : ℕ) : Type 0 where
    pub goes : (q : ℕ) → LeadsTo i q (q + 1)
    pub takes : taken p i ≡ t
    pub gives : pushed_by i ≡ g
    pub opens : opened i ≡ 0
    pub closes : closed i ≡ 0

  going : (i : Op) (t g q n m b l : ℕ) → Does i t g → n ≡ l + t → m ≡ l + g → slice_get p.code q ≡ Some i → At q n b → At (q + 1) m b
  going i t g q n m b l d e f there h =
      let a = d.takes in
      let c = d.gives in
      let o = d.opens in
      let k = d.closes in
      step i q n b (q + 1) m b l there (d.goes q) (omega (arith, a, e)) (omega (arith, c, f)) (omega (arith, o, k)) h

  -- ---- the most that is held

  operands_here : (q n b m : ℕ) → At q n b → n ≡ m → HoldsOperands p m
  operands_here q n b m h e = (height q n b, h, e)

  brackets_here : (q n b c : ℕ) → At q n b → b ≡ c → HoldsBrackets p c
  brackets_here q n b c h e = (height q n b, h, e)

  operands_as : (n m : ℕ) → n ≡ m → HoldsOperands p n → HoldsOperands p m
  operands_as n m e h = (h.0, h.1, h.2 ∙ e)

  brackets_as : (n m : ℕ) → n ≡ m → HoldsBrackets p n → HoldsBrackets p m
  brackets_as n m e h = (h.0, h.1, h.2 ∙ e)

  operands_max : (n m k : ℕ) → max n m ≡ k → HoldsOperands p n → HoldsOperands p m → HoldsOperands p k
  operands_max n m k e h i = ⊎_elim (λ (l : n < m). operands_as m k (omega arith) i) (λ (l : m ≤ n). operands_as n k (omega arith) h) (cases_lt n m)

  brackets_max : (n m k : ℕ) → max n m ≡ k → HoldsBrackets p n → HoldsBrackets p m → HoldsBrackets p k
  brackets_max n m k e h i = ⊎_elim (λ (l : n < m). brackets_as m k (omega arith) i) (λ (l : m ≤ n). brackets_as n k (omega arith) h) (cases_lt n m)

  -- ---- terms

  -- one operand is pushed, and o of them are held on the way
  abbrev Pushes : Piece → ℕ → Type 0
  Pushes x o = (q e n b : ℕ) → HasPieceAt p.code q e x → At q n b → At (end q x) (n + 1) b × HoldsOperands p (n + o)

  pushes_one : (i : Op) → Does i 0 1 → Pushes (Plain i) 1
  pushes_one i d q e n b s h =
      let k : At (q + 1) (n + 1) b = going i 0 1 q n (n + 1) b n d (omega arith) refl s h in
      (k, operands_here (q + 1) (n + 1) b (n + 1) k refl)

  changed : (i : Op) (a : Piece) (o : ℕ) → Does i 1 1 → Pushes a o → Pushes (Then a (Plain i)) o
  changed i a o d x q e n b s h =
      let k = x q e n b s.0 h in
      (going i 1 1 (end q a) (n + 1) (n + 1) b n d refl refl s.1 k.0, k.1)

  -- two pieces, the first value being kept
  kept_both : (a b : Piece) (o u : ℕ) → Pushes a o → Pushes b u → (q e n c : ℕ) → HasPieceAt p.code q e a → HasPieceAt p.code (end q a) e b → At q n c
      → At (end (end q a) b) ((n + 1) + 1) c × HoldsOperands p (n + one_kept o u)
  kept_both a b o u x y q e n c s t h =
      let k = x q e n c s h in
      let l = y (end q a) e (n + 1) c t k.0 in
      (l.0, operands_max (n + o) ((n + 1) + u) (n + one_kept o u) (omega arith) k.1 l.1)

  two_pushed : (i : Op) (a b : Piece) (o u : ℕ) → Does i 2 1 → Pushes a o → Pushes b u → Pushes (in_order i a b) (one_kept o u)
  two_pushed i a b o u d x y q e n c s h =
      let k = kept_both a b o u x y q e n c s.0 s.1.0 h in
      (going i 2 1 (end (end q a) b) ((n + 1) + 1) (n + 1) c n d (omega arith) refl s.1.1 k.0, k.1)

  swapped_pushed : (i : Op) (a b : Piece) (o u : ℕ) → Does i 2 1 → Pushes a o → Pushes b u → Pushes (swapped i a b) (one_kept u o)
  swapped_pushed i a b o u d x y q e n c s h =
      let k = kept_both b a u o y x q e n c s.0 s.1.0 h in
      (going i 2 1 (end (end q b) a) ((n + 1) + 1) (n + 1) c n d (omega arith) refl s.1.1 k.0, k.1)

  logic : (c : _) → Does (op.Logic c) 2 1
  logic c = record { goes = λ q. refl; takes = refl; gives = refl; opens = refl; closes = refl }

  compare : (c : _) → Does (op.Compare c) 2 1
  compare c = record { goes = λ q. refl; takes = refl; gives = refl; opens = refl; closes = refl }

  equality : (c : _) → Does (op.Equality c) 2 1
  equality c = record { goes = λ q. refl; takes = refl; gives = refl; opens = refl; closes = refl }

  arithmetic : (c : _) → Does (op.Arithmetic c) 2 1
  arithmetic c = record { goes = λ q. refl; takes = refl; gives = refl; opens = refl; closes = refl }

  number : (z : ℤ) → Does (op.PushInt z) 0 1
  number z = record { goes = λ q. refl; takes = refl; gives = refl; opens = refl; closes = refl }

  enumerator : (s i : ℕ) → Does (op.PushEnum s i) 0 1
  enumerator s i = record { goes = λ q. refl; takes = refl; gives = refl; opens = refl; closes = refl }

  negated : Does op.Not 1 1
  negated = record { goes = λ q. refl; takes = refl; gives = refl; opens = refl; closes = refl }

  binary_pushed : (o : Operator) (a b : Piece) (n m : ℕ) → Pushes a n → Pushes b m → Pushes (binary_piece o a b) (binary_operands o n m)
  binary_pushed Operator.And a b n m x y = swapped_pushed _ a b n m (logic _) x y
  binary_pushed Operator.Or a b n m x y = swapped_pushed _ a b n m (logic _) x y
  binary_pushed Operator.Implies a b n m x y = swapped_pushed _ (Then a (Plain op.Not)) b n m (logic _) (changed op.Not a n negated x) y
  binary_pushed Operator.Equal a b n m x y = two_pushed _ a b n m (equality _) x y
  binary_pushed Operator.NotEqual a b n m x y = two_pushed _ a b n m (equality _) x y
  binary_pushed Operator.Less a b n m x y = two_pushed _ a b n m (compare _) x y
  binary_pushed Operator.LessEqual a b n m x y = two_pushed _ a b n m (compare _) x y
  binary_pushed Operator.Greater a b n m x y = two_pushed _ a b n m (compare _) x y
  binary_pushed Operator.GreaterEqual a b n m x y = two_pushed _ a b n m (compare _) x y
  binary_pushed Operator.Plus a b n m x y = two_pushed _ a b n m (arithmetic _) x y
  binary_pushed Operator.Minus a b n m x y = two_pushed _ a b n m (arithmetic _) x y
  binary_pushed Operator.Times a b n m x y = two_pushed _ a b n m (arithmetic _) x y
  binary_pushed Operator.Div a b n m x y = two_pushed _ a b n m (arithmetic _) x y
  binary_pushed Operator.Mod a b n m x y = two_pushed _ a b n m (arithmetic _) x y

  chosen_pushed : (c x y : Piece) (o u v : ℕ) → Pushes c o → Pushes x u → Pushes y v → Pushes (Then c (Choose false x y)) (max o (max u v))
  chosen_pushed c x y o u v f g h q e n b s at =
      let k = f q e n b s.0 at in
      let r = end q c in
      let mid = end (r + 1) x + 1 in
      let here = step (op.JumpIf false mid) r (n + 1) b (r + 1) n b n s.1.0 (inl refl) refl (omega arith) refl k.0 in
      let there = step (op.JumpIf false mid) r (n + 1) b mid n b n s.1.0 (inr refl) refl (omega arith) refl k.0 in
      let first = g (r + 1) e n b s.1.1 here in
      let second = h mid e n b s.1.3 there in
      let behind = step (op.Jump (end mid y)) (end (r + 1) x) (n + 1) b (end mid y) (n + 1) b (n + 1) s.1.2 refl (omega arith) (omega arith) refl first.0 in
      (behind, operands_max (n + o) (n + max u v) (n + max o (max u v)) (omega arith) k.1 (operands_max (n + u) (n + v) (n + max u v) (omega arith) first.1 second.1))

  term_pushed : (t : Term) → Pushes (data_piece t) (term_operands t)
  term_pushed (Term.Truth b) = pushes_one (op.PushBool b) (record { goes = λ q. refl; takes = refl; gives = refl; opens = refl; closes = refl })
  term_pushed (Number n) = pushes_one _ (number _)
  term_pushed (Term.Enumerator s i) = pushes_one _ (enumerator s i)
  term_pushed (Slot s) = pushes_one (op.Get s) (record { goes = λ q. refl; takes = refl; gives = refl; opens = refl; closes = refl })
  term_pushed (Term.Not x) = changed op.Not (data_piece x) (term_operands x) negated (term_pushed x)
  term_pushed (Negative x) = changed op.Negate (data_piece x) (term_operands x) (record { goes = λ q. refl; takes = refl; gives = refl; opens = refl; closes = refl }) (term_pushed x)
  term_pushed (Absolute x) = changed op.Absolute (data_piece x) (term_operands x) (record { goes = λ q. refl; takes = refl; gives = refl; opens = refl; closes = refl }) (term_pushed x)
  term_pushed (Successor x) = two_pushed _ (data_piece x) (Plain (op.PushInt _)) (term_operands x) 1 (arithmetic _) (term_pushed x) (pushes_one _ (number _))
  term_pushed (Predecessor x) = two_pushed _ (data_piece x) (Plain (op.PushInt _)) (term_operands x) 1 (arithmetic _) (term_pushed x) (pushes_one _ (number _))
  term_pushed (Binary o x y) = binary_pushed o (data_piece x) (data_piece y) (term_operands x) (term_operands y) (term_pushed x) (term_pushed y)
  term_pushed (Maximum x y) = two_pushed _ (data_piece x) (data_piece y) (term_operands x) (term_operands y) (arithmetic _) (term_pushed x) (term_pushed y)
  term_pushed (Minimum x y) = two_pushed _ (data_piece x) (data_piece y) (term_operands x) (term_operands y) (arithmetic _) (term_pushed x) (term_pushed y)
  term_pushed (Choice c x y) = chosen_pushed (data_piece c) (data_piece x) (data_piece y) (term_operands c) (term_operands x) (term_operands y) (term_pushed c) (term_pushed x) (term_pushed y)
  term_pushed (Recognised s i x) = two_pushed _ (data_piece x) (Plain (op.PushEnum s i)) (term_operands x) 1 (equality _) (term_pushed x) (pushes_one _ (enumerator s i))

  -- ---- tests and brackets

  -- nothing stays on the stack; o operands and k brackets more are held on the way
  abbrev Passes : Piece → (o k : ℕ) → Type 0
  Passes x o k = (q e b : ℕ) → HasPieceAt p.code q e x → At q 0 b → At (end q x) 0 b × HoldsOperands p o × HoldsBrackets p (b + k)

  written : (l : _) → Does (op.Emit l) 0 0
  written l = record { goes = λ q. refl; takes = refl; gives = refl; opens = refl; closes = refl }

  -- behind a test, where it goes on and where it jumps
  tested_on : (on : Bool) (q b to : ℕ) → slice_get p.code q ≡ Some (op.JumpIf on to) → At q (0 + 1) b → At (q + 1) 0 b
  tested_on on q b to s h = step (op.JumpIf on to) q (0 + 1) b (q + 1) 0 b 0 s (inl refl) refl refl refl h

  tested_off : (on : Bool) (q b to : ℕ) → slice_get p.code q ≡ Some (op.JumpIf on to) → At q (0 + 1) b → At to 0 b
  tested_off on q b to s h = step (op.JumpIf on to) q (0 + 1) b to 0 b 0 s (inr refl) refl refl refl h

  test_passes : (around : Junction) (t : Term) → Passes (test_piece around t) (term_operands t) 0
  test_passes around t q e b s h =
      let k = term_pushed t q e 0 b s.0 h in
      let r = end q (data_piece t) in
      let on = tested_on (neutral around) r b _ s.1.0 k.0 in
      (going _ 0 0 (r + 1) 0 0 b 0 (written _) refl refl s.1.1 on, operands_as (0 + term_operands t) (term_operands t) (omega arith) k.1, brackets_here q 0 b (b + 0) h (omega arith))

  decided_passes : (on : Bool) (i : Op) (t : Term) (x : Piece) (o k : ℕ) → Passes x o k → Passes (Then (data_piece t) (Choose on (Plain i) x)) (max (term_operands t) o) k
  decided_passes on i t x o k f q e b s h =
      let d = term_pushed t q e 0 b s.0 h in
      let r = end q (data_piece t) in
      let rest = f ((r + 1) + 1 + 1) e b s.1.3 (tested_off on r b _ s.1.0 d.0) in
      (rest.0, operands_max (0 + term_operands t) o (max (term_operands t) o) (omega arith) d.1 rest.1, rest.2)

  passed_passes : (on : Bool) (t : Term) (x : Piece) (o k : ℕ) → Passes x o k → Passes (Then (data_piece t) (Unless on x)) (max (term_operands t) o) k
  passed_passes on t x o k f q e b s h =
      let d = term_pushed t q e 0 b s.0 h in
      let r = end q (data_piece t) in
      let rest = f (r + 1) e b s.1.1 (tested_on on r b _ s.1.0 d.0) in
      (rest.0, operands_max (0 + term_operands t) o (max (term_operands t) o) (omega arith) d.1 rest.1, rest.2)

  tested_passes : (m around : Junction) (t : Term) (x : Piece) (o k : ℕ) → Passes x o k → Passes (tested_piece m around t x) (max (term_operands t) o) k
  tested_passes Conjunction Conjunction t x o k f = decided_passes true _ t x o k f
  tested_passes Disjunction Disjunction t x o k f = decided_passes false _ t x o k f
  tested_passes Conjunction Disjunction t x o k f = passed_passes false t x o k f
  tested_passes Disjunction Conjunction t x o k f = passed_passes true t x o k f

  bracketed_passes : (m : Junction) (x : Piece) (o k : ℕ) → Passes x o k → Passes (bracketed m x) o (suc k)
  bracketed_passes m x o k f q e b s h =
      let open_one : At (q + 1) 0 (b + 1) = step _ q 0 b (q + 1) 0 (b + 1) 0 s.0 refl refl refl (omega arith) h in
      let inner = f (q + 1) e (b + 1) s.1.0 open_one in
      let close_one : At (end (q + 1) x + 1) 0 b = step op.Close (end (q + 1) x) 0 (b + 1) (end (q + 1) x + 1) 0 b 0 s.1.1 refl refl refl (omega arith) inner.0 in
      (close_one, inner.1, brackets_as ((b + 1) + k) (b + suc k) (omega arith) inner.2)

  under_passes : (m around : Junction) (x : Piece) (o k : ℕ) → Passes x o k → Passes (under m around x) o (brackets_under m around k)
  under_passes Conjunction Conjunction x o k f = f
  under_passes Disjunction Disjunction x o k f = f
  under_passes Conjunction Disjunction x o k f = bracketed_passes Conjunction x o k f
  under_passes Disjunction Conjunction x o k f = bracketed_passes Disjunction x o k f

  both_pass : (x y : Piece) (o k u l : ℕ) → Passes x o k → Passes y u l → Passes (Then x y) (max o u) (max k l)
  both_pass x y o k u l f g q e b s h =
      let first = f q e b s.0 h in
      let second = g (end q x) e b s.1 first.0 in
      (second.0, operands_max o u (max o u) refl first.1 second.1, brackets_max (b + k) (b + l) (b + max k l) (omega arith) first.2 second.2)

  -- the operands of a test
  abbrev IsTestOf : Option Term → ℕ → Type 0
  IsTestOf None n = Unit {0}
  IsTestOf (Some t) n = n ≡ term_operands t

  test_counts : (f : Formula) → IsTestOf (test_of f) (formula_operands f)
  test_counts (Test t) = refl
  test_counts (Join m f g) = tt
  test_counts (Each q s shape f) = tt
  test_counts (Call equation xs) = tt

  passes_as : (x : Piece) (o u k : ℕ) → o ≡ u → Passes x o k → Passes x u k
  passes_as x o u k e f q d b s h = let r = f q d b s h in (r.0, operands_as o u e r.1, r.2)

  join_passes : (m around : Junction) (s t : Option Term) (fa ga fo go : Piece) (o u a b c d : ℕ) → IsTestOf s o → IsTestOf t u
      → Passes fa o a → Passes ga u b → Passes fo o c → Passes go u d → Passes (join_piece m around s t fa ga fo go) (max o u) (join_brackets m around s t a b c d)
  join_passes m around (Some s) t fa ga fo go o u a b c d x y f g h i =
      passes_as (tested_piece m around s ga) (max (term_operands s) u) (max o u) b (omega (arith, x)) (tested_passes m around s ga u b g)
  join_passes m around None (Some t) fa ga fo go o u a b c d x y f g h i =
      passes_as (tested_piece m around t fa) (max (term_operands t) o) (max o u) a (omega (arith, y)) (tested_passes m around t fa o a f)
  join_passes m around None None fa ga fo go o u a b c d x y f g h i = under_passes m around (Then fo go) (max o u) (max c d) (both_pass fo go o c u d h i)

  repeat_passes : (s : ℕ) (x : Piece) (o k : ℕ) → Passes x o k → Passes (Repeat s x) o k
  repeat_passes s x o k f q e b st h =
      let into = going (op.Loop s) 0 0 q 0 0 b 0 (record { goes = λ r. refl; takes = refl; gives = refl; opens = refl; closes = refl }) refl refl st.0 h in
      let inner = f (q + 1) e b st.1 into in
      (going op.Next 0 0 (end (q + 1) x) 0 0 b 0 (record { goes = λ r. refl; takes = refl; gives = refl; opens = refl; closes = refl }) refl refl st.2 inner.0, inner.1, inner.2)

  -- ---- calls

  -- a piece is come to with m operands; it ends where the whole ends, if nothing is tested
  pub record Comes (whole last : Piece) (q e m b : ℕ) (tested : Bool) : Type 0 where
    pub place : ℕ
    pub stands : HasPieceAt p.code place e last
    pub at : At place m b
    pub ends : tested ≡ false → end q whole ≡ end place last

  guarded_comes : (o : Option (ℤ × ℤ)) (later : Bool) (x : Piece) (q e n b : ℕ)
      → HasPieceAt p.code q e (guarded o later x) → At q (n + 1) b → Comes (guarded o later x) x q e (n + 1) b (is_some o || later)
  guarded_comes (Some r) later x q e n b s h = record {
    place = q + 1;
    stands = s.1;
    at = step (op.InRange r.0 r.1 (end (q + 1) x)) q (n + 1) b (q + 1) (n + 1) b n s.0 (inl refl) refl refl refl h;
    ends = λ c. absurd (true≢false c);
  }
  guarded_comes None true x q e n b s h = record { place = q; stands = s.0; at = h; ends = λ c. absurd (true≢false c) }
  guarded_comes None false x q e n b s h = record { place = q; stands = s; at = h; ends = λ c. refl }

  -- all arguments are pushed
  arguments_come : (cs : List Carrier) (xs : List Argument) (last : Piece) (q e n b : ℕ) → HasPieceAt p.code q e (arguments_piece cs xs last) → At q n b
      → Comes (arguments_piece cs xs last) last q e (n + length xs) b (any_tested cs xs) × HoldsOperands p (n + argument_operands xs)
  arguments_come (c ∷ cs) (x ∷ xs) last q e n b s h =
      let own = term_pushed x.term q e n b s.0 h in
      let r = end q (data_piece x.term) in
      let o = tested_range c x.shape in
      let later = any_tested cs xs in
      let kept = guarded_comes o later (arguments_piece cs xs last) r e n b s.1 own.0 in
      let rest = arguments_come cs xs last kept.place e (n + 1) b kept.stands kept.at in
      let long : (n + 1) + length xs ≡ n + suc (length xs) = omega arith in (
        record {
          place = rest.0.place;
          stands = rest.0.stands;
          at = subst (λ m. At rest.0.place m b) long rest.0.at;
          ends = λ d. kept.ends d ∙ rest.0.ends (or_parts (is_some o) later d).1;
        },
        operands_max (n + term_operands x.term) ((n + 1) + argument_operands xs) (n + argument_operands (x ∷ xs)) (omega arith) own.1 rest.1,
      )
  arguments_come [] (x ∷ xs) last q e n b s h =
      let own = term_pushed x.term q e n b s.0 h in
      let r = end q (data_piece x.term) in
      let rest = arguments_come [] xs last r e (n + 1) b s.1 own.0 in
      let long : (n + 1) + length xs ≡ n + suc (length xs) = omega arith in (
        record {
          place = rest.0.place;
          stands = rest.0.stands;
          at = subst (λ m. At rest.0.place m b) long rest.0.at;
          ends = λ d. rest.0.ends (none xs);
        },
        operands_max (n + term_operands x.term) ((n + 1) + argument_operands xs) (n + argument_operands (x ∷ xs)) (omega arith) own.1 rest.1,
      )
    where
      none : (ys : List Argument) → any_tested [] ys ≡ false
      none ys = refl
  arguments_come [] [] last q e n b s h =
      let none : n ≡ n + 0 = omega arith in
      (record { place = q; stands = s; at = subst (λ m. At q m b) none h; ends = λ d. refl }, operands_here q n b (n + 0) h none)
  arguments_come (c ∷ cs) [] last q e n b s h =
      let none : n ≡ n + 0 = omega arith in
      (record { place = q; stands = s; at = subst (λ m. At q m b) none h; ends = λ d. refl }, operands_here q n b (n + 0) h none)

  called : (equation : ℕ) (xs : List Argument) (q b : ℕ) → IsFullCall (slice_get p.callees equation) xs → slice_get p.code q ≡ Some (op.Call equation) → At q (0 + length xs) b → At (q + 1) 0 b
  called equation xs q b f s h =
      step (op.Call equation) q (0 + length xs) b (q + 1) 0 b 0 s refl (ap (λ n. 0 + n) (full_length (slice_get p.callees equation) xs f)) refl refl h

  call_passes : (equation : ℕ) (xs : List Argument) → IsFullCall (slice_get p.callees equation) xs
      → Passes (call_piece equation (parameters (slice_get p.callees equation)) xs) (argument_operands xs) 0
  call_passes equation xs f = by (any_tested cs xs) refl
    where
      cs : List Carrier
      cs = parameters (slice_get p.callees equation)

      by : (t : Bool) → any_tested cs xs ≡ t
          → Passes (cond t
          (Block (Then (arguments_piece cs xs (Then (Plain (op.Call equation)) Leave)) (Plain (op.Emit leaf.Cut))))
          (arguments_piece cs xs (Plain (op.Call equation)))) (argument_operands xs) 0
      by true d q e b s h =
          let after = end q (arguments_piece cs xs (Then (Plain (op.Call equation)) Leave)) + 1 in
          let k = arguments_come cs xs (Then (Plain (op.Call equation)) Leave) q after 0 b s.0 h in
          let r = k.0.place in
          let behind = called equation xs r b f k.0.stands.0 k.0.at in (
            step (op.Jump after) (r + 1) 0 b after 0 b 0 k.0.stands.1 refl refl refl refl behind,
            operands_as
                (0 + argument_operands xs) (argument_operands xs) (omega arith) k.1,
            brackets_here q 0 b (b + 0) h (omega arith),
          )
      by false d q e b s h =
          let k = arguments_come cs xs (Plain (op.Call equation)) q e 0 b s h in
          let r = k.0.place in (
            subst (λ n. At n 0 b) (sym (k.0.ends d)) (called equation xs r b f k.0.stands k.0.at),
            operands_as
                (0 + argument_operands xs) (argument_operands xs) (omega arith) k.1,
            brackets_here q 0 b (b + 0) h (omega arith),
          )

  -- ---- formulas

  formula_passes : (f : Formula) (around : Junction) → HasFullCalls p.callees f → Passes (formula_piece p.callees around f) (formula_operands f) (formula_brackets around f)
  formula_passes (Test t) around full = test_passes around t
  formula_passes (Join m f g) around full =
      join_passes m around (test_of f) (test_of g)
      (formula_piece p.callees around f) (formula_piece p.callees around g) (formula_piece p.callees m f) (formula_piece p.callees m g)
      (formula_operands f) (formula_operands g) (formula_brackets around f) (formula_brackets around g) (formula_brackets m f) (formula_brackets m g) (test_counts f) (test_counts g)
      (formula_passes f around full.0) (formula_passes g around full.1) (formula_passes f m full.0) (formula_passes g m full.1)
  formula_passes (Each q s shape f) around full =
      under_passes (junction_of q) around (Repeat s (formula_piece p.callees (junction_of q) f)) (formula_operands f)
      (formula_brackets (junction_of q) f)
      (repeat_passes s (formula_piece p.callees (junction_of q) f) (formula_operands f)
      (formula_brackets (junction_of q) f) (formula_passes f (junction_of q) full))
  formula_passes (Call equation xs) around full = call_passes equation xs full

-- ---- equations

module _ (p : Program) (f : Formula) (compiled : IsCompiled p f) (full : HasFullCalls p.callees f) where
  start : ReachesHeight p (record { place = 0; operands = 0; brackets = 0 })
  start = (0, (refl, refl, refl))

  pub operands_reached : HoldsOperands p (formula_operands f)
  operands_reached =
      (bracketed_passes p (head f) (formula_piece p.callees (head f) f) (formula_operands f)
      (formula_brackets (head f) f) (formula_passes p f (head f) full) 0 0 0 (equation_stands p f compiled).0 start).1

  pub brackets_reached : HoldsBrackets p (suc (formula_brackets (head f) f))
  brackets_reached =
      brackets_as p (0 + suc (formula_brackets (head f) f)) (suc (formula_brackets (head f) f)) (omega arith)
      (bracketed_passes p (head f) (formula_piece p.callees (head f) f) (formula_operands f)
      (formula_brackets (head f) f) (formula_passes p f (head f) full) 0 0 0 (equation_stands p f compiled).0 start).2
