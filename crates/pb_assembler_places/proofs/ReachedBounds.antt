-- No place of the scheme's code is reached with more operands or brackets than are counted on the right side.
use Rattle.std.proofs.Common.{◌≡◌, ℕ, zero, suc, ◌+◌, ◌<◌, ◌≤◌, Bool, true, false, cond, ◌||◌, List, [], ◌∷◌, length, Option, Some, None, refl, sym, ap, ◌∙◌, subst, arith, ⊎_elim}
use Rattle.std.specs.Prelude.{ℤ, is_some, max, slice_get}
use Rattle.std.proofs.lemmas.Bool.{true≢false, or_parts}
use Rattle.pb_sorts.specs.declared.carrier.Carrier.{Carrier}
use Rattle.pb_text_meaning.specs.Syntax.{Operator}
use Rattle.pb_bytecode_program.specs.Machine.{Program}
use Rattle.pb_bytecode_program.specs.declared.instruction.Leaf.TheVariants as leaf
use Rattle.pb_bytecode_program.specs.declared.instruction.Op.{Op}
use Rattle.pb_bytecode_program.specs.declared.instruction.Op.TheVariants as op
use Rattle.pb_fixpoint_trees.specs.declared.junction.Junction.{Junction}
use Rattle.pb_fixpoint_trees.specs.declared.junction.Junction.TheVariants.{Conjunction, Disjunction}
use Rattle.pb_normal.specs.Normal.{Term, Number, Slot, Negative, Absolute, Successor, Predecessor, Binary, Maximum, Minimum, Choice, Recognised, Argument, Formula, Test, Join, Each, Call}
use Rattle.pb_assembler_scheme.specs.Pieces.{Piece, Plain, Then, Unless, Choose, Repeat, Block, Leave, end, HasPieceAt}
use Rattle.pb_assembler_scheme.specs.Scheme.{neutral, junction_of, data_piece, binary_piece, in_order, swapped, bracketed, under, test_piece, tested_piece, test_of, join_piece, tested_range, any_tested, guarded, arguments_piece, call_piece, parameters, formula_piece, head}
use Rattle.pb_assembler_scheme.specs.Correct.{HasFullCalls, IsCompiled, IsFullCall}
use Rattle.pb_assembler_scheme.proofs.Calls.{full_length}
use Rattle.pb_assembler_scheme.proofs.Whole.{equation_stands}
use Rattle.pb_assembler_scheme.specs.Limits.{one_kept, binary_operands, term_operands, argument_operands, formula_operands, brackets_under, join_brackets, formula_brackets}
use Rattle.pb_assembler_places.specs.Reached.{Height, taken, pushed_by, opened, closed, LeadsTo, LeadsToHeight, IsReachedIn, ReachesHeight}

-- ---- each term's code holds an operand

binary_positive : (o : Operator) (m n : ℕ) → 0 < binary_operands o m n
binary_positive Operator.And m n = omega arith
binary_positive Operator.Or m n = omega arith
binary_positive Operator.Implies m n = omega arith
binary_positive Operator.Equal m n = omega arith
binary_positive Operator.NotEqual m n = omega arith
binary_positive Operator.Less m n = omega arith
binary_positive Operator.LessEqual m n = omega arith
binary_positive Operator.Greater m n = omega arith
binary_positive Operator.GreaterEqual m n = omega arith
binary_positive Operator.Plus m n = omega arith
binary_positive Operator.Minus m n = omega arith
binary_positive Operator.Times m n = omega arith
binary_positive Operator.Div m n = omega arith
binary_positive Operator.Mod m n = omega arith

positive : (t : Term) → 0 < term_operands t
positive (Term.Truth b) = omega arith
positive (Number n) = omega arith
positive (Term.Enumerator s i) = omega arith
positive (Slot s) = omega arith
positive (Term.Not x) = positive x
positive (Negative x) = positive x
positive (Absolute x) = positive x
positive (Successor x) = omega arith
positive (Predecessor x) = omega arith
positive (Binary o x y) = binary_positive o (term_operands x) (term_operands y)
positive (Maximum x y) = omega arith
positive (Minimum x y) = omega arith
positive (Choice c x y) = let h = positive c in omega (arith, h)
positive (Recognised s i x) = omega arith

module _ (p : Program) where
  abbrev height : (q n b : ℕ) → Height
  height q n b = record { place = q; operands = n; brackets = b }

  -- ---- runs from their first instruction on

  abbrev Runs : ℕ → Height → Height → Type 0
  Runs zero c d = c ≡ d
  Runs (suc n) c d = (e : Height) × LeadsToHeight p c e × Runs n e d

  one_more : (n : ℕ) (c d e : Height) → Runs n c d → LeadsToHeight p d e → Runs (suc n) c e
  one_more zero c d e r l = (e, subst (λ (x : Height). LeadsToHeight p x e) (sym r) l, refl)
  one_more (suc n) c d e r l = (r.0, r.1, one_more n r.0 d e r.2 l)

  start_same : (h : Height) → h.place ≡ 0 → h.operands ≡ 0 → h.brackets ≡ 0 → height 0 0 0 ≡ h
  start_same h e f g = sym (ap (λ x. height x h.operands h.brackets) e ∙ ap (λ x. height 0 x h.brackets) f ∙ ap (λ x. height 0 0 x) g)

  runs : (n : ℕ) (h : Height) → IsReachedIn p n h → Runs n (height 0 0 0) h
  runs zero h r = start_same h r.0 r.1 r.2
  runs (suc n) h r = one_more n (height 0 0 0) r.0 h (runs n r.0 r.1) r.2

  module _ (most_operands most_brackets : ℕ) where
    -- ---- a place from which no more is held

    pub record Bounded (h : Height) : Type 0 where
      pub operands : h.operands ≤ most_operands
      pub brackets : h.brackets ≤ most_brackets

    abbrev SafeFrom : Height → Type 0
    SafeFrom h = (n : ℕ) (k : Height) → Runs n h k → Bounded k

    safe_from : (h : Height) → Bounded h → ((k : Height) → LeadsToHeight p h k → SafeFrom k) → SafeFrom h
    safe_from h b go zero k r = subst Bounded r b
    safe_from h b go (suc n) k r = go r.0 r.1 n k r.2

    abbrev Safe : (q n b : ℕ) → Type 0
    Safe q n b = SafeFrom (height q n b)

    same_height : (k : Height) (r m c : ℕ) → k.place ≡ r → k.operands ≡ m → k.brackets ≡ c → height r m c ≡ k
    same_height k r m c e f g = sym (ap (λ x. height x k.operands k.brackets) e ∙ ap (λ x. height r x k.brackets) f ∙ ap (λ x. height r m x) g)

    -- one instruction, of which the places behind it are pushed_by
    step : (i : Op) (q n b m c l : ℕ) → slice_get p.code q ≡ Some i → n ≡ l + taken p i → m ≡ l + pushed_by i → c + closed i ≡ b + opened i → n ≤ most_operands → b ≤ most_brackets
        → ((r : ℕ) → LeadsTo i q r → Safe r m c) → Safe q n b
    step i q n b m c l there before after brackets few shallow go =
        safe_from (height q n b) (record { operands = few; brackets = shallow }) (λ k lead.
        let found : Some lead.instruction ≡ Some i = sym lead.there ∙ there in
        let same : lead.instruction ≡ i = cc in
        let x : n ≡ lead.left + taken p i = lead.before ∙ ap (λ (j : Op). lead.left + taken p j) same in
        let y : k.operands ≡ lead.left + pushed_by i = lead.after ∙ ap (λ (j : Op). lead.left + pushed_by j) same in
        let z : k.brackets + closed i ≡ b + opened i =
        ap (λ (j : Op). k.brackets + closed j) (sym same) ∙ lead.brackets ∙ ap (λ (j : Op). b + opened j) same in
        let operands : k.operands ≡ m = omega (arith, x, y, before, after) in
        let opens : k.brackets ≡ c = omega (arith, z, brackets) in
        subst SafeFrom (same_height k k.place m c refl operands opens) (go k.place (subst (λ (j : Op). LeadsTo j q k.place) same lead.place)))

    -- an instruction that takes so many operands off, pushes so many, and goes on
    pub record Does (i : Op) (t g : ℕ) : Type 0 where
      pub goes : (q r : ℕ) → LeadsTo i q r → r ≡ q + 1
      pub takes : taken p i ≡ t
      pub gives : pushed_by i ≡ g
      pub opens : opened i ≡ 0
      pub closes : closed i ≡ 0

    going : (i : Op) (t g q n m b l : ℕ) → Does i t g → n ≡ l + t → m ≡ l + g → n ≤ most_operands → b ≤ most_brackets → slice_get p.code q ≡ Some i → Safe (q + 1) m b → Safe q n b
    going i t g q n m b l d e f few shallow there h =
        let a = d.takes in
        let c = d.gives in
        let o = d.opens in
        let k = d.closes in
        step i q n b m b l there (omega (arith, a, e)) (omega (arith, c, f)) (omega (arith, o, k)) few shallow (λ r to. subst (λ x. Safe x m b) (sym (d.goes q r to)) h)

    -- ---- terms

    abbrev Pushes : Piece → ℕ → Type 0
    Pushes x o = (q e n b : ℕ) → HasPieceAt p.code q e x → n + o ≤ most_operands → b ≤ most_brackets → Safe (end q x) (n + 1) b → Safe q n b

    pushes_one : (i : Op) → Does i 0 1 → Pushes (Plain i) 1
    pushes_one i d q e n b s few shallow h = going i 0 1 q n (n + 1) b n d (omega arith) refl (omega arith) shallow s h

    changed : (i : Op) (a : Piece) (o : ℕ) → 0 < o → Does i 1 1 → Pushes a o → Pushes (Then a (Plain i)) o
    changed i a o some d x q e n b s few shallow h =
        x q e n b s.0 few shallow (going i 1 1 (end q a) (n + 1) (n + 1) b n d refl refl (omega arith) shallow s.1 h)

    kept_both : (a b : Piece) (o u : ℕ) → Pushes a o → Pushes b u → (q e n c : ℕ) → HasPieceAt p.code q e a → HasPieceAt p.code (end q a) e b → n + one_kept o u ≤ most_operands → c ≤ most_brackets
        → Safe (end (end q a) b) ((n + 1) + 1) c → Safe q n c
    kept_both a b o u x y q e n c s t few shallow h =
        x q e n c s (omega arith) shallow (y (end q a) e (n + 1) c t (omega arith) shallow h)

    two_pushed : (i : Op) (a b : Piece) (o u : ℕ) → 0 < u → Does i 2 1 → Pushes a o → Pushes b u → Pushes (in_order i a b) (one_kept o u)
    two_pushed i a b o u some d x y q e n c s few shallow h =
        kept_both a b o u x y q e n c s.0 s.1.0 few shallow (going i 2 1 (end (end q a) b) ((n + 1) + 1) (n + 1) c n d (omega arith) refl (omega arith) shallow s.1.1 h)

    swapped_pushed : (i : Op) (a b : Piece) (o u : ℕ) → 0 < o → Does i 2 1 → Pushes a o → Pushes b u → Pushes (swapped i a b) (one_kept u o)
    swapped_pushed i a b o u some d x y q e n c s few shallow h =
        kept_both b a u o y x q e n c s.0 s.1.0 few shallow (going i 2 1 (end (end q b) a) ((n + 1) + 1) (n + 1) c n d (omega arith) refl (omega arith) shallow s.1.1 h)

    logic : (c : _) → Does (op.Logic c) 2 1
    logic c = record { goes = λ q r e. e; takes = refl; gives = refl; opens = refl; closes = refl }

    compare : (c : _) → Does (op.Compare c) 2 1
    compare c = record { goes = λ q r e. e; takes = refl; gives = refl; opens = refl; closes = refl }

    equality : (c : _) → Does (op.Equality c) 2 1
    equality c = record { goes = λ q r e. e; takes = refl; gives = refl; opens = refl; closes = refl }

    arithmetic : (c : _) → Does (op.Arithmetic c) 2 1
    arithmetic c = record { goes = λ q r e. e; takes = refl; gives = refl; opens = refl; closes = refl }

    number : (z : ℤ) → Does (op.PushInt z) 0 1
    number z = record { goes = λ q r e. e; takes = refl; gives = refl; opens = refl; closes = refl }

    enumerator : (s i : ℕ) → Does (op.PushEnum s i) 0 1
    enumerator s i = record { goes = λ q r e. e; takes = refl; gives = refl; opens = refl; closes = refl }

    negated : Does op.Not 1 1
    negated = record { goes = λ q r e. e; takes = refl; gives = refl; opens = refl; closes = refl }

    binary_pushed : (o : Operator) (a b : Piece) (n m : ℕ) → 0 < n → 0 < m → Pushes a n → Pushes b m → Pushes (binary_piece o a b) (binary_operands o n m)
    binary_pushed Operator.And a b n m k l x y = swapped_pushed _ a b n m k (logic _) x y
    binary_pushed Operator.Or a b n m k l x y = swapped_pushed _ a b n m k (logic _) x y
    binary_pushed Operator.Implies a b n m k l x y = swapped_pushed _ (Then a (Plain op.Not)) b n m k (logic _) (changed op.Not a n k negated x) y
    binary_pushed Operator.Equal a b n m k l x y = two_pushed _ a b n m l (equality _) x y
    binary_pushed Operator.NotEqual a b n m k l x y = two_pushed _ a b n m l (equality _) x y
    binary_pushed Operator.Less a b n m k l x y = two_pushed _ a b n m l (compare _) x y
    binary_pushed Operator.LessEqual a b n m k l x y = two_pushed _ a b n m l (compare _) x y
    binary_pushed Operator.Greater a b n m k l x y = two_pushed _ a b n m l (compare _) x y
    binary_pushed Operator.GreaterEqual a b n m k l x y = two_pushed _ a b n m l (compare _) x y
    binary_pushed Operator.Plus a b n m k l x y = two_pushed _ a b n m l (arithmetic _) x y
    binary_pushed Operator.Minus a b n m k l x y = two_pushed _ a b n m l (arithmetic _) x y
    binary_pushed Operator.Times a b n m k l x y = two_pushed _ a b n m l (arithmetic _) x y
    binary_pushed Operator.Div a b n m k l x y = two_pushed _ a b n m l (arithmetic _) x y
    binary_pushed Operator.Mod a b n m k l x y = two_pushed _ a b n m l (arithmetic _) x y

    -- behind a test, where it goes on and where it jumps
    both_ways : (on : Bool) (q n b to : ℕ) → slice_get p.code q ≡ Some (op.JumpIf on to) → n + 1 ≤ most_operands → b ≤ most_brackets → Safe (q + 1) n b → Safe to n b → Safe q (n + 1) b
    both_ways on q n b to s few shallow h i =
        step (op.JumpIf on to) q (n + 1) b n b n s refl (omega arith) refl few shallow
        (λ r. ⊎_elim (λ (e : r ≡ q + 1). subst (λ x. Safe x n b) (sym e) h) (λ (e : r ≡ to). subst (λ x. Safe x n b) (sym e) i))

    jumping : (q n b to : ℕ) → slice_get p.code q ≡ Some (op.Jump to) → n ≤ most_operands → b ≤ most_brackets → Safe to n b → Safe q n b
    jumping q n b to s few shallow h = step (op.Jump to) q n b n b n s (omega arith) (omega arith) refl few shallow (λ r e. subst (λ x. Safe x n b) (sym e) h)

    chosen_pushed : (c x y : Piece) (o u v : ℕ) → 0 < o → 0 < u → Pushes c o → Pushes x u → Pushes y v → Pushes (Then c (Choose false x y)) (max o (max u v))
    chosen_pushed c x y o u v some more f g h q e n b s few shallow done =
        let r = end q c in
        let mid = end (r + 1) x + 1 in
        let behind : Safe (end (r + 1) x) (n + 1) b = jumping (end (r + 1) x) (n + 1) b (end mid y) s.1.2 (omega arith) shallow done in
        f q e n b s.0 (omega arith) shallow
        (both_ways false r n b mid s.1.0 (omega arith) shallow (g (r + 1) e n b s.1.1 (omega arith) shallow behind) (h mid e n b s.1.3 (omega arith) shallow done))

    term_pushed : (t : Term) → Pushes (data_piece t) (term_operands t)
    term_pushed (Term.Truth b) = pushes_one (op.PushBool b) (record { goes = λ q r e. e; takes = refl; gives = refl; opens = refl; closes = refl })
    term_pushed (Number n) = pushes_one _ (number _)
    term_pushed (Term.Enumerator s i) = pushes_one _ (enumerator s i)
    term_pushed (Slot s) = pushes_one (op.Get s) (record { goes = λ q r e. e; takes = refl; gives = refl; opens = refl; closes = refl })
    term_pushed (Term.Not x) = changed op.Not (data_piece x) (term_operands x) (positive x) negated (term_pushed x)
    term_pushed (Negative x) = changed op.Negate (data_piece x) (term_operands x) (positive x) (record { goes = λ q r e. e; takes = refl; gives = refl; opens = refl; closes = refl }) (term_pushed x)
    term_pushed (Absolute x) = changed op.Absolute (data_piece x) (term_operands x) (positive x) (record { goes = λ q r e. e; takes = refl; gives = refl; opens = refl; closes = refl }) (term_pushed x)
    term_pushed (Successor x) = two_pushed _ (data_piece x) (Plain (op.PushInt _)) (term_operands x) 1 (omega arith) (arithmetic _) (term_pushed x) (pushes_one _ (number _))
    term_pushed (Predecessor x) = two_pushed _ (data_piece x) (Plain (op.PushInt _)) (term_operands x) 1 (omega arith) (arithmetic _) (term_pushed x) (pushes_one _ (number _))
    term_pushed (Binary o x y) = binary_pushed o (data_piece x) (data_piece y) (term_operands x) (term_operands y) (positive x) (positive y) (term_pushed x) (term_pushed y)
    term_pushed (Maximum x y) = two_pushed _ (data_piece x) (data_piece y) (term_operands x) (term_operands y) (positive y) (arithmetic _) (term_pushed x) (term_pushed y)
    term_pushed (Minimum x y) = two_pushed _ (data_piece x) (data_piece y) (term_operands x) (term_operands y) (positive y) (arithmetic _) (term_pushed x) (term_pushed y)
    term_pushed (Choice c x y) =
        chosen_pushed (data_piece c) (data_piece x) (data_piece y) (term_operands c) (term_operands x) (term_operands y)
        (positive c) (positive x) (term_pushed c) (term_pushed x) (term_pushed y)
    term_pushed (Recognised s i x) = two_pushed _ (data_piece x) (Plain (op.PushEnum s i)) (term_operands x) 1 (omega arith) (equality _) (term_pushed x) (pushes_one _ (enumerator s i))

    -- ---- tests and brackets

    abbrev Passes : Piece → (o k : ℕ) → Type 0
    Passes x o k = (q e b : ℕ) → HasPieceAt p.code q e x → o ≤ most_operands → b + k ≤ most_brackets → Safe (end q x) 0 b → Safe q 0 b

    written : (l : _) → Does (op.Emit l) 0 0
    written l = record { goes = λ q r e. e; takes = refl; gives = refl; opens = refl; closes = refl }

    -- a test, and what stands behind it both ways
    tested_by : (on : Bool) (t : Term) (q e b to : ℕ) → HasPieceAt p.code q e (data_piece t)
        → slice_get p.code (end q (data_piece t)) ≡ Some (op.JumpIf on to) → term_operands t ≤ most_operands → b ≤ most_brackets
        → Safe (end q (data_piece t) + 1) 0 b → Safe to 0 b → Safe q 0 b
    tested_by on t q e b to s there few shallow h i =
        let some = positive t in
        let one : 0 + 1 ≤ most_operands = omega (arith, some, few) in
        term_pushed t q e 0 b s (omega arith) shallow (both_ways on (end q (data_piece t)) 0 b to there one shallow h i)

    test_passes : (around : Junction) (t : Term) → Passes (test_piece around t) (term_operands t) 0
    test_passes around t q e b s few shallow h =
        let r = end q (data_piece t) in
        let low : b ≤ most_brackets = omega arith in
        tested_by (neutral around) t q e b _ s.0 s.1.0 few low (going _ 0 0 (r + 1) 0 0 b 0 (written _) refl refl (omega arith) low s.1.1 h) h

    decided_passes : (on : Bool) (l : _) (t : Term) (x : Piece) (o k : ℕ) → Passes x o k → Passes (Then (data_piece t) (Choose on (Plain (op.Emit l)) x)) (max (term_operands t) o) k
    decided_passes on l t x o k f q e b s few shallow h =
        let r = end q (data_piece t) in
        let low : b ≤ most_brackets = omega arith in
        let mid = (r + 1) + 1 + 1 in
        tested_by on t q e b mid s.0 s.1.0 (omega arith) low
        (going (op.Emit l) 0 0 (r + 1) 0 0 b 0 (written l) refl refl (omega arith) low s.1.1 (jumping ((r + 1) + 1) 0 b (end mid x) s.1.2 (omega arith) low h))
        (f mid e b s.1.3 (omega arith) shallow h)

    passed_passes : (on : Bool) (t : Term) (x : Piece) (o k : ℕ) → Passes x o k → Passes (Then (data_piece t) (Unless on x)) (max (term_operands t) o) k
    passed_passes on t x o k f q e b s few shallow h =
        let r = end q (data_piece t) in
        tested_by on t q e b (end (r + 1) x) s.0 s.1.0 (omega arith) (omega arith) (f (r + 1) e b s.1.1 (omega arith) shallow h) h

    tested_passes : (m around : Junction) (t : Term) (x : Piece) (o k : ℕ) → Passes x o k → Passes (tested_piece m around t x) (max (term_operands t) o) k
    tested_passes Conjunction Conjunction t x o k f = decided_passes true leaf.No t x o k f
    tested_passes Disjunction Disjunction t x o k f = decided_passes false leaf.Yes t x o k f
    tested_passes Conjunction Disjunction t x o k f = passed_passes false t x o k f
    tested_passes Disjunction Conjunction t x o k f = passed_passes true t x o k f

    bracketed_passes : (m : Junction) (x : Piece) (o k : ℕ) → Passes x o k → Passes (bracketed m x) o (suc k)
    bracketed_passes m x o k f q e b s few shallow h =
        let close_one : Safe (end (q + 1) x) 0 (b + 1) =
        step op.Close (end (q + 1) x) 0 (b + 1) 0 b 0 s.1.1 refl refl (omega arith) (omega arith) (omega arith)
        (λ r to. subst (λ y. Safe y 0 b) (sym to) h) in
        let inner : Safe (q + 1) 0 (b + 1) = f (q + 1) e (b + 1) s.1.0 few (omega arith) close_one in
        step _ q 0 b 0 (b + 1) 0 s.0 refl refl (omega arith) (omega arith) (omega arith) (λ r to. subst (λ y. Safe y 0 (b + 1)) (sym to) inner)

    under_passes : (m around : Junction) (x : Piece) (o k : ℕ) → Passes x o k → Passes (under m around x) o (brackets_under m around k)
    under_passes Conjunction Conjunction x o k f = f
    under_passes Disjunction Disjunction x o k f = f
    under_passes Conjunction Disjunction x o k f = bracketed_passes Conjunction x o k f
    under_passes Disjunction Conjunction x o k f = bracketed_passes Disjunction x o k f

    both_pass : (x y : Piece) (o k u l : ℕ) → Passes x o k → Passes y u l → Passes (Then x y) (max o u) (max k l)
    both_pass x y o k u l f g q e b s few shallow h =
        f q e b s.0 (omega arith) (omega arith) (g (end q x) e b s.1 (omega arith) (omega arith) h)

    -- the operands of a test
    abbrev IsTestOf : Option Term → ℕ → Type 0
    IsTestOf None n = Unit {0}
    IsTestOf (Some t) n = n ≡ term_operands t

    test_counts : (f : Formula) → IsTestOf (test_of f) (formula_operands f)
    test_counts (Test t) = refl
    test_counts (Join m f g) = tt
    test_counts (Each q s shape f) = tt
    test_counts (Call equation xs) = tt

    passes_as : (x : Piece) (o u k : ℕ) → o ≡ u → Passes x o k → Passes x u k
    passes_as x o u k d f q e b s few shallow h = f q e b s (omega arith) shallow h

    join_passes : (m around : Junction) (s t : Option Term) (fa ga fo go : Piece) (o u a b c d : ℕ) → IsTestOf s o → IsTestOf t u
        → Passes fa o a → Passes ga u b → Passes fo o c → Passes go u d → Passes (join_piece m around s t fa ga fo go) (max o u) (join_brackets m around s t a b c d)
    join_passes m around (Some s) t fa ga fo go o u a b c d x y f g h i =
        passes_as (tested_piece m around s ga) (max (term_operands s) u) (max o u) b (omega (arith, x)) (tested_passes m around s ga u b g)
    join_passes m around None (Some t) fa ga fo go o u a b c d x y f g h i =
        passes_as (tested_piece m around t fa) (max (term_operands t) o) (max o u) a (omega (arith, y)) (tested_passes m around t fa o a f)
    join_passes m around None None fa ga fo go o u a b c d x y f g h i = under_passes m around (Then fo go) (max o u) (max c d) (both_pass fo go o c u d h i)

    repeat_passes : (s : ℕ) (x : Piece) (o k : ℕ) → Passes x o k → Passes (Repeat s x) o k
    repeat_passes s x o k f q e b st few shallow h =
        let low : b ≤ most_brackets = omega arith in
        let next : Safe (end (q + 1) x) 0 b =
        going op.Next 0 0 (end (q + 1) x) 0 0 b 0
        (record { goes = λ r z d. d; takes = refl; gives = refl; opens = refl; closes = refl }) refl refl (omega arith) low st.2 h in
        going (op.Loop s) 0 0 q 0 0 b 0 (record { goes = λ r z d. d; takes = refl; gives = refl; opens = refl; closes = refl }) refl refl (omega arith) low st.0 (f (q + 1) e b st.1 few shallow next)

    -- ---- calls

    popping : Does op.Pop 1 0
    popping = record { goes = λ q r e. e; takes = refl; gives = refl; opens = refl; closes = refl }

    -- what follows an argument, which is taken off where a later test fails
    guarded_safe : (o : Option (ℤ × ℤ)) (later : Bool) (x : Piece) (q e n b : ℕ) → HasPieceAt p.code q e (guarded o later x) → n + 1 ≤ most_operands → b ≤ most_brackets
        → ((is_some o || later) ≡ true → Safe (end q (guarded o later x)) n b)
        → ((r : ℕ) → HasPieceAt p.code r e x → (later ≡ true → Safe (end r x) (n + 1) b) → ((is_some o || later) ≡ false → end q (guarded o later x) ≡ end r x) → Safe r (n + 1) b)
        → Safe q (n + 1) b
    guarded_safe (Some r) later x q e n b s few shallow done inner =
        let pop : Safe (end (q + 1) x) (n + 1) b = going op.Pop 1 0 (end (q + 1) x) (n + 1) n b n popping refl (omega arith) few shallow s.2 (done refl) in
        let rest : Safe (q + 1) (n + 1) b = inner (q + 1) s.1 (λ l. pop) (λ d. absurd (true≢false d)) in
        step (op.InRange r.0 r.1 (end (q + 1) x)) q (n + 1) b (n + 1) b n s.0 refl refl refl few shallow
        (λ z. ⊎_elim (λ (d : z ≡ q + 1). subst (λ y. Safe y (n + 1) b) (sym d) rest)
        (λ (d : z ≡ end (q + 1) x). subst (λ y. Safe y (n + 1) b) (sym d) pop))
    guarded_safe None true x q e n b s few shallow done inner =
        let pop : Safe (end q x) (n + 1) b = going op.Pop 1 0 (end q x) (n + 1) n b n popping refl (omega arith) few shallow s.1 (done refl) in
        inner q s.0 (λ l. pop) (λ d. absurd (true≢false d))
    guarded_safe None false x q e n b s few shallow done inner = inner q s (λ l. absurd (true≢false (sym l))) (λ d. refl)

    arguments_safe : (cs : List Carrier) (xs : List Argument) (last : Piece) (q e n b : ℕ)
        → HasPieceAt p.code q e (arguments_piece cs xs last) → n + argument_operands xs ≤ most_operands → b ≤ most_brackets
        → (any_tested cs xs ≡ true → Safe (end q (arguments_piece cs xs last)) n b)
        → ((r : ℕ) → HasPieceAt p.code r e last → (any_tested cs xs ≡ false → end q (arguments_piece cs xs last) ≡ end r last) → Safe r (n + length xs) b)
        → Safe q n b
    arguments_safe (c ∷ cs) (x ∷ xs) last q e n b s few shallow done behind =
        let o = tested_range c x.shape in
        let later = any_tested cs xs in
        let rest = arguments_piece cs xs last in
        let r = end q (data_piece x.term) in
        let long : (n + 1) + length xs ≡ n + suc (length xs) = omega arith in
        let one : n + 1 ≤ most_operands = omega arith in
        term_pushed x.term q e n b s.0 (omega arith) shallow
        (guarded_safe o later rest r e n b s.1 one shallow done (λ z st failed ends.
        arguments_safe cs xs last z e (n + 1) b st (omega arith) shallow failed (λ y at stops.
        subst (λ m. Safe y m b) (sym long) (behind y at (λ d. ends d ∙ stops (or_parts (is_some o) later d).1)))))
    arguments_safe [] (x ∷ xs) last q e n b s few shallow done behind =
        let r = end q (data_piece x.term) in
        let long : (n + 1) + length xs ≡ n + suc (length xs) = omega arith in
        term_pushed x.term q e n b s.0 (omega arith) shallow
        (arguments_safe [] xs last r e (n + 1) b s.1 (omega arith) shallow (λ d. absurd (true≢false (sym d))) (λ y at stops.
        subst (λ m. Safe y m b) (sym long) (behind y at (λ d. stops refl))))
    arguments_safe [] [] last q e n b s few shallow done behind =
        let none : n + 0 ≡ n = omega arith in
        subst (λ m. Safe q m b) none (behind q s (λ d. refl))
    arguments_safe (c ∷ cs) [] last q e n b s few shallow done behind =
        let none : n + 0 ≡ n = omega arith in
        subst (λ m. Safe q m b) none (behind q s (λ d. refl))

    called : (equation : ℕ) (xs : List Argument) (q b : ℕ) → IsFullCall (slice_get p.callees equation) xs
        → slice_get p.code q ≡ Some (op.Call equation) → 0 + length xs ≤ most_operands → b ≤ most_brackets
        → Safe (q + 1) 0 b → Safe q (0 + length xs) b
    called equation xs q b f s few shallow h =
        step (op.Call equation) q (0 + length xs) b 0 b 0 s (ap (λ n. 0 + n) (full_length (slice_get p.callees equation) xs f)) refl refl few shallow (λ r e. subst (λ y. Safe y 0 b) (sym e) h)

    enough : (xs : List Argument) → length xs ≤ argument_operands xs
    enough [] = omega arith
    enough (x ∷ xs) = let h = enough xs in omega (arith, h)

    call_passes : (equation : ℕ) (xs : List Argument) → IsFullCall (slice_get p.callees equation) xs
        → Passes (call_piece equation (parameters (slice_get p.callees equation)) xs) (argument_operands xs) 0
    call_passes equation xs f = by (any_tested cs xs) refl
      where
        cs : List Carrier
        cs = parameters (slice_get p.callees equation)

        by : (t : Bool) → any_tested cs xs ≡ t
            → Passes (cond t
            (Block (Then (arguments_piece cs xs (Then (Plain (op.Call equation)) Leave)) (Plain (op.Emit leaf.Cut))))
            (arguments_piece cs xs (Plain (op.Call equation)))) (argument_operands xs) 0
        by true d q e b s few shallow h =
            let last = Then (Plain (op.Call equation)) Leave in
            let cut = end q (arguments_piece cs xs last) in
            let low : b ≤ most_brackets = omega arith in
            let most : 0 + length xs ≤ most_operands = (let k = enough xs in omega (arith, k, few)) in
            let failed : Safe cut 0 b = going (op.Emit leaf.Cut) 0 0 cut 0 0 b 0 (written leaf.Cut) refl refl (omega arith) low s.1 h in
            arguments_safe cs xs last q (cut + 1) 0 b s.0 (omega arith) low (λ t. failed) (λ r st ends.
            called equation xs r b f st.0 most low (jumping (r + 1) 0 b (cut + 1) st.1 (omega arith) low h))
        by false d q e b s few shallow h =
            let low : b ≤ most_brackets = omega arith in
            let most : 0 + length xs ≤ most_operands = (let k = enough xs in omega (arith, k, few)) in
            arguments_safe cs xs (Plain (op.Call equation)) q e 0 b s (omega arith) low (λ t. absurd (true≢false (sym t ∙ d))) (λ r st ends.
            called equation xs r b f st most low (subst (λ y. Safe y 0 b) (ends d) h))

    -- ---- formulas

    formula_passes : (f : Formula) (around : Junction) → HasFullCalls p.callees f → Passes (formula_piece p.callees around f) (formula_operands f) (formula_brackets around f)
    formula_passes (Test t) around h = test_passes around t
    formula_passes (Join m f g) around h =
        join_passes m around (test_of f) (test_of g)
        (formula_piece p.callees around f) (formula_piece p.callees around g) (formula_piece p.callees m f) (formula_piece p.callees m g)
        (formula_operands f) (formula_operands g) (formula_brackets around f) (formula_brackets around g) (formula_brackets m f) (formula_brackets m g) (test_counts f) (test_counts g)
        (formula_passes f around h.0) (formula_passes g around h.1) (formula_passes f m h.0) (formula_passes g m h.1)
    formula_passes (Each q s shape f) around h =
        under_passes (junction_of q) around (Repeat s (formula_piece p.callees (junction_of q) f)) (formula_operands f)
        (formula_brackets (junction_of q) f)
        (repeat_passes s (formula_piece p.callees (junction_of q) f) (formula_operands f)
        (formula_brackets (junction_of q) f) (formula_passes f (junction_of q) h))
    formula_passes (Call equation xs) around h = call_passes equation xs h

-- ---- equations

module _ (p : Program) (f : Formula) (compiled : IsCompiled p f) (calls : HasFullCalls p.callees f) where
  abbrev most : ℕ
  most = suc (formula_brackets (head f) f)

  -- END is the last instruction
  ended : Safe p (formula_operands f) most (end 0 (bracketed (head f) (formula_piece p.callees (head f) f))) 0 0
  ended =
      step p (formula_operands f) most op.End (end 0 (bracketed (head f) (formula_piece p.callees (head f) f))) 0 0 0 0
      0 (equation_stands p f compiled).1 refl refl refl (omega arith) (omega arith) (λ r to. absurd to)

  from_start : Safe p (formula_operands f) most 0 0 0
  from_start =
      bracketed_passes p (formula_operands f) most (head f) (formula_piece p.callees (head f) f) (formula_operands f)
      (formula_brackets (head f) f) (formula_passes p (formula_operands f) most f (head f) calls)
      0 0 0 (equation_stands p f compiled).0 (omega arith) (omega arith) ended

  pub operands_bounded : (h : Height) → ReachesHeight p h → h.operands ≤ formula_operands f
  operands_bounded h r = (from_start r.0 h (runs p r.0 h r.1)).operands

  pub brackets_bounded : (h : Height) → ReachesHeight p h → h.brackets ≤ suc (formula_brackets (head f) f)
  brackets_bounded h r = (from_start r.0 h (runs p r.0 h r.1)).brackets
