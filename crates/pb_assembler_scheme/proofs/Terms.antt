-- The code of a data term puts the term's value on top.
use Rattle.std.proofs.Common.{◌≡◌, ℕ, ◌+◌, Bool, true, false, cond, not, ◌&&◌, ◌||◌, List, ◌∷◌, Option, Some, None, refl, sym, ap, ◌∙◌, subst}
use Rattle.std.specs.Prelude.{ℤ, pos, neg_ℤ, int_lt, ◌==◌}
use Rattle.std.specs.List.{slice_get}
use Rattle.std.specs.Ordering.{int_eq}
use Rattle.std.proofs.Math.Bool.{and_comm, or_comm}
use Rattle.pb_base_values.specs.Carrier.{of_bool}
use Rattle.pb_fixpoint_trees.specs.declared.Token.{Token}
use Rattle.pb_text_meaning.specs.Syntax.{Operator}
use Rattle.pb_text_meaning.specs.Value.{is_true}
use Rattle.pb_text_meaning.proofs.Truths.{is_true-of_bool}
use Rattle.pb_bytecode_program.specs.Values.{TaggedValue, BoolValue, IntValue, EnumValue, untagged, arithmetic, has_divisor, absolute, compares, equals, answers, joined}
use Rattle.pb_bytecode_program.specs.Machine
use Rattle.pb_bytecode_program.specs.Machine.{Program, State}
use Rattle.pb_bytecode_program.specs.declared.instruction.Arithmetic.{Arithmetic}
use Rattle.pb_bytecode_program.specs.declared.instruction.Arithmetic.TheVariants as arithmetic
use Rattle.pb_bytecode_program.specs.declared.instruction.Comparison.{Comparison}
use Rattle.pb_bytecode_program.specs.declared.instruction.Comparison.TheVariants as comparison
use Rattle.pb_fixpoint_trees.specs.declared.junction.Junction.{Junction}
use Rattle.pb_fixpoint_trees.specs.declared.junction.Junction.TheVariants as junction
use Rattle.pb_bytecode_program.specs.declared.instruction.Equality.{Equality}
use Rattle.pb_bytecode_program.specs.declared.instruction.Equality.TheVariants as equality
use Rattle.pb_bytecode_program.specs.declared.instruction.Op.TheVariants as op
use Rattle.pb_normal.specs.Normal.{Term, Number, Slot, Negative, Absolute, Successor, Predecessor, Binary, Maximum, Minimum, Choice, Recognised, Slots, value}
use Rattle.pb_assembler_scheme.specs.Pieces.{Piece, Plain, Then, end, HasPieceAt}
use Rattle.pb_assembler_scheme.specs.Scheme.{data_piece, in_order, swapped}
use Rattle.pb_assembler_scheme.proofs.Equality.{same_bools, same_places, same_numbers, chosen_then, chosen_else}
use Rattle.pb_assembler_scheme.proofs.Wins.{Wins, After, one, avoids_fault, pushed, pushed_int, popped_int, popped_bool}

-- what the machine's slots hold is what the formula's slots hold
abbrev pub Agrees : State → Slots → Type 0
Agrees st a = (i : ℕ) (v : TaggedValue) → Machine.value_at st.loops st.parameters i ≡ Some v → untagged v ≡ a i

module _ (p : Program) (Q : List Token → Type 0) where
  -- the state after a term: its value on top
  abbrev pub Gives : State → ℕ → ℤ → Type 0
  Gives st q z = (v : TaggedValue) → untagged v ≡ z → Wins p Q (record st { place = q; operands = v ∷ st.operands })

  slot : (o : Option TaggedValue) (st : State)
      → ((v : TaggedValue) → o ≡ Some v → Wins p Q (record st { place = st.place + 1; operands = v ∷ st.operands }))
      → After p Q (Machine.with_slot o (λ v. Machine.push st st.operands v))
  slot None st h = tt
  slot (Some v) st h = pushed p Q st st.operands v (h v refl)

  same : (st : State) (vs : List TaggedValue) (wanted : Equality) (x y : TaggedValue)
      → ((b : Bool) → b ≡ answers wanted (int_eq (untagged x) (untagged y))
      → Wins p Q (record st { place = st.place + 1; operands = BoolValue b ∷ vs }))
      → After p Q (Machine.push_equality st vs wanted (equals x y))
  same st vs w (BoolValue a) (BoolValue b) h = pushed p Q st vs _ (h _ (ap (answers w) (same_bools a b)))
  same st vs w (IntValue a) (IntValue b) h = pushed p Q st vs _ (h _ (ap (answers w) (same_numbers a b)))
  same st vs w (EnumValue s i) (EnumValue t j) h = by (s == t)
    where
      by : (c : Bool) → After p Q (Machine.push_equality st vs w (cond c (Some (i == j)) None))
      by true = pushed p Q st vs _ (h _ (ap (answers w) (same_places i j)))
      by false = tt
  same st vs w (BoolValue a) (IntValue b) h = tt
  same st vs w (BoolValue a) (EnumValue t j) h = tt
  same st vs w (IntValue a) (BoolValue b) h = tt
  same st vs w (IntValue a) (EnumValue t j) h = tt
  same st vs w (EnumValue s i) (BoolValue b) h = tt
  same st vs w (EnumValue s i) (IntValue b) h = tt

  -- a test on the topmost operand
  pub jumps : (st : State) (on : Bool) (to : ℕ) (v : TaggedValue) (vs : List TaggedValue) → st.operands ≡ v ∷ vs → slice_get p.code st.place ≡ Some (op.JumpIf on to)
      → (is_true (untagged v) ≡ on → Wins p Q (record st { place = to; operands = vs }))
      → (is_true (untagged v) ≡ not on → Wins p Q (record st { place = st.place + 1; operands = vs }))
      → Wins p Q st
  jumps st on to v vs e at there next =
      one p Q st _ at (subst (λ (ws : List TaggedValue). After p Q (Machine.pop_bool ws (λ b ws. cond (cond on b (not b)) (Machine.jump_to st to ws) (Machine.jump_to st (st.place + 1) ws)))) (sym e)
      (popped_bool p Q v vs _ (λ b k. by on b (sym (is_true-of_bool b) ∙ ap is_true k) there next)))
    where
      by : (on b : Bool) → b ≡ is_true (untagged v) → (is_true (untagged v) ≡ on → Wins p Q (record st { place = to; operands = vs }))
          → (is_true (untagged v) ≡ not on → Wins p Q (record st { place = st.place + 1; operands = vs }))
          → After p Q (cond (cond on b (not b)) (Machine.jump_to st to vs) (Machine.jump_to st (st.place + 1) vs))
      by true true k there next = there (sym k)
      by true false k there next = next (sym k)
      by false true k there next = next (sym k)
      by false false k there next = there (sym k)

  -- ---- one instruction of a term, at a place with these operands

  abbrev pub put : State → ℕ → List TaggedValue → State
  put st q vs = record st { place = q; operands = vs }

  at_negate : (st : State) (q : ℕ) (v : TaggedValue) (vs : List TaggedValue) → slice_get p.code q ≡ Some op.Negate
      → Wins p Q (put st (q + 1) (IntValue (neg_ℤ (untagged v)) ∷ vs)) → Wins p Q (put st q (v ∷ vs))
  at_negate st q v vs h k = one p Q (put st q (v ∷ vs)) op.Negate h (popped_int p Q v vs _ (pushed_int p Q (put st q (v ∷ vs)) vs _ k))

  at_absolute : (st : State) (q : ℕ) (v : TaggedValue) (vs : List TaggedValue) → slice_get p.code q ≡ Some op.Absolute
      → Wins p Q (put st (q + 1) (IntValue (absolute (untagged v)) ∷ vs)) → Wins p Q (put st q (v ∷ vs))
  at_absolute st q v vs h k = one p Q (put st q (v ∷ vs)) op.Absolute h (popped_int p Q v vs _ (pushed_int p Q (put st q (v ∷ vs)) vs _ k))

  at_not : (st : State) (q : ℕ) (v : TaggedValue) (vs : List TaggedValue) → slice_get p.code q ≡ Some op.Not
      → Wins p Q (put st (q + 1) (BoolValue (not (is_true (untagged v))) ∷ vs)) → Wins p Q (put st q (v ∷ vs))
  at_not st q v vs h k =
      one p Q (put st q (v ∷ vs)) op.Not h
      (popped_bool p Q v vs _
      (λ b e. pushed p Q (put st q (v ∷ vs)) vs _
      (subst (λ c. Wins p Q (put st (q + 1) (BoolValue (not c) ∷ vs))) (ap is_true (sym e) ∙ is_true-of_bool b) k)))

  at_arithmetic : (c : Arithmetic) (st : State) (q : ℕ) (v w : TaggedValue) (vs : List TaggedValue)
      → slice_get p.code q ≡ Some (op.Arithmetic c)
      → Wins p Q (put st (q + 1) (IntValue (arithmetic c (untagged v) (untagged w)) ∷ vs)) → Wins p Q (put st q (w ∷ v ∷ vs))
  at_arithmetic c st q v w vs h k =
      one p Q (put st q (w ∷ v ∷ vs)) (op.Arithmetic c) h
      (popped_int p Q w (v ∷ vs) _
      (popped_int p Q v vs _
      (avoids_fault p Q (has_divisor c && int_lt (untagged w) (pos 1)) _ _ (pushed_int p Q (put st q (w ∷ v ∷ vs)) vs _ k))))

  at_compare : (o : Comparison) (st : State) (q : ℕ) (v w : TaggedValue) (vs : List TaggedValue)
      → slice_get p.code q ≡ Some (op.Compare o)
      → Wins p Q (put st (q + 1) (BoolValue (compares o (untagged v) (untagged w)) ∷ vs)) → Wins p Q (put st q (w ∷ v ∷ vs))
  at_compare o st q v w vs h k = one p Q (put st q (w ∷ v ∷ vs)) (op.Compare o) h (popped_int p Q w (v ∷ vs) _ (popped_int p Q v vs _ (pushed p Q (put st q (w ∷ v ∷ vs)) vs _ k)))

  at_equality : (wanted : Equality) (st : State) (q : ℕ) (v w : TaggedValue) (vs : List TaggedValue)
      → slice_get p.code q ≡ Some (op.Equality wanted)
      → Wins p Q (put st (q + 1) (BoolValue (answers wanted (int_eq (untagged v) (untagged w))) ∷ vs)) → Wins p Q (put st q (w ∷ v ∷ vs))
  at_equality wanted st q v w vs h k =
      one p Q (put st q (w ∷ v ∷ vs)) (op.Equality wanted) h
      (same (put st q (w ∷ v ∷ vs)) vs wanted v w (λ b e. subst (λ c. Wins p Q (put st (q + 1) (BoolValue c ∷ vs))) (sym e) k))

  at_logic : (c : Junction) (st : State) (q : ℕ) (v w : TaggedValue) (vs : List TaggedValue)
      → slice_get p.code q ≡ Some (op.Logic c)
      → Wins p Q (put st (q + 1) (BoolValue (joined c (is_true (untagged v)) (is_true (untagged w))) ∷ vs))
      → Wins p Q (put st q (w ∷ v ∷ vs))
  at_logic c st q v w vs h k =
      one p Q (put st q (w ∷ v ∷ vs)) (op.Logic c) h
      (popped_bool p Q w (v ∷ vs)
      (λ b us. Machine.pop_bool us (λ a ws. Machine.push (put st q (w ∷ v ∷ vs)) ws (BoolValue (joined c a b))))
      (λ b e. popped_bool p Q v vs _ (λ a f. pushed p Q (put st q (w ∷ v ∷ vs)) vs _
      (subst (λ d. Wins p Q (put st (q + 1) (BoolValue (joined c d b) ∷ vs))) (ap is_true (sym f) ∙ is_true-of_bool a)
      (subst (λ d. Wins p Q (put st (q + 1) (BoolValue (joined c (is_true (untagged v)) d) ∷ vs)))
      (ap is_true (sym e) ∙ is_true-of_bool b) k)))))

  pub at_jump : (st : State) (q to : ℕ) (vs : List TaggedValue) → slice_get p.code q ≡ Some (op.Jump to) → Wins p Q (put st to vs) → Wins p Q (put st q vs)
  at_jump st q to vs h k = one p Q (put st q vs) (op.Jump to) h k

  -- ---- pieces that put a value on top

  -- wherever the piece stands and the slots agree, it gives this value
  abbrev pub GivesValue : Piece → (Slots → ℤ) → Type 0
  GivesValue x z = (st : State) (e : ℕ) (a : Slots) → HasPieceAt p.code st.place e x → Agrees st a → Gives st (end st.place x) (z a) → Wins p Q st

  number_gives : (z : ℤ) → GivesValue (Plain (op.PushInt z)) (λ a. z)
  number_gives z st e a h ag go = one p Q st _ h (pushed p Q st st.operands (IntValue z) (go (IntValue z) refl))

  member_gives : (s i : ℕ) → GivesValue (Plain (op.PushEnum s i)) (λ a. pos i)
  member_gives s i st e a h ag go = one p Q st _ h (pushed p Q st st.operands (EnumValue s i) (go (EnumValue s i) refl))

  module _ (x y : Piece) (m n : Slots → ℤ) (hx : GivesValue x m) (hy : GivesValue y n) where
    calculated : (c : Arithmetic) → GivesValue (in_order (op.Arithmetic c) x y) (λ a. arithmetic c (m a) (n a))
    calculated c st e a h ag go =
        hx st e a h.0 ag (λ v k. hy (put st _ (v ∷ st.operands)) e a h.1.0 ag (λ w l.
        at_arithmetic c st _ v w st.operands h.1.1 (go _ (ap (λ z. arithmetic c z (untagged w)) k ∙ ap (arithmetic c (m a)) l))))

    compared : (o : Comparison) → GivesValue (in_order (op.Compare o) x y) (λ a. of_bool (compares o (m a) (n a)))
    compared o st e a h ag go =
        hx st e a h.0 ag (λ v k. hy (put st _ (v ∷ st.operands)) e a h.1.0 ag (λ w l.
        at_compare o st _ v w st.operands h.1.1 (go _ (ap (λ z. of_bool (compares o z (untagged w))) k ∙ ap (λ z. of_bool (compares o (m a) z)) l))))

    equated : (wanted : Equality) → GivesValue (in_order (op.Equality wanted) x y) (λ a. of_bool (answers wanted (int_eq (m a) (n a))))
    equated wanted st e a h ag go =
        hx st e a h.0 ag (λ v k. hy (put st _ (v ∷ st.operands)) e a h.1.0 ag (λ w l.
        at_equality wanted st _ v w st.operands h.1.1 (go _ (ap (λ z. of_bool (answers wanted (int_eq z (untagged w)))) k ∙ ap (λ z. of_bool (answers wanted (int_eq (m a) z))) l))))

    -- the second operand stands below the first
    connected : (c : Junction) → GivesValue (swapped (op.Logic c) x y) (λ a. of_bool (joined c (is_true (n a)) (is_true (m a))))
    connected c st e a h ag go =
        hy st e a h.0 ag (λ w l. hx (put st _ (w ∷ st.operands)) e a h.1.0 ag (λ v k.
        at_logic c st _ w v st.operands h.1.1 (go _ (ap (λ z. of_bool (joined c (is_true z) (is_true (untagged v)))) l ∙ ap (λ z. of_bool (joined c (is_true (n a)) (is_true z))) k))))

  negated : (x : Piece) (m : Slots → ℤ) → GivesValue x m → GivesValue (Then x (Plain op.Not)) (λ a. of_bool (not (is_true (m a))))
  negated x m hx st e a h ag go = hx st e a h.0 ag (λ v k. at_not st _ v st.operands h.1 (go _ (ap (λ z. of_bool (not (is_true z))) k)))

  same_value : (x : Piece) (m n : Slots → ℤ) → ((a : Slots) → m a ≡ n a) → GivesValue x m → GivesValue x n
  same_value x m n e hx st end' a h ag go = hx st end' a h ag (λ v k. go v (k ∙ e a))

  abbrev of : Term → Slots → ℤ
  of x a = value a x

  -- ---- terms of two operands

  binary_gives : (o : Operator) (x y : Term) → GivesValue (data_piece x) (of x) → GivesValue (data_piece y) (of y) → GivesValue (data_piece (Binary o x y)) (of (Binary o x y))
  binary_gives Operator.And x y hx hy =
      same_value (data_piece (Binary Operator.And x y)) _ _
      (λ a. ap of_bool (and_comm (is_true (value a y)) (is_true (value a x))))
      (connected (data_piece x) (data_piece y) (of x) (of y) hx hy junction.Conjunction)
  binary_gives Operator.Or x y hx hy =
      same_value (data_piece (Binary Operator.Or x y)) _ _
      (λ a. ap of_bool (or_comm (is_true (value a y)) (is_true (value a x))))
      (connected (data_piece x) (data_piece y) (of x) (of y) hx hy junction.Disjunction)
  binary_gives Operator.Implies x y hx hy =
      same_value (data_piece (Binary Operator.Implies x y)) _ _
      (λ a. ap of_bool
      (or_comm (is_true (value a y)) (is_true (of_bool (not (is_true (value a x)))))
      ∙ ap (λ b. b || is_true (value a y)) (is_true-of_bool (not (is_true (value a x))))))
      (connected (Then (data_piece x) (Plain op.Not)) (data_piece y) _ (of y) (negated (data_piece x) (of x) hx) hy junction.Disjunction)
  binary_gives Operator.Equal x y hx hy = equated (data_piece x) (data_piece y) (of x) (of y) hx hy equality.Equal
  binary_gives Operator.NotEqual x y hx hy = equated (data_piece x) (data_piece y) (of x) (of y) hx hy equality.NotEqual
  binary_gives Operator.Less x y hx hy = compared (data_piece x) (data_piece y) (of x) (of y) hx hy comparison.Less
  binary_gives Operator.LessEqual x y hx hy = compared (data_piece x) (data_piece y) (of x) (of y) hx hy comparison.LessOrEqual
  binary_gives Operator.Greater x y hx hy = compared (data_piece x) (data_piece y) (of x) (of y) hx hy comparison.Greater
  binary_gives Operator.GreaterEqual x y hx hy = compared (data_piece x) (data_piece y) (of x) (of y) hx hy comparison.GreaterOrEqual
  binary_gives Operator.Plus x y hx hy = calculated (data_piece x) (data_piece y) (of x) (of y) hx hy arithmetic.Add
  binary_gives Operator.Minus x y hx hy = calculated (data_piece x) (data_piece y) (of x) (of y) hx hy arithmetic.Sub
  binary_gives Operator.Times x y hx hy = calculated (data_piece x) (data_piece y) (of x) (of y) hx hy arithmetic.Mul
  binary_gives Operator.Div x y hx hy = calculated (data_piece x) (data_piece y) (of x) (of y) hx hy arithmetic.Div
  binary_gives Operator.Mod x y hx hy = calculated (data_piece x) (data_piece y) (of x) (of y) hx hy arithmetic.Mod

  choice_gives : (c x y : Term) → GivesValue (data_piece c) (of c) → GivesValue (data_piece x) (of x) → GivesValue (data_piece y) (of y) → GivesValue (data_piece (Choice c x y)) (of (Choice c x y))
  choice_gives c x y hc hx hy st e a h ag go =
      hc st e a h.0 ag (λ v k.
      jumps (put st _ (v ∷ st.operands)) false _ v st.operands refl h.1.0
      (λ b. hy (put st _ st.operands) e a h.1.3 ag (λ w l. go w (l ∙ chosen_else (is_true (value a c)) (value a x) (value a y) (ap is_true (sym k) ∙ b))))
      (λ b. hx (put st _ st.operands) e a h.1.1 ag (λ w l. at_jump st _ _ (w ∷ st.operands) h.1.2 (go w (l ∙ chosen_then (is_true (value a c)) (value a x) (value a y) (ap is_true (sym k) ∙ b))))))

  truth_gives : (b : Bool) → GivesValue (data_piece (Term.Truth b)) (of (Term.Truth b))
  truth_gives b st e a h ag go = one p Q st _ h (pushed p Q st st.operands (BoolValue b) (go (BoolValue b) refl))

  slot_gives : (i : ℕ) → GivesValue (data_piece (Slot i)) (of (Slot i))
  slot_gives i st e a h ag go = one p Q st _ h (slot (Machine.value_at st.loops st.parameters i) st (λ v k. go v (ag i v k)))

  negative_gives : (x : Term) → GivesValue (data_piece x) (of x) → GivesValue (data_piece (Negative x)) (of (Negative x))
  negative_gives x hx st e a h ag go = hx st e a h.0 ag (λ v k. at_negate st _ v st.operands h.1 (go _ (ap neg_ℤ k)))

  absolute_gives : (x : Term) → GivesValue (data_piece x) (of x) → GivesValue (data_piece (Absolute x)) (of (Absolute x))
  absolute_gives x hx st e a h ag go = hx st e a h.0 ag (λ v k. at_absolute st _ v st.operands h.1 (go _ (ap absolute k)))

  -- ---- all terms

  pub gives : (t : Term) → GivesValue (data_piece t) (of t)
  gives (Term.Truth b) = truth_gives b
  gives (Number n) = number_gives (pos n)
  gives (Term.Enumerator s i) = member_gives s i
  gives (Slot i) = slot_gives i
  gives (Term.Not x) = negated (data_piece x) (of x) (gives x)
  gives (Negative x) = negative_gives x (gives x)
  gives (Absolute x) = absolute_gives x (gives x)
  gives (Successor x) = calculated (data_piece x) (Plain (op.PushInt (pos 1))) (of x) (λ a. pos 1) (gives x) (number_gives (pos 1)) arithmetic.Add
  gives (Predecessor x) = calculated (data_piece x) (Plain (op.PushInt (pos 1))) (of x) (λ a. pos 1) (gives x) (number_gives (pos 1)) arithmetic.Sub
  gives (Binary o x y) = binary_gives o x y (gives x) (gives y)
  gives (Maximum x y) = calculated (data_piece x) (data_piece y) (of x) (of y) (gives x) (gives y) arithmetic.Max
  gives (Minimum x y) = calculated (data_piece x) (data_piece y) (of x) (of y) (gives x) (gives y) arithmetic.Min
  gives (Choice c x y) = choice_gives c x y (gives c) (gives x) (gives y)
  gives (Recognised s i x) = equated (data_piece x) (Plain (op.PushEnum s i)) (of x) (λ a. pos i) (gives x) (member_gives s i) equality.Equal
