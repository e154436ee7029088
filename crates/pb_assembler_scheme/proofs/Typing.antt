-- Well-typed terms have code that the rules accept.
use Rattle.std.proofs.Common.{◌≡◌, ℕ, zero, suc, ◌+◌, ◌<◌, ◌≤◌, max, Bool, true, false, cond, ◌&&◌, List, [], ◌∷◌, length, Option, Some, None, refl, sym, ap, ◌∙◌, subst, arith}
use Rattle.std.specs.Prelude.{ℤ, pos, neg_ℤ, int_lt, slice_get, ◌==◌}
use Rattle.std.proofs.lemmas.Bool.{lt-ltb}
use Rattle.std.proofs.lemmas.Int.{ints}
use Rattle.pb_text_meaning.specs.Syntax.{Operator}
use Rattle.pb_bytecode_program.proofs.Covering.{covers_through}
use Rattle.pb_bytecode_program.specs.Values.{has_divisor, fits64}
use Rattle.pb_bytecode_program.specs.Abstract.{Covers, interval_of, absolute_interval, same_kind}
use Rattle.pb_bytecode_program.specs.declared.domain.AbstractValue.{AbstractValue}
use Rattle.pb_bytecode_program.specs.declared.domain.AbstractValue.TheVariants as abstract
use Rattle.pb_bytecode_program.specs.Machine.{Program}
use Rattle.pb_bytecode_program.specs.Counts.{loop_effect, Straight}
use Rattle.pb_bytecode_program.specs.Transfer
use Rattle.pb_bytecode_program.specs.Transfer.{AbstractState, to_next_place, transfer, abstract_push, abstract_push_int, abstract_slot}
use Rattle.pb_bytecode_program.specs.Accepted.{IsCovered, CoversEach, CoversLoops}
use Rattle.pb_bytecode_program.proofs.Ints.{calc_within, negated_within, absolute_within}
use Rattle.pb_bytecode_program.proofs.Rules.{divisor}
use Rattle.pb_bytecode_program.specs.declared.instruction.Arithmetic.{Arithmetic}
use Rattle.pb_bytecode_program.specs.declared.instruction.Arithmetic.TheVariants as arithmetic
use Rattle.pb_bytecode_program.specs.declared.instruction.Comparison.TheVariants as comparison
use Rattle.pb_fixpoint_trees.specs.declared.junction.Junction.TheVariants as junction
use Rattle.pb_bytecode_program.specs.declared.instruction.Equality.TheVariants as equality
use Rattle.pb_bytecode_program.specs.declared.instruction.Op.{Op}
use Rattle.pb_bytecode_program.specs.declared.instruction.Op.TheVariants as op
use Rattle.pb_normal.specs.Normal.{Term, Number, Slot, Negative, Absolute, Successor, Predecessor, Binary, Maximum, Minimum, Choice, Recognised}
use Rattle.pb_assembler_scheme.specs.Pieces.{Piece, Plain, Then, Choose}
use Rattle.pb_assembler_scheme.specs.Scheme.{data_piece, in_order, swapped}
use Rattle.pb_assembler_scheme.specs.Limits.{one_kept, binary_operands, term_operands}
use Rattle.pb_assembler_scheme.proofs.Tables.{Flows, Passes}

-- ---- what instructions make of two operands

-- two whole numbers, whose result fits
abbrev pub Computes : Arithmetic → AbstractValue → AbstractValue → AbstractValue → Type 0
Computes c (abstract.Int l h) (abstract.Int m n) v =
    ((has_divisor c && int_lt m (pos 1)) ≡ false) × (fits64 (interval_of c l h m n).0 (interval_of c l h m n).1 ≡ true)
    × (v ≡ abstract.Int (interval_of c l h m n).0 (interval_of c l h m n).1)
Computes c a b v = ⊥

abbrev pub Compares : AbstractValue → AbstractValue → AbstractValue → Type 0
Compares (abstract.Int l h) (abstract.Int m n) v = v ≡ abstract.Bool
Compares a b v = ⊥

abbrev pub Connects : AbstractValue → AbstractValue → AbstractValue → Type 0
Connects abstract.Bool abstract.Bool v = v ≡ abstract.Bool
Connects a b v = ⊥

abbrev pub Makes : Op → AbstractValue → AbstractValue → AbstractValue → Type 0
Makes (op.Arithmetic c) a b v = Computes c a b v
Makes (op.Compare o) a b v = Compares a b v
Makes (op.Equality wanted) a b v = (same_kind a b ≡ true) × (v ≡ abstract.Bool)
Makes (op.Logic c) a b v = Connects a b v
Makes i a b v = ⊥

abbrev pub instruction_of : Operator → Op
instruction_of Operator.And = op.Logic junction.Conjunction
instruction_of Operator.Or = op.Logic junction.Disjunction
instruction_of Operator.Implies = op.Logic junction.Disjunction
instruction_of Operator.Equal = op.Equality equality.Equal
instruction_of Operator.NotEqual = op.Equality equality.NotEqual
instruction_of Operator.Less = op.Compare comparison.Less
instruction_of Operator.LessEqual = op.Compare comparison.LessOrEqual
instruction_of Operator.Greater = op.Compare comparison.Greater
instruction_of Operator.GreaterEqual = op.Compare comparison.GreaterOrEqual
instruction_of Operator.Plus = op.Arithmetic arithmetic.Add
instruction_of Operator.Minus = op.Arithmetic arithmetic.Sub
instruction_of Operator.Times = op.Arithmetic arithmetic.Mul
instruction_of Operator.Div = op.Arithmetic arithmetic.Div
instruction_of Operator.Mod = op.Arithmetic arithmetic.Mod

-- a place of a sort with n enumerators
pub record IsEnumerator (sorts : List ℕ) (s i : ℕ) : Type 0 where
  pub count : ℕ
  pub declared : slice_get sorts s ≡ Some count
  pub below : i < count

pub record IsWhole (Typed : AbstractValue → Type 0) (low high : ℤ → ℤ → ℤ) (v : AbstractValue) : Type 0 where
  pub l : ℤ
  pub h : ℤ
  pub operand : Typed (abstract.Int l h)
  pub fits : fits64 (low l h) (high l h) ≡ true
  pub result : v ≡ abstract.Int (low l h) (high l h)

-- ---- the rules of kinds and intervals, for slots of which this is known

abbrev pub one : AbstractValue
one = abstract.Int (pos 1) (pos 1)

abbrev pub Typed : List ℕ → List (ℕ × AbstractValue) → List AbstractValue → Term → AbstractValue → Type 0
Typed sorts ls ps (Term.Truth b) v = v ≡ abstract.Bool
Typed sorts ls ps (Number n) v = v ≡ abstract.Int (pos n) (pos n)
Typed sorts ls ps (Term.Enumerator s i) v = (e : IsEnumerator sorts s i) × (v ≡ abstract.Enum s e.count)
Typed sorts ls ps (Slot i) v = abstract_slot ls ps i ≡ Some v
Typed sorts ls ps (Term.Not x) v = Typed sorts ls ps x abstract.Bool × (v ≡ abstract.Bool)
Typed sorts ls ps (Negative x) v = IsWhole (λ a. Typed sorts ls ps x a) (λ l h. neg_ℤ h) (λ l h. neg_ℤ l) v
Typed sorts ls ps (Absolute x) v = IsWhole (λ a. Typed sorts ls ps x a) (λ l h. (absolute_interval l h).0) (λ l h. (absolute_interval l h).1) v
Typed sorts ls ps (Successor x) v = (a : AbstractValue) × Typed sorts ls ps x a × Makes (op.Arithmetic arithmetic.Add) a one v
Typed sorts ls ps (Predecessor x) v = (a : AbstractValue) × Typed sorts ls ps x a × Makes (op.Arithmetic arithmetic.Sub) a one v
Typed sorts ls ps (Binary o x y) v = (a : AbstractValue) × (b : AbstractValue) × Typed sorts ls ps x a × Typed sorts ls ps y b × Makes (instruction_of o) a b v
Typed sorts ls ps (Maximum x y) v = (a : AbstractValue) × (b : AbstractValue) × Typed sorts ls ps x a × Typed sorts ls ps y b × Makes (op.Arithmetic arithmetic.Max) a b v
Typed sorts ls ps (Minimum x y) v = (a : AbstractValue) × (b : AbstractValue) × Typed sorts ls ps x a × Typed sorts ls ps y b × Makes (op.Arithmetic arithmetic.Min) a b v
Typed sorts ls ps (Choice c x y) v =
    Typed sorts ls ps c abstract.Bool
    × ((a : AbstractValue) × Typed sorts ls ps x a × Covers a v)
    × ((b : AbstractValue) × Typed sorts ls ps y b × Covers b v)
Typed sorts ls ps (Recognised s i x) v =
    (a : AbstractValue) × (e : IsEnumerator sorts s i) × Typed sorts ls ps x a × (same_kind a (abstract.Enum s e.count) ≡ true) × (v ≡ abstract.Bool)

-- ---- no interval is empty

param_solid : (ps : List AbstractValue) (i : ℕ) (s : AbstractValue) → CoversEach ps ps → slice_get ps i ≡ Some s → Covers s s
param_solid [] i s c e = cc
param_solid (p ∷ ps) zero s c e = let k : p ≡ s = cc in subst (λ t. Covers t t) k c.0
param_solid (p ∷ ps) (suc i) s c e = param_solid ps i s c.1 e

slot_solid : (ls : List (ℕ × AbstractValue)) (ps : List AbstractValue) (i : ℕ) (s : AbstractValue) → CoversLoops ls ls → CoversEach ps ps → abstract_slot ls ps i ≡ Some s → Covers s s
slot_solid [] ps i s cl cp e = param_solid ps i s cp e
slot_solid (l ∷ ls) ps i s cl cp e = by (i == l.0) e (slot_solid ls ps i s cl.2 cp)
  where
    by : (b : Bool) → cond b (Some l.1) (abstract_slot ls ps i) ≡ Some s → (abstract_slot ls ps i ≡ Some s → Covers s s) → Covers s s
    by true e go = let k : l.1 ≡ s = cc in subst (λ t. Covers t t) k cl.1
    by false e go = go e

pub covered_solid : (s t : AbstractValue) → Covers s t → Covers t t
covered_solid abstract.Bool abstract.Bool c = tt
covered_solid (abstract.Int l h) (abstract.Int m k) c = let a = c.0 in let b = c.1 in let d = c.2 in (omega (arith, ints), omega (arith, ints), omega (arith, ints))
covered_solid (abstract.Enum s n) (abstract.Enum t m) c = (refl, omega arith)
covered_solid abstract.Bool (abstract.Int m k) c = absurd c
covered_solid abstract.Bool (abstract.Enum t m) c = absurd c
covered_solid (abstract.Int l h) abstract.Bool c = absurd c
covered_solid (abstract.Int l h) (abstract.Enum t m) c = absurd c
covered_solid (abstract.Enum s n) abstract.Bool c = absurd c
covered_solid (abstract.Enum s n) (abstract.Int m k) c = absurd c

computed_solid : (c : Arithmetic) (a b v : AbstractValue) → Covers a a → Covers b b → Computes c a b v → Covers v v
computed_solid c (abstract.Int l h) (abstract.Int m n) v ca cb t =
    let x = ca.1 in
    let y = cb.1 in
    let w = calc_within c l m l h m n ca.0 x cb.0 y (divisor (has_divisor c) m t.0) in
    let u = w.0 in
    let z = w.1 in
    subst (λ s. Covers s s) (sym t.2) (omega (arith, ints), omega (arith, ints), omega (arith, ints))
computed_solid c abstract.Bool b v ca cb t = absurd t
computed_solid c (abstract.Enum s n) b v ca cb t = absurd t
computed_solid c (abstract.Int l h) abstract.Bool v ca cb t = absurd t
computed_solid c (abstract.Int l h) (abstract.Enum s n) v ca cb t = absurd t

truth_solid : (v : AbstractValue) → v ≡ abstract.Bool → Covers v v
truth_solid v e = subst (λ s. Covers s s) (sym e) tt

compared_solid : (a b v : AbstractValue) → Compares a b v → Covers v v
compared_solid (abstract.Int l h) (abstract.Int m n) v t = truth_solid v t
compared_solid abstract.Bool b v t = absurd t
compared_solid (abstract.Enum s n) b v t = absurd t
compared_solid (abstract.Int l h) abstract.Bool v t = absurd t
compared_solid (abstract.Int l h) (abstract.Enum s n) v t = absurd t

connected_solid : (a b v : AbstractValue) → Connects a b v → Covers v v
connected_solid abstract.Bool abstract.Bool v t = truth_solid v t
connected_solid abstract.Bool (abstract.Int l h) v t = absurd t
connected_solid abstract.Bool (abstract.Enum s n) v t = absurd t
connected_solid (abstract.Int l h) b v t = absurd t
connected_solid (abstract.Enum s n) b v t = absurd t

made_solid : (o : Operator) (a b v : AbstractValue) → Covers a a → Covers b b → Makes (instruction_of o) a b v → Covers v v
made_solid Operator.And a b v ca cb t = connected_solid a b v t
made_solid Operator.Or a b v ca cb t = connected_solid a b v t
made_solid Operator.Implies a b v ca cb t = connected_solid a b v t
made_solid Operator.Equal a b v ca cb t = truth_solid v t.1
made_solid Operator.NotEqual a b v ca cb t = truth_solid v t.1
made_solid Operator.Less a b v ca cb t = compared_solid a b v t
made_solid Operator.LessEqual a b v ca cb t = compared_solid a b v t
made_solid Operator.Greater a b v ca cb t = compared_solid a b v t
made_solid Operator.GreaterEqual a b v ca cb t = compared_solid a b v t
made_solid Operator.Plus a b v ca cb t = computed_solid arithmetic.Add a b v ca cb t
made_solid Operator.Minus a b v ca cb t = computed_solid arithmetic.Sub a b v ca cb t
made_solid Operator.Times a b v ca cb t = computed_solid arithmetic.Mul a b v ca cb t
made_solid Operator.Div a b v ca cb t = computed_solid arithmetic.Div a b v ca cb t
made_solid Operator.Mod a b v ca cb t = computed_solid arithmetic.Mod a b v ca cb t

one_solid : Covers one one
one_solid = (omega (arith, ints), omega (arith, ints), omega (arith, ints))

module _ (sorts : List ℕ) (ls : List (ℕ × AbstractValue)) (ps : List AbstractValue) (cl : CoversLoops ls ls) (cp : CoversEach ps ps) where
  pub solid : (t : Term) (v : AbstractValue) → Typed sorts ls ps t v → Covers v v
  solid (Term.Truth b) v t = truth_solid v t
  solid (Number n) v t = subst (λ s. Covers s s) (sym t) (omega (arith, ints), omega (arith, ints), omega (arith, ints))
  solid (Term.Enumerator s i) v t = subst (λ s. Covers s s) (sym t.1) (refl, omega arith)
  solid (Slot i) v t = slot_solid ls ps i v cl cp t
  solid (Term.Not x) v t = truth_solid v t.1
  solid (Negative x) v t =
      let c = solid x (abstract.Int t.l t.h) t.operand in
      let w = negated_within t.l t.l t.h c.0 c.1 in
      let a = w.0 in
      let b = w.1 in
      subst (λ s. Covers s s) (sym t.result) (omega (arith, ints), omega (arith, ints), omega (arith, ints))
  solid (Absolute x) v t =
      let c = solid x (abstract.Int t.l t.h) t.operand in
      let w = absolute_within t.l t.l t.h c.0 c.1 in
      let a = w.0 in
      let b = w.1 in
      subst (λ s. Covers s s) (sym t.result) (omega (arith, ints), omega (arith, ints), omega (arith, ints))
  solid (Successor x) v t = computed_solid arithmetic.Add t.0 one v (solid x t.0 t.1) one_solid t.2
  solid (Predecessor x) v t = computed_solid arithmetic.Sub t.0 one v (solid x t.0 t.1) one_solid t.2
  solid (Binary o x y) v t = made_solid o t.0 t.1 v (solid x t.0 t.2) (solid y t.1 t.3) t.4
  solid (Maximum x y) v t = computed_solid arithmetic.Max t.0 t.1 v (solid x t.0 t.2) (solid y t.1 t.3) t.4
  solid (Minimum x y) v t = computed_solid arithmetic.Min t.0 t.1 v (solid x t.0 t.2) (solid y t.1 t.3) t.4
  solid (Choice c x y) v t = covered_solid t.1.0 v t.1.2
  solid (Recognised s i x) v t = truth_solid v t.4

-- ---- the code of a term

module _ (p : Program) (k : AbstractState) (self : IsCovered k k) where
  abbrev pub topped : List AbstractValue → AbstractState
  topped os = record k { operands = os }

  pub covers_with : (os ts : List AbstractValue) → CoversEach os ts → IsCovered (topped os) (topped ts)
  covers_with os ts h = record { operands = h; operands_below = refl; parameters = self.parameters; loops = self.loops; brackets = refl; brackets_below = refl; roots = refl }

  abbrev pub height : List AbstractValue → ℕ
  height os = length os + k.operands_below

  -- an instruction that pushes
  gives : (i : Op) (from os : List AbstractValue) (v v' : AbstractValue) → loop_effect i ≡ Straight → CoversEach os os → Covers v v' → height os < 32
      → ((home : Option AbstractState) (q : ℕ) → transfer p home q i (topped from) ≡ abstract_push q (topped from) os v) → Passes p i (topped from) (topped (v' ∷ os))
  gives i from os v v' t co c low way = record {
    straight = t;
    next = topped (v ∷ os);
    way = λ home q. way home q ∙ ap (λ b. cond b (to_next_place q (topped (v ∷ os))) None) (lt-ltb (length os + k.operands_below) 32 low);
    covered = covers_with (v ∷ os) (v' ∷ os) (c, co);
  }

  given_int : (q : ℕ) (from os : List AbstractValue) (i : ℤ × ℤ) → fits64 i.0 i.1 ≡ true → abstract_push_int q (topped from) os i ≡ abstract_push q (topped from) os (abstract.Int i.0 i.1)
  given_int q from os i f = ap (λ b. cond b (abstract_push q (topped from) os (abstract.Int i.0 i.1)) None) f

  -- with so many operands of its own, the piece puts on top what is known
  abbrev pub Yields : Piece → AbstractValue → ℕ → Type 0
  Yields x v n = (out : AbstractState) (os : List AbstractValue) (v' : AbstractValue) → CoversEach os os → n + height os ≤ 32 → Covers v v' → Flows p x out (topped os) (topped (v' ∷ os))

  made : (i : Op) (a b v : AbstractValue) → Makes i a b v
      → (os : List AbstractValue) (home : Option AbstractState) (q : ℕ)
      → transfer p home q i (topped (b ∷ a ∷ os)) ≡ abstract_push q (topped (b ∷ a ∷ os)) os v
  made (op.Arithmetic c) (abstract.Int l h) (abstract.Int m n) v t os home q =
      let from = abstract.Int m n ∷ abstract.Int l h ∷ os in
      ap (λ b. cond b None (abstract_push_int q (topped from) os (interval_of c l h m n))) t.0
      ∙ given_int q from os (interval_of c l h m n) t.1 ∙ ap (abstract_push q (topped from) os) (sym t.2)
  made (op.Compare o) (abstract.Int l h) (abstract.Int m n) v t os home q = ap (abstract_push q (topped (abstract.Int m n ∷ abstract.Int l h ∷ os)) os) (sym t)
  made (op.Equality wanted) a b v t os home q =
      ap (λ c. cond c (abstract_push q (topped (b ∷ a ∷ os)) os abstract.Bool) None) t.0 ∙ ap (abstract_push q (topped (b ∷ a ∷ os)) os) (sym t.1)
  made (op.Logic c) abstract.Bool abstract.Bool v t os home q = ap (abstract_push q (topped (abstract.Bool ∷ abstract.Bool ∷ os)) os) (sym t)
  made i a b v t os home q = absurd t

  straight : (i : Op) (a b v : AbstractValue) → Makes i a b v → loop_effect i ≡ Straight
  straight (op.Arithmetic c) a b v t = refl
  straight (op.Compare o) a b v t = refl
  straight (op.Equality wanted) a b v t = refl
  straight (op.Logic c) a b v t = refl
  straight i a b v t = absurd t

  -- two pieces and an instruction on both values
  both_yield : (i : Op) (x y : Piece) (a b v : AbstractValue) (m n : ℕ) → Covers a a → Covers b b → Makes i a b v → Yields x a m → Yields y b n → Yields (in_order i x y) v (one_kept m n)
  both_yield i x y a b v m n ca cb t hx hy out os v' co low c = (
    topped (a ∷ os),
    hx out os a co (omega arith) ca,
    (
      topped (b ∷ a ∷ os),
      hy out (a ∷ os) b (ca, co) (omega arith) cb,
      gives i (b ∷ a ∷ os) os v v' (straight i a b v t) co c (omega arith) (λ home q. made i a b v t os home q),
    ),
  )

  one_yields : (i : Op) (x : Piece) (a v : AbstractValue) (n : ℕ) → loop_effect i ≡ Straight → 1 ≤ n → Covers a a
      → ((os : List AbstractValue) (home : Option AbstractState) (q : ℕ)
      → transfer p home q i (topped (a ∷ os)) ≡ abstract_push q (topped (a ∷ os)) os v) → Yields x a n → Yields (Then x (Plain i)) v n
  one_yields i x a v n s some ca way hx out os v' co low c = (
    topped (a ∷ os),
    hx out os a co low ca,
    gives i (a ∷ os) os v v' s co c (omega arith) (λ home q. way os home q),
  )

  pushed : (i : Op) (v : AbstractValue) → loop_effect i ≡ Straight
      → ((os : List AbstractValue) (home : Option AbstractState) (q : ℕ)
      → transfer p home q i (topped os) ≡ abstract_push q (topped os) os v) → Yields (Plain i) v 1
  pushed i v s way out os v' co low c = gives i os os v v' s co c (omega arith) (λ home q. way os home q)

  choice_yields : (c x y : Piece) (a b v : AbstractValue) (l m n : ℕ) → Covers a v → Covers b v
      → Yields c abstract.Bool l → Yields x a m → Yields y b n → Yields (Then c (Choose false x y)) v (max l (max m n))
  choice_yields c x y a b v l m n ca cb hc hx hy out os v' co low cv =
      let up : Covers v' v' = covered_solid v v' cv in (
        topped (abstract.Bool ∷ os),
        hc out os abstract.Bool co (omega arith) tt,
        record {
          others = os;
          operands = refl;
          rest = (
            (topped os, topped (v' ∷ os), covers_with os os co, hx out os v' co (omega arith) (covers_through a v v' ca cv), covers_with (v' ∷ os) (v' ∷ os) (up, co)),
            (topped os, covers_with os os co, hy out os v' co (omega arith) (covers_through b v v' cb cv)),
          );
        },
      )

  abbrev TypedHere : Term → AbstractValue → Type 0
  TypedHere t v = Typed p.sorts k.loops k.parameters t v

  here_solid : (t : Term) (v : AbstractValue) → TypedHere t v → Covers v v
  here_solid t v h = solid p.sorts k.loops k.parameters self.loops self.parameters t v h

  binary_some : (o : Operator) (m n : ℕ) → 1 ≤ m → 1 ≤ n → 1 ≤ binary_operands o m n
  binary_some Operator.And m n a b = omega arith
  binary_some Operator.Or m n a b = omega arith
  binary_some Operator.Implies m n a b = omega arith
  binary_some o m n a b = omega arith

  pub some_operands : (t : Term) → 1 ≤ term_operands t
  some_operands (Term.Truth b) = omega arith
  some_operands (Number n) = omega arith
  some_operands (Term.Enumerator s i) = omega arith
  some_operands (Slot s) = omega arith
  some_operands (Term.Not x) = some_operands x
  some_operands (Negative x) = some_operands x
  some_operands (Absolute x) = some_operands x
  some_operands (Successor x) = omega (arith, some_operands x)
  some_operands (Predecessor x) = omega (arith, some_operands x)
  some_operands (Binary o x y) = binary_some o (term_operands x) (term_operands y) (some_operands x) (some_operands y)
  some_operands (Maximum x y) = omega (arith, some_operands x)
  some_operands (Minimum x y) = omega (arith, some_operands x)
  some_operands (Choice c x y) = omega (arith, some_operands c)
  some_operands (Recognised s i x) = omega (arith, some_operands x)

  enumerator_pushed : (s i : ℕ) (e : IsEnumerator p.sorts s i) → Yields (Plain (op.PushEnum s i)) (abstract.Enum s e.count) 1
  enumerator_pushed s i e = pushed (op.PushEnum s i) (abstract.Enum s e.count) refl (λ os home q.
      ap (λ o. cond (Transfer.enum_fits o i) (abstract_push q (topped os) os (abstract.Enum s (Transfer.count_or_zero o))) None) e.declared
      ∙ ap (λ b. cond b (abstract_push q (topped os) os (abstract.Enum s e.count)) None) (lt-ltb i e.count e.below))

  negated_yields : (x : Piece) (v : AbstractValue) (n : ℕ) → 1 ≤ n → v ≡ abstract.Bool → Yields x abstract.Bool n → Yields (Then x (Plain op.Not)) v n
  negated_yields x v n some e hx = one_yields op.Not x abstract.Bool v n refl some tt (λ os home q. ap (abstract_push q (topped (abstract.Bool ∷ os)) os) (sym e)) hx

  -- operands of a connective, the second one below
  connected_yield : (o : _) (x y : Piece) (a b v : AbstractValue) (m n : ℕ) → Connects a b v → Yields x a m → Yields y b n → Yields (swapped (op.Logic o) x y) v (one_kept n m)
  connected_yield o x y abstract.Bool abstract.Bool v m n t hx hy = both_yield (op.Logic o) y x abstract.Bool abstract.Bool v n m tt tt t hy hx
  connected_yield o x y abstract.Bool (abstract.Int l h) v m n t hx hy = absurd t
  connected_yield o x y abstract.Bool (abstract.Enum l h) v m n t hx hy = absurd t
  connected_yield o x y (abstract.Int l h) b v m n t hx hy = absurd t
  connected_yield o x y (abstract.Enum l h) b v m n t hx hy = absurd t

  implied_yield : (x y : Piece) (a b v : AbstractValue) (m n : ℕ) → 1 ≤ m → Connects a b v → Yields x a m → Yields y b n
      → Yields (swapped (op.Logic junction.Disjunction) (Then x (Plain op.Not)) y) v (one_kept n m)
  implied_yield x y abstract.Bool abstract.Bool v m n some t hx hy =
      connected_yield junction.Disjunction (Then x (Plain op.Not)) y abstract.Bool abstract.Bool v m n t (negated_yields x abstract.Bool m some refl hx) hy
  implied_yield x y abstract.Bool (abstract.Int l h) v m n some t hx hy = absurd t
  implied_yield x y abstract.Bool (abstract.Enum l h) v m n some t hx hy = absurd t
  implied_yield x y (abstract.Int l h) b v m n some t hx hy = absurd t
  implied_yield x y (abstract.Enum l h) b v m n some t hx hy = absurd t

  binary_yields : (o : Operator) (x y : Term) (a b v : AbstractValue) → Covers a a → Covers b b → Makes (instruction_of o) a b v
      → Yields (data_piece x) a (term_operands x) → Yields (data_piece y) b (term_operands y) → Yields (data_piece (Binary o x y)) v (term_operands (Binary o x y))
  binary_yields Operator.And x y a b v ca cb t hx hy = connected_yield junction.Conjunction (data_piece x) (data_piece y) a b v (term_operands x) (term_operands y) t hx hy
  binary_yields Operator.Or x y a b v ca cb t hx hy = connected_yield junction.Disjunction (data_piece x) (data_piece y) a b v (term_operands x) (term_operands y) t hx hy
  binary_yields Operator.Implies x y a b v ca cb t hx hy = implied_yield (data_piece x) (data_piece y) a b v (term_operands x) (term_operands y) (some_operands x) t hx hy
  binary_yields Operator.Equal x y a b v ca cb t hx hy = both_yield (op.Equality equality.Equal) (data_piece x) (data_piece y) a b v (term_operands x) (term_operands y) ca cb t hx hy
  binary_yields Operator.NotEqual x y a b v ca cb t hx hy = both_yield (op.Equality equality.NotEqual) (data_piece x) (data_piece y) a b v (term_operands x) (term_operands y) ca cb t hx hy
  binary_yields Operator.Less x y a b v ca cb t hx hy = both_yield (op.Compare comparison.Less) (data_piece x) (data_piece y) a b v (term_operands x) (term_operands y) ca cb t hx hy
  binary_yields Operator.LessEqual x y a b v ca cb t hx hy = both_yield (op.Compare comparison.LessOrEqual) (data_piece x) (data_piece y) a b v (term_operands x) (term_operands y) ca cb t hx hy
  binary_yields Operator.Greater x y a b v ca cb t hx hy = both_yield (op.Compare comparison.Greater) (data_piece x) (data_piece y) a b v (term_operands x) (term_operands y) ca cb t hx hy
  binary_yields Operator.GreaterEqual x y a b v ca cb t hx hy = both_yield (op.Compare comparison.GreaterOrEqual) (data_piece x) (data_piece y) a b v (term_operands x) (term_operands y) ca cb t hx hy
  binary_yields Operator.Plus x y a b v ca cb t hx hy = both_yield (op.Arithmetic arithmetic.Add) (data_piece x) (data_piece y) a b v (term_operands x) (term_operands y) ca cb t hx hy
  binary_yields Operator.Minus x y a b v ca cb t hx hy = both_yield (op.Arithmetic arithmetic.Sub) (data_piece x) (data_piece y) a b v (term_operands x) (term_operands y) ca cb t hx hy
  binary_yields Operator.Times x y a b v ca cb t hx hy = both_yield (op.Arithmetic arithmetic.Mul) (data_piece x) (data_piece y) a b v (term_operands x) (term_operands y) ca cb t hx hy
  binary_yields Operator.Div x y a b v ca cb t hx hy = both_yield (op.Arithmetic arithmetic.Div) (data_piece x) (data_piece y) a b v (term_operands x) (term_operands y) ca cb t hx hy
  binary_yields Operator.Mod x y a b v ca cb t hx hy = both_yield (op.Arithmetic arithmetic.Mod) (data_piece x) (data_piece y) a b v (term_operands x) (term_operands y) ca cb t hx hy

  one_pushed : Yields (Plain (op.PushInt (pos 1))) one 1
  one_pushed = pushed (op.PushInt (pos 1)) one refl (λ os home q. refl)

  -- a well-typed term's code puts on top what is known of its value
  pub yields : (t : Term) (v : AbstractValue) → TypedHere t v → Yields (data_piece t) v (term_operands t)
  yields (Term.Truth b) v t = pushed (op.PushBool b) v refl (λ os home q. ap (abstract_push q (topped os) os) (sym t))
  yields (Number n) v t = pushed (op.PushInt (pos n)) v refl (λ os home q. ap (abstract_push q (topped os) os) (sym t))
  yields (Term.Enumerator s i) v t = subst (λ u. Yields (Plain (op.PushEnum s i)) u 1) (sym t.1) (enumerator_pushed s i t.0)
  yields (Slot i) v t = pushed (op.Get i) v refl (λ os home q. ap (λ (o : Option AbstractValue). Transfer.with_abstract_slot o (λ s. abstract_push q (topped os) os s)) t)
  yields (Term.Not x) v t = negated_yields (data_piece x) v (term_operands x) (some_operands x) t.1 (yields x abstract.Bool t.0)
  yields (Negative x) v t =
      one_yields op.Negate (data_piece x) (abstract.Int t.l t.h) v (term_operands x) refl (some_operands x) (here_solid x _ t.operand)
      (λ os home q. given_int q (abstract.Int t.l t.h ∷ os) os (neg_ℤ t.h, neg_ℤ t.l) t.fits ∙ ap (abstract_push q (topped (abstract.Int t.l t.h ∷ os)) os) (sym t.result)) (yields x _ t.operand)
  yields (Absolute x) v t =
      one_yields op.Absolute (data_piece x) (abstract.Int t.l t.h) v (term_operands x) refl (some_operands x) (here_solid x _ t.operand)
      (λ os home q. given_int q (abstract.Int t.l t.h ∷ os) os (absolute_interval t.l t.h) t.fits ∙ ap (abstract_push q (topped (abstract.Int t.l t.h ∷ os)) os) (sym t.result)) (yields x _ t.operand)
  yields (Successor x) v t =
      both_yield (op.Arithmetic arithmetic.Add) (data_piece x) (Plain (op.PushInt (pos 1))) t.0 one v (term_operands x)
      1 (here_solid x t.0 t.1) one_solid t.2 (yields x t.0 t.1) one_pushed
  yields (Predecessor x) v t =
      both_yield (op.Arithmetic arithmetic.Sub) (data_piece x) (Plain (op.PushInt (pos 1))) t.0 one v (term_operands x)
      1 (here_solid x t.0 t.1) one_solid t.2 (yields x t.0 t.1) one_pushed
  yields (Binary o x y) v t = binary_yields o x y t.0 t.1 v (here_solid x t.0 t.2) (here_solid y t.1 t.3) t.4 (yields x t.0 t.2) (yields y t.1 t.3)
  yields (Maximum x y) v t =
      both_yield (op.Arithmetic arithmetic.Max) (data_piece x) (data_piece y) t.0 t.1 v (term_operands x)
      (term_operands y) (here_solid x t.0 t.2) (here_solid y t.1 t.3) t.4 (yields x t.0 t.2) (yields y t.1 t.3)
  yields (Minimum x y) v t =
      both_yield (op.Arithmetic arithmetic.Min) (data_piece x) (data_piece y) t.0 t.1 v (term_operands x)
      (term_operands y) (here_solid x t.0 t.2) (here_solid y t.1 t.3) t.4 (yields x t.0 t.2) (yields y t.1 t.3)
  yields (Choice c x y) v t =
      choice_yields (data_piece c) (data_piece x) (data_piece y) t.1.0 t.2.0 v (term_operands c) (term_operands x)
      (term_operands y) t.1.2 t.2.2 (yields c abstract.Bool t.0) (yields x t.1.0 t.1.1) (yields y t.2.0 t.2.1)
  yields (Recognised s i x) v t =
      both_yield (op.Equality equality.Equal) (data_piece x) (Plain (op.PushEnum s i)) t.0 (abstract.Enum s t.1.count) v
      (term_operands x) 1 (here_solid x t.0 t.2) (refl, omega arith) (t.3, t.4) (yields x t.0 t.2) (enumerator_pushed s i t.1)
