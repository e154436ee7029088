-- The transfer function is monotone: where less is known and a rule is met, it is met where more is known, and what
-- flows there is covered by what flows here.
use Rattle.std.proofs.Common.{◌≡◌, ℕ, zero, suc, ◌+◌, ◌-◌, ◌≤◌, Bool, true, false, cond, not, ◌&&◌, List, [], ◌∷◌, ◌++◌, length, Option, Some, None, refl, sym, ap, ◌∙◌, subst, arith}
use Rattle.std.specs.Prelude.{ℤ, pos, neg_ℤ, ◌≤ℤ◌, int_lt, int_le, slice_get, nat_lt, nat_le, ◌==◌, reverse}
use Rattle.std.specs.Int.{int_min, int_max}
use lib.Signed.{≤ℤ_refl}
use Rattle.std.specs.List.{AllByRecursion, Contains}
use Rattle.std.proofs.lemmas.List.Elements.{All-contains_itself, recursion_from_All}
use Rattle.std.proofs.lemmas.Int.{ints, clamps}
use Rattle.std.proofs.lemmas.Bool.{and_parts, and_from, eqb-true, eq-eqb, leb-true, le-leb, not_from_false, not_from_true, both_ways, false_from_ne_true}
use Rattle.pb_bytecode_program.specs.Values.{is_inhabited, has_divisor, fits64}
use Rattle.pb_bytecode_program.specs.Abstract.{Covers, abstraction_of, same_kind}
use Rattle.pb_bytecode_program.specs.declared.domain.AbstractValue.{AbstractValue}
use Rattle.pb_bytecode_program.specs.declared.domain.AbstractValue.TheVariants as abstract
use Rattle.pb_bytecode_program.specs.Machine.{Program, carrier_of}
use Rattle.pb_bytecode_program.specs.Transfer.{AbstractState, Edge, Flow, abstract_pop, abstract_pop_int, abstract_pop_bool, to_next_place, abstract_push, abstract_push_int, accepts, abstract_pop_args, abstract_slot, with_abstract_slot, with_interval, set_param, among, set_loop, set_slot, abstract_root, abstract_close, abstract_end, abstract_loop, abstract_next, when, range_edges, enum_fits, count_or_zero, abstract_call, transfer}
use Rattle.pb_bytecode_program.specs.Accepted.{CoversEach, CoversLoops, IsCovered}
use Rattle.pb_bytecode_program.specs.Monotone.{HasOrderedRange, IsCoveredAtLoop, IsCoveredEdge, TransferIsMonotone}
use Rattle.pb_bytecode_program.proofs.Intervals.{Inside, interval_less, absolute_less, fits_less}
use Rattle.pb_bytecode_program.proofs.Rules.{divisor, no_divisor}
use Rattle.pb_bytecode_program.proofs.Ints.{le_true, from_le}
use Rattle.pb_sorts.specs.declared.carrier.Carrier.{Carrier}
use Rattle.pb_sorts.specs.declared.carrier.Carrier.TheVariants as carrier
use Rattle.pb_bytecode_program.specs.declared.instruction.Arithmetic.{Arithmetic}
use Rattle.pb_bytecode_program.specs.declared.instruction.Op.{Op}
use Rattle.pb_bytecode_program.specs.declared.instruction.Op.TheVariants as op

abbrev pub AllEdges : (ℕ → AbstractState → Type 0) → List Edge → Type 0
AllEdges P [] = Unit {0}
AllEdges P (e ∷ es) = P e.to e.state × AllEdges P es

-- the rule is met, and P holds of what flows
abbrev pub Holds : (ℕ → AbstractState → Type 0) → Flow → Type 0
Holds P None = ⊥
Holds P (Some es) = AllEdges P es

pub self_covers : (b : Carrier) → is_inhabited b ≡ true → Covers (abstraction_of b) (abstraction_of b)
self_covers carrier.Bool e = tt
self_covers (carrier.Enum enum) e = (refl, omega arith)
self_covers (carrier.Range range) e = (≤ℤ_refl range.low, le_true range.low range.high e, ≤ℤ_refl range.high)

-- ---- lists

each_length : (ss ts : List AbstractValue) → CoversEach ss ts → length ss ≡ length ts
each_length [] [] c = refl
each_length [] (t ∷ ts) c = absurd c
each_length (s ∷ ss) [] c = absurd c
each_length (s ∷ ss) (t ∷ ts) c = ap suc (each_length ss ts c.1)

loops_same_length : (ls ms : List (ℕ × AbstractValue)) → CoversLoops ls ms → length ls ≡ length ms
loops_same_length [] [] c = refl
loops_same_length [] (t ∷ ts) c = absurd c
loops_same_length (s ∷ ss) [] c = absurd c
loops_same_length (s ∷ ss) (t ∷ ts) c = ap suc (loops_same_length ss ts c.2)

among_same : (ls ms : List (ℕ × AbstractValue)) (i : ℕ) → CoversLoops ls ms → among ls i ≡ among ms i
among_same [] [] i c = refl
among_same [] (t ∷ ts) i c = absurd c
among_same (s ∷ ss) [] i c = absurd c
among_same (s ∷ ss) (t ∷ ts) i c = rw (c.0, among_same ss ts i c.2)

abbrev SlotCovers : Option AbstractValue → Option AbstractValue → Type 0
SlotCovers (Some s) (Some t) = Covers s t
SlotCovers None None = Unit {0}
SlotCovers (Some s) None = ⊥
SlotCovers None (Some t) = ⊥

param_covers : (ss ts : List AbstractValue) (i : ℕ) → CoversEach ss ts → SlotCovers (slice_get ss i) (slice_get ts i)
param_covers [] [] i c = tt
param_covers [] (t ∷ ts) i c = absurd c
param_covers (s ∷ ss) [] i c = absurd c
param_covers (s ∷ ss) (t ∷ ts) zero c = c.0
param_covers (s ∷ ss) (t ∷ ts) (suc i) c = param_covers ss ts i c.1

slot_covers : (ls ms : List (ℕ × AbstractValue)) (ss ts : List AbstractValue) (i : ℕ) → CoversLoops ls ms → CoversEach ss ts → SlotCovers (abstract_slot ls ss i) (abstract_slot ms ts i)
slot_covers [] [] ss ts i c d = param_covers ss ts i d
slot_covers [] (m ∷ ms) ss ts i c d = absurd c
slot_covers (l ∷ ls) [] ss ts i c d = absurd c
slot_covers (l ∷ ls) (m ∷ ms) ss ts i c d = rw (c.0) (pick (i == m.0) (slot_covers ls ms ss ts i c.2 d))
  where
    pick : (b : Bool) → SlotCovers (abstract_slot ls ss i) (abstract_slot ms ts i) → SlotCovers (cond b (Some l.1) (abstract_slot ls ss i)) (cond b (Some m.1) (abstract_slot ms ts i))
    pick true h = c.1
    pick false h = h

set_covers : (ss ts : List AbstractValue) (i : ℕ) (s t : AbstractValue) → CoversEach ss ts → Covers s t → CoversEach (set_param ss i s) (set_param ts i t)
set_covers [] [] i s t c d = tt
set_covers [] (y ∷ ts) i s t c d = absurd c
set_covers (x ∷ ss) [] i s t c d = absurd c
set_covers (x ∷ ss) (y ∷ ts) zero s t c d = (d, c.1)
set_covers (x ∷ ss) (y ∷ ts) (suc i) s t c d = (c.0, set_covers ss ts i s t c.1 d)

set_loop_covers : (ls ms : List (ℕ × AbstractValue)) (i : ℕ) (s t : AbstractValue) → CoversLoops ls ms → Covers s t → CoversLoops (set_loop ls i s) (set_loop ms i t)
set_loop_covers [] [] i s t c d = tt
set_loop_covers [] (m ∷ ms) i s t c d = absurd c
set_loop_covers (l ∷ ls) [] i s t c d = absurd c
set_loop_covers (l ∷ ls) (m ∷ ms) i s t c d = pick (i == l.0) (i == m.0) (ap (λ n. i == n) c.0) (set_loop_covers ls ms i s t c.2 d)
  where
    pick : (b a : Bool) → b ≡ a → CoversLoops (set_loop ls i s) (set_loop ms i t) → CoversLoops (cond b ((l.0, s) ∷ ls) (l ∷ set_loop ls i s)) (cond a ((m.0, t) ∷ ms) (m ∷ set_loop ms i t))
    pick true true e rest = (c.0, d, c.2)
    pick true false e rest = cc
    pick false true e rest = cc
    pick false false e rest = (c.0, c.1, rest)

slot_shape_covers : (k m : AbstractState) (i : ℕ) (s t : AbstractValue) → IsCovered k m → Covers s t → IsCovered (set_slot k i s) (set_slot m i t)
slot_shape_covers k m i s t c d = pick (among k.loops i) (among m.loops i) (among_same k.loops m.loops i c.loops)
  where
    pick : (b a : Bool) → b ≡ a
        → IsCovered (cond b (record k { loops = set_loop k.loops i s }) (record k { parameters = set_param k.parameters i s }))
        (cond a (record m { loops = set_loop m.loops i t }) (record m { parameters = set_param m.parameters i t }))
    pick true true e =
        record {
          operands = c.operands;
          operands_below = c.operands_below;
          parameters = c.parameters;
          loops = set_loop_covers k.loops m.loops i s t c.loops d;
          brackets =
              c.brackets;
          brackets_below = c.brackets_below;
          roots = c.roots;
        }
    pick true false e = cc
    pick false true e = cc
    pick false false e =
        record {
          operands = c.operands;
          operands_below = c.operands_below;
          parameters = set_covers k.parameters m.parameters i s t c.parameters d;
          loops = c.loops;
          brackets =
              c.brackets;
          brackets_below = c.brackets_below;
          roots = c.roots;
        }

accepts_less : (s t : AbstractValue) (c : Carrier) → Covers s t → accepts t c ≡ true → accepts s c ≡ true
accepts_less abstract.Bool abstract.Bool c d e = e
accepts_less abstract.Bool (abstract.Int m n) c d e = absurd d
accepts_less abstract.Bool (abstract.Enum m n) c d e = absurd d
accepts_less (abstract.Int l h) abstract.Bool c d e = absurd d
accepts_less (abstract.Int l h) (abstract.Enum m n) c d e = absurd d
accepts_less (abstract.Enum l h) abstract.Bool c d e = absurd d
accepts_less (abstract.Enum l h) (abstract.Int m n) c d e = absurd d
accepts_less (abstract.Int l h) (abstract.Int m n) carrier.Bool d e = e
accepts_less (abstract.Int l h) (abstract.Int m n) (carrier.Enum enum) d e = e
accepts_less (abstract.Int l h) (abstract.Int m n) (carrier.Range range) d e =
    let two = and_parts (int_le range.low m) (int_le n range.high) e in
    let x = le_true range.low m two.0 in
    let y = le_true n range.high two.1 in
    let u = d.0 in
    let w = d.2 in
    and_from (int_le range.low l) (int_le h range.high) (from_le range.low l (omega (arith, ints))) (from_le h range.high (omega (arith, ints)))
accepts_less (abstract.Enum a b) (abstract.Enum m n) carrier.Bool d e = e
accepts_less (abstract.Enum a b) (abstract.Enum m n) (carrier.Range range) d e = e
accepts_less (abstract.Enum a b) (abstract.Enum m n) (carrier.Enum enum) d e =
    let two = and_parts (m == enum.sort) (nat_le n enum.count) e in
    let x = leb-true n enum.count two.1 in
    let y = d.1 in
    and_from (a == enum.sort) (nat_le b enum.count) (eq-eqb a enum.sort (d.0 ∙ eqb-true m enum.sort two.0)) (le-leb b enum.count (omega arith))

same_kind_less : (a b c d : AbstractValue) → Covers a c → Covers b d → same_kind c d ≡ true → same_kind a b ≡ true
same_kind_less abstract.Bool abstract.Bool abstract.Bool abstract.Bool p q e = refl
same_kind_less abstract.Bool abstract.Bool abstract.Bool (abstract.Int l4 h4) p q e = absurd q
same_kind_less abstract.Bool abstract.Bool abstract.Bool (abstract.Enum u4 n4) p q e = absurd q
same_kind_less abstract.Bool (abstract.Int l2 h2) abstract.Bool abstract.Bool p q e = absurd q
same_kind_less abstract.Bool (abstract.Int l2 h2) abstract.Bool (abstract.Int l4 h4) p q e = e
same_kind_less abstract.Bool (abstract.Int l2 h2) abstract.Bool (abstract.Enum u4 n4) p q e = absurd q
same_kind_less abstract.Bool (abstract.Enum u2 n2) abstract.Bool abstract.Bool p q e = absurd q
same_kind_less abstract.Bool (abstract.Enum u2 n2) abstract.Bool (abstract.Int l4 h4) p q e = absurd q
same_kind_less abstract.Bool (abstract.Enum u2 n2) abstract.Bool (abstract.Enum u4 n4) p q e = e
same_kind_less abstract.Bool b (abstract.Int l3 h3) d p q e = absurd p
same_kind_less abstract.Bool b (abstract.Enum u3 n3) d p q e = absurd p
same_kind_less (abstract.Int l1 h1) b abstract.Bool d p q e = absurd p
same_kind_less (abstract.Int l1 h1) abstract.Bool (abstract.Int l3 h3) abstract.Bool p q e = e
same_kind_less (abstract.Int l1 h1) abstract.Bool (abstract.Int l3 h3) (abstract.Int l4 h4) p q e = absurd q
same_kind_less (abstract.Int l1 h1) abstract.Bool (abstract.Int l3 h3) (abstract.Enum u4 n4) p q e = absurd q
same_kind_less (abstract.Int l1 h1) (abstract.Int l2 h2) (abstract.Int l3 h3) abstract.Bool p q e = absurd q
same_kind_less (abstract.Int l1 h1) (abstract.Int l2 h2) (abstract.Int l3 h3) (abstract.Int l4 h4) p q e = refl
same_kind_less (abstract.Int l1 h1) (abstract.Int l2 h2) (abstract.Int l3 h3) (abstract.Enum u4 n4) p q e = absurd q
same_kind_less (abstract.Int l1 h1) (abstract.Enum u2 n2) (abstract.Int l3 h3) abstract.Bool p q e = absurd q
same_kind_less (abstract.Int l1 h1) (abstract.Enum u2 n2) (abstract.Int l3 h3) (abstract.Int l4 h4) p q e = absurd q
same_kind_less (abstract.Int l1 h1) (abstract.Enum u2 n2) (abstract.Int l3 h3) (abstract.Enum u4 n4) p q e = e
same_kind_less (abstract.Int l1 h1) b (abstract.Enum u3 n3) d p q e = absurd p
same_kind_less (abstract.Enum u1 n1) b abstract.Bool d p q e = absurd p
same_kind_less (abstract.Enum u1 n1) b (abstract.Int l3 h3) d p q e = absurd p
same_kind_less (abstract.Enum u1 n1) abstract.Bool (abstract.Enum u3 n3) abstract.Bool p q e = e
same_kind_less (abstract.Enum u1 n1) abstract.Bool (abstract.Enum u3 n3) (abstract.Int l4 h4) p q e = absurd q
same_kind_less (abstract.Enum u1 n1) abstract.Bool (abstract.Enum u3 n3) (abstract.Enum u4 n4) p q e = absurd q
same_kind_less (abstract.Enum u1 n1) (abstract.Int l2 h2) (abstract.Enum u3 n3) abstract.Bool p q e = absurd q
same_kind_less (abstract.Enum u1 n1) (abstract.Int l2 h2) (abstract.Enum u3 n3) (abstract.Int l4 h4) p q e = e
same_kind_less (abstract.Enum u1 n1) (abstract.Int l2 h2) (abstract.Enum u3 n3) (abstract.Enum u4 n4) p q e = absurd q
same_kind_less (abstract.Enum u1 n1) (abstract.Enum u2 n2) (abstract.Enum u3 n3) abstract.Bool p q e = absurd q
same_kind_less (abstract.Enum u1 n1) (abstract.Enum u2 n2) (abstract.Enum u3 n3) (abstract.Int l4 h4) p q e = absurd q
same_kind_less (abstract.Enum u1 n1) (abstract.Enum u2 n2) (abstract.Enum u3 n3) (abstract.Enum u4 n4) p q e = eq-eqb u1 u2 (p.0 ∙ eqb-true u3 u4 e ∙ sym q.0)

-- ---- each rule

module _ (P Q : ℕ → AbstractState → Type 0) (down : (to : ℕ) (k m : AbstractState) → IsCovered k m → P to m → Q to k) where
  less_any : (ss ts : List AbstractValue) (f g : AbstractValue → List AbstractValue → Flow) → CoversEach ss ts
      → ((s t : AbstractValue) (us vs : List AbstractValue) → Covers s t → CoversEach us vs → Holds P (g t vs) → Holds Q (f s us)) → Holds P (abstract_pop ts g) → Holds Q (abstract_pop ss f)
  less_any [] [] f g c k h = absurd h
  less_any [] (t ∷ ts) f g c k h = absurd c
  less_any (s ∷ ss) [] f g c k h = absurd c
  less_any (s ∷ ss) (t ∷ ts) f g c k h = k s t ss ts c.0 c.1 h

  less_int : (ss ts : List AbstractValue) (f g : ℤ → ℤ → List AbstractValue → Flow) → CoversEach ss ts
      → ((l h m n : ℤ) (us vs : List AbstractValue) → Inside l h m n → CoversEach us vs → Holds P (g m n vs) → Holds Q (f l h us)) → Holds P (abstract_pop_int ts g) → Holds Q (abstract_pop_int ss f)
  less_int ss [] f g c k h = absurd h
  less_int ss (abstract.Bool ∷ ts) f g c k h = absurd h
  less_int ss (abstract.Enum u n ∷ ts) f g c k h = absurd h
  less_int [] (abstract.Int m n ∷ ts) f g c k h = absurd c
  less_int (abstract.Bool ∷ ss) (abstract.Int m n ∷ ts) f g c k h = absurd c.0
  less_int (abstract.Enum u v ∷ ss) (abstract.Int m n ∷ ts) f g c k h = absurd c.0
  less_int (abstract.Int l o ∷ ss) (abstract.Int m n ∷ ts) f g c k h = k l o m n ss ts c.0 c.1 h

  less_bool : (ss ts : List AbstractValue) (f g : List AbstractValue → Flow) → CoversEach ss ts
      → ((us vs : List AbstractValue) → CoversEach us vs → Holds P (g vs) → Holds Q (f us)) → Holds P (abstract_pop_bool ts g) → Holds Q (abstract_pop_bool ss f)
  less_bool ss [] f g c k h = absurd h
  less_bool ss (abstract.Int l u ∷ ts) f g c k h = absurd h
  less_bool ss (abstract.Enum u n ∷ ts) f g c k h = absurd h
  less_bool [] (abstract.Bool ∷ ts) f g c k h = absurd c
  less_bool (abstract.Int l o ∷ ss) (abstract.Bool ∷ ts) f g c k h = absurd c.0
  less_bool (abstract.Enum u v ∷ ss) (abstract.Bool ∷ ts) f g c k h = absurd c.0
  less_bool (abstract.Bool ∷ ss) (abstract.Bool ∷ ts) f g c k h = k ss ts c.1 h

  less_if : (b a : Bool) (F H : Flow) → (b ≡ true → a ≡ true) → (b ≡ true → Holds P H → Holds Q F) → Holds P (cond b H None) → Holds Q (cond a F None)
  less_if true a F H e k h = rw (e refl) (k refl h)
  less_if false a F H e k h = absurd h

  less_unless : (b a : Bool) (F H : Flow) → (b ≡ false → a ≡ false) → (b ≡ false → Holds P H → Holds Q F) → Holds P (cond b None H) → Holds Q (cond a None F)
  less_unless false a F H e k h = rw (e refl) (k refl h)
  less_unless true a F H e k h = absurd h

  less_args : (cs : List Carrier) (ss ts : List AbstractValue) (f g : List AbstractValue → Flow) → CoversEach ss ts
      → ((us vs : List AbstractValue) → CoversEach us vs → Holds P (g vs) → Holds Q (f us)) → Holds P (abstract_pop_args cs ts g) → Holds Q (abstract_pop_args cs ss f)
  less_args [] ss ts f g c k h = k ss ts c h
  less_args (d ∷ cs) ss [] f g c k h = absurd h
  less_args (d ∷ cs) [] (t ∷ ts) f g c k h = absurd c
  less_args (d ∷ cs) (s ∷ ss) (t ∷ ts) f g c k h =
      by (accepts t d) (accepts s d) (accepts_less s t d c.0) (less_args cs ss ts f g c.1 k) h
    where
      by : (b a : Bool) → (b ≡ true → a ≡ true) → (Holds P (abstract_pop_args cs ts g) → Holds Q (abstract_pop_args cs ss f)) → Holds P (cond b (abstract_pop_args cs ts g) None)
          → Holds Q (cond a (abstract_pop_args cs ss f) None)
      by true a e r h = rw (e refl) (r h)
      by false a e r h = absurd h

  less_root : (n r m s : ℕ) (f g : ℕ → Flow) → n ≡ m → r ≡ s → ((u : ℕ) → Holds P (g u) → Holds Q (f u)) → Holds P (abstract_root m s g) → Holds Q (abstract_root n r f)
  less_root n r (suc m) s f g e d k h = rw (e, d) (k s h)
  less_root n r zero zero f g e d k h = rw (e, d) (k 1 h)
  less_root n r zero (suc s) f g e d k h = absurd h

  less_when : (b a : Bool) (to : ℕ) (k m : AbstractState) (es fs : List Edge) → (a ≡ true → (b ≡ true) × IsCovered k m) → (AllEdges P fs → AllEdges Q es)
      → AllEdges P (when b (record { to = to; state = m }) ++ fs) → AllEdges Q (when a (record { to = to; state = k }) ++ es)
  less_when true true to k m es fs c r h = (down to k m (c refl).1 h.0, r h.1)
  less_when true false to k m es fs c r h = r h.1
  less_when false true to k m es fs c r h = let x = (c refl).0 in cc
  less_when false false to k m es fs c r h = r h

  less_last : (b a : Bool) (to : ℕ) (k m : AbstractState) → (a ≡ true → (b ≡ true) × IsCovered k m) → AllEdges P (when b (record { to = to; state = m }))
      → AllEdges Q (when a (record { to = to; state = k }))
  less_last true true to k m c h = (down to k m (c refl).1 h.0, tt)
  less_last true false to k m c h = tt
  less_last false true to k m c h = let x = (c refl).0 in cc
  less_last false false to k m c h = tt

  module _ (k m : AbstractState) (c : IsCovered k m) where
    -- other operands
    operands_less : (ss ts : List AbstractValue) → CoversEach ss ts → IsCovered (record k { operands = ss }) (record m { operands = ts })
    operands_less ss ts d =
        record { operands = d; operands_below = c.operands_below; parameters = c.parameters; loops = c.loops; brackets = c.brackets; brackets_below = c.brackets_below; roots = c.roots }

    less_give : (q : ℕ) (ss ts : List AbstractValue) (s t : AbstractValue) → CoversEach ss ts → Covers s t → Holds P (abstract_push q m ts t) → Holds Q (abstract_push q k ss s)
    less_give q ss ts s t d e h =
        less_if (nat_lt (length ts + m.operands_below) 32) (nat_lt (length ss + k.operands_below) 32) _ _
        (λ x. ap (λ n. nat_lt (n + k.operands_below) 32) (each_length ss ts d) ∙ ap (λ n. nat_lt (length ts + n) 32) c.operands_below ∙ x)
        (λ x h'. (down (q + 1) _ _ (operands_less (s ∷ ss) (t ∷ ts) (e, d)) h'.0, tt)) h

    less_give_int : (q : ℕ) (ss ts : List AbstractValue) (l h l' h' : ℤ) → CoversEach ss ts → Inside l h l' h' → Holds P (abstract_push_int q m ts (l', h')) → Holds Q (abstract_push_int q k ss (l, h))
    less_give_int q ss ts l h l' h' d e x =
        less_if (fits64 l' h') (fits64 l h) _ _ (fits_less l h l' h' e) (λ y z. less_give q ss ts (abstract.Int l h) (abstract.Int l' h') d e z) x

    less_split : (q to : ℕ) (l h l' h' low high : ℤ) (k1 m1 k2 m2 : AbstractState) → Inside l h l' h' → (int_le l high && int_le low h ≡ true → IsCovered k1 m1) → IsCovered k2 m2
        → Holds P (range_edges q to l' h' low high m1 m2) → Holds Q (range_edges q to l h low high k1 k2)
    less_split q to l h l' h' low high k1 m1 k2 m2 i c1 c2 x =
        less_when (int_le l' high && int_le low h') (int_le l high && int_le low h) (q + 1) k1 m1 _ _
        (λ e.
        let two = and_parts (int_le l high) (int_le low h) e in
        let u = le_true l high two.0 in
        let v = le_true low h two.1 in
        let a = i.0 in
        let b = i.2 in
        (and_from (int_le l' high) (int_le low h') (from_le l' high (omega (arith, ints))) (from_le low h' (omega (arith, ints))), c1 e))
        (less_last (not (int_le low l' && int_le h' high)) (not (int_le low l && int_le h high)) to k2 m2
        (λ e. (
          not_from_false _ (false_from_ne_true _ (λ t.
              let two = and_parts (int_le low l') (int_le h' high) t in
              let u = le_true low l' two.0 in
              let v = le_true h' high two.1 in
              let a = i.0 in
              let b = i.2 in
              let w = and_from (int_le low l) (int_le h high) (from_le low l (omega (arith, ints))) (from_le h high (omega (arith, ints))) in
              both_ways _ (not_from_true _ w) e)),
          c2,
        )))
        x

    cut_less : (l h l' h' low high : ℤ) → Inside l h l' h' → low ≤ℤ high → int_le l high && int_le low h ≡ true → Inside (int_max l low) (int_min h high) (int_max l' low) (int_min h' high)
    cut_less l h l' h' low high i o e =
        let two = and_parts (int_le l high) (int_le low h) e in
        let u = le_true l high two.0 in
        let v = le_true low h two.1 in
        let a = i.0 in
        let b = i.1 in
        let d = i.2 in
        (omega (arith, ints, clamps), omega (arith, ints, clamps), omega (arith, ints, clamps))

    less_get : (q : ℕ) (s t : Option AbstractValue) → SlotCovers s t → Holds P (with_abstract_slot t (λ u. abstract_push q m m.operands u))
        → Holds Q (with_abstract_slot s (λ u. abstract_push q k k.operands u))
    less_get q s None d h = absurd h
    less_get q None (Some t) d h = absurd d
    less_get q (Some s) (Some t) d h = less_give q k.operands m.operands s t c.operands d h

    less_slot_range : (q j to : ℕ) (low high : ℤ) (s t : Option AbstractValue) → low ≤ℤ high → SlotCovers s t
        → Holds P (with_abstract_slot t (λ u. with_interval u (λ l h. range_edges q to l h low high (set_slot m j (abstract.Int (int_max l low) (int_min h high))) m)))
        → Holds Q (with_abstract_slot s (λ u. with_interval u (λ l h. range_edges q to l h low high (set_slot k j (abstract.Int (int_max l low) (int_min h high))) k)))
    less_slot_range q j to low high s None o d h = absurd h
    less_slot_range q j to low high s (Some abstract.Bool) o d h = absurd h
    less_slot_range q j to low high s (Some (abstract.Enum u n)) o d h = absurd h
    less_slot_range q j to low high None (Some (abstract.Int l h)) o d x = absurd d
    less_slot_range q j to low high (Some abstract.Bool) (Some (abstract.Int l h)) o d x = absurd d
    less_slot_range q j to low high (Some (abstract.Enum u n)) (Some (abstract.Int l h)) o d x = absurd d
    less_slot_range q j to low high (Some (abstract.Int l h)) (Some (abstract.Int l' h')) o d x =
        less_split q to l h l' h' low high _ _ k m d (λ e. slot_shape_covers k m j _ _ c (cut_less l h l' h' low high d o e)) c x

    less_close : (q n n' f f' : ℕ) → n ≡ n' → f ≡ f' → Holds P (abstract_close f' n' (λ u. to_next_place q (record m { brackets = u })))
        → Holds Q (abstract_close f n (λ u. to_next_place q (record k { brackets = u })))
    less_close q n zero f f' e d h = absurd h
    less_close q zero (suc n') f f' e d h = absurd (omega arith)
    less_close q (suc n) (suc n') f f' e d h =
        let same : n ≡ n' = omega arith in
        less_if (nat_le f' n') (nat_le f n) _ _ (λ x. ap (λ a. nat_le a n) d ∙ ap (nat_le f') same ∙ x)
        (λ x h'. (
          down (q + 1) _ _
              (record {
                operands = c.operands;
                operands_below = c.operands_below;
                parameters = c.parameters;
                loops = c.loops;
                brackets = same;
                brackets_below =
                    c.brackets_below;
                roots = c.roots;
              }) h'.0,
          tt,
        )) h

    less_end : (ls ms : List (ℕ × AbstractValue)) (n n' r r' : ℕ) → CoversLoops ls ms → n ≡ n' → r ≡ r' → Holds P (abstract_end ms n' r') → Holds Q (abstract_end ls n r)
    less_end [] [] n zero r zero d e f h = absurd h
    less_end [] [] n (suc n') r r' d e f h = absurd h
    less_end ls (x ∷ ms) n n' r r' d e f h = absurd h
    less_end (x ∷ ls) [] n n' r r' d e f h = absurd d
    less_end [] [] n zero r (suc zero) d e f h = rw (e, f) tt
    less_end [] [] n zero r (suc (suc r')) d e f h = absurd h

    less_loop : (q j : ℕ) (b : Option Carrier) → Holds P (abstract_loop q m j b) → Holds Q (abstract_loop q k j b)
    less_loop q j None h = absurd h
    less_loop q j (Some b) h =
        less_if (nat_lt (length m.loops) 8 && not (among m.loops j) && is_inhabited b) (nat_lt (length k.loops) 8 && not (among k.loops j) && is_inhabited b) _ _
        (λ x. rw (loops_same_length k.loops m.loops c.loops, among_same k.loops m.loops j c.loops) x)
        (λ x h'. (
          down (q + 1) _ _
              (record {
                operands = tt;
                operands_below =
                    ap (λ n. n + k.operands_below) (each_length k.operands m.operands c.operands) ∙ ap (λ n. length m.operands + n) c.operands_below;
                parameters = c.parameters;
                loops =
                    (refl, self_covers b (and_parts (nat_lt (length m.loops) 8 && not (among m.loops j)) (is_inhabited b) x).1, c.loops);
                brackets = c.brackets;
                brackets_below =
                    c.brackets;
                roots = c.roots;
              }) h'.0,
          tt,
        )) h

    less_next : (q : ℕ) (ss ts : List AbstractValue) (g h : Option AbstractState) → CoversEach ss ts → IsCoveredAtLoop g h → Holds P (abstract_next q m ts h) → Holds Q (abstract_next q k ss g)
    less_next q ss ts g None d e x = absurd x
    less_next q ss (t ∷ ts) g (Some h) d e x = absurd x
    less_next q (s ∷ ss) [] g (Some h) d e x = absurd d
    less_next q [] [] None (Some h) d e x = absurd e
    less_next q [] [] (Some g) (Some h) d e x =
        less_if ((m.brackets == h.brackets) && (m.roots == h.roots)) ((k.brackets == g.brackets) && (k.roots == g.roots)) _ _
        (λ y. rw (c.brackets, c.roots, e.brackets, e.roots) y)
        (λ y h'. (down (q + 1) g h e h'.0, tt)) x

    less_call : (q : ℕ) (o : Option (List Carrier)) → Holds P (abstract_call q m o) → Holds Q (abstract_call q k o)
    less_call q None h = absurd h
    less_call q (Some cs) h =
        less_args (reverse cs) k.operands m.operands _ _ c.operands
        (λ us vs d h'. less_root k.brackets k.roots m.brackets m.roots _ _ c.brackets c.roots
        (λ r h''. (
          down (q + 1) _ _
              (record {
                operands = d;
                operands_below = c.operands_below;
                parameters = c.parameters;
                loops = c.loops;
                brackets = c.brackets;
                brackets_below =
                    c.brackets_below;
                roots = refl;
              }) h''.0,
          tt,
        )) h') h

    pub transfer-covers : (p : Program) (g h : Option AbstractState) (q : ℕ) (i : Op) → HasOrderedRange i → IsCoveredAtLoop g h → Holds P (transfer p h q i m) → Holds Q (transfer p g q i k)
    transfer-covers p g h q op.End w e x = less_end k.loops m.loops k.brackets m.brackets k.roots m.roots c.loops c.brackets c.roots x
    transfer-covers p g h q (op.PushInt z) w e x = less_give q k.operands m.operands (abstract.Int z z) (abstract.Int z z) c.operands (≤ℤ_refl z, ≤ℤ_refl z, ≤ℤ_refl z) x
    transfer-covers p g h q (op.PushBool b) w e x = less_give q k.operands m.operands abstract.Bool abstract.Bool c.operands tt x
    transfer-covers p g h q (op.PushEnum s j) w e x =
        less_if (enum_fits (slice_get p.sorts s) j) (enum_fits (slice_get p.sorts s) j) _ _ (λ y. y)
        (λ y z. less_give q k.operands m.operands (abstract.Enum s (count_or_zero (slice_get p.sorts s))) (abstract.Enum s (count_or_zero (slice_get p.sorts s))) c.operands (refl, omega arith) z) x
    transfer-covers p g h q (op.Get j) w e x =
        less_get q (abstract_slot k.loops k.parameters j) (abstract_slot m.loops m.parameters j) (slot_covers k.loops m.loops k.parameters m.parameters j c.loops c.parameters) x
    transfer-covers p g h q op.Pop w e x =
        less_any k.operands m.operands _ _ c.operands (λ s t us vs d f y. (down (q + 1) _ _ (operands_less us vs f) y.0, tt)) x
    transfer-covers p g h q (op.Arithmetic a) w e x =
        less_int k.operands m.operands _ _ c.operands
        (λ m1 n1 m2 n2 us vs i f y. less_int us vs _ _ f
        (λ l1 h1 l2 h2 us' vs' j f' y'. less_unless (has_divisor a && int_lt m2 (pos 1)) (has_divisor a && int_lt m1 (pos 1)) _ _
        (λ z. no_divisor (has_divisor a) m2 m1 z i.0)
        (λ z z'. less_give_int q us' vs' _ _ _ _ f' (interval_less a l1 h1 m1 n1 l2 h2 m2 n2 j i (λ d. divisor (has_divisor a) m2 z d)) z') y') y) x
    transfer-covers p g h q op.Negate w e x =
        less_int k.operands m.operands _ _ c.operands
        (λ l h m' n us vs i f y. less_give_int q us vs (neg_ℤ h) (neg_ℤ l) (neg_ℤ n) (neg_ℤ m') f
        (let a = i.0 in let b = i.1 in let d = i.2 in (omega (arith, ints), omega (arith, ints), omega (arith, ints))) y) x
    transfer-covers p g h q op.Absolute w e x = less_int k.operands m.operands _ _ c.operands (λ l h m' n us vs i f y. less_give_int q us vs _ _ _ _ f (absolute_less l h m' n i) y) x
    transfer-covers p g h q (op.Compare o) w e x =
        less_int k.operands m.operands _ _ c.operands (λ m1 n1 m2 n2 us vs i f y. less_int us vs _ _ f (λ l1 h1 l2 h2 us' vs' j f' y'. less_give q us' vs' abstract.Bool abstract.Bool f' tt y') y) x
    transfer-covers p g h q (op.Equality b) w e x =
        less_any k.operands m.operands _ _ c.operands (λ s t us vs d f y. less_any us vs _ _ f
        (λ s' t' us' vs' d' f' y'. less_if (same_kind t' t) (same_kind s' s) _ _ (same_kind_less s' s t' t d' d) (λ z z'. less_give q us' vs' abstract.Bool abstract.Bool f' tt z') y') y) x
    transfer-covers p g h q op.Not w e x = less_bool k.operands m.operands _ _ c.operands (λ us vs f y. less_give q us vs abstract.Bool abstract.Bool f tt y) x
    transfer-covers p g h q (op.Logic b) w e x =
        less_bool k.operands m.operands _ _ c.operands (λ us vs f y. less_bool us vs _ _ f (λ us' vs' f' y'. less_give q us' vs' abstract.Bool abstract.Bool f' tt y') y) x
    transfer-covers p g h q (op.Jump to) w e x = (down to k m c x.0, tt)
    transfer-covers p g h q (op.JumpIf b to) w e x =
        less_bool k.operands m.operands _ _ c.operands (λ us vs f y. (down (q + 1) _ _ (operands_less us vs f) y.0, (down to _ _ (operands_less us vs f) y.1.0, tt))) x
    transfer-covers p g h q (op.InRange low high to) w e x =
        less_int k.operands m.operands _ _ c.operands (λ l h' m' n us vs i f y. less_split q to l h' m' n low high _ _ _ _ i
        (λ t. operands_less (abstract.Int (int_max l low) (int_min h' high) ∷ us) (abstract.Int (int_max m' low) (int_min n high) ∷ vs) (cut_less l h' m' n low high i w t, f))
        (operands_less (abstract.Int l h' ∷ us) (abstract.Int m' n ∷ vs) (i, f)) y) x
    transfer-covers p g h q (op.SlotInRange j low high to) w e x =
        less_slot_range q j to low high (abstract_slot k.loops k.parameters j) (abstract_slot m.loops m.parameters j) w
        (slot_covers k.loops m.loops k.parameters m.parameters j c.loops c.parameters) x
    transfer-covers p g h q (op.Loop j) w e x = less_loop q j (carrier_of p j) x
    transfer-covers p g h q op.Next w e x = less_next q k.operands m.operands g h c.operands e x
    transfer-covers p g h q (op.Open b) w e x =
        less_if (nat_lt m.brackets 32) (nat_lt k.brackets 32) _ _ (λ y. ap (λ n. nat_lt n 32) c.brackets ∙ y)
        (λ y z. less_root k.brackets k.roots m.brackets m.roots _ _ c.brackets c.roots
        (λ r z'. (
          down (q + 1) _ _
              (record {
                operands = c.operands;
                operands_below = c.operands_below;
                parameters = c.parameters;
                loops = c.loops;
                brackets =
                    ap (λ n. n + 1) c.brackets;
                brackets_below = c.brackets_below;
                roots = refl;
              }) z'.0,
          tt,
        )) z) x
    transfer-covers p g h q op.Close w e x = less_close q k.brackets m.brackets k.brackets_below m.brackets_below c.brackets c.brackets_below x
    transfer-covers p g h q (op.Emit l) w e x =
        less_root k.brackets k.roots m.brackets m.roots _ _ c.brackets c.roots
        (λ r z. (
          down (q + 1) _ _
              (record {
                operands = c.operands;
                operands_below = c.operands_below;
                parameters = c.parameters;
                loops = c.loops;
                brackets = c.brackets;
                brackets_below =
                    c.brackets_below;
                roots = refl;
              }) z.0,
          tt,
        )) x
    transfer-covers p g h q (op.Call eq) w e x = less_call q (slice_get p.callees eq) x

-- ---- the law

edges_among : (all es : List Edge) → AllByRecursion (Contains all) es → AllEdges (λ to s. Contains all (record { to = to; state = s })) es
edges_among all [] h = tt
edges_among all (e ∷ es) h = (h.0, edges_among all es h.1)

edges_covered : (all es : List Edge) → AllEdges (λ to s. IsCoveredEdge all (record { to = to; state = s })) es → AllByRecursion (IsCoveredEdge all) es
edges_covered all [] h = tt
edges_covered all (e ∷ es) h = (h.0, edges_covered all es h.1)

flow_covered : (es : List Edge) (flow : Flow) → Holds (λ to s. IsCoveredEdge es (record { to = to; state = s })) flow → (fs : List Edge) × (flow ≡ Some fs) × AllByRecursion (IsCoveredEdge es) fs
flow_covered es None h = absurd h
flow_covered es (Some fs) h = (fs, refl, edges_covered es fs h)

pub transfer_is_monotone : TransferIsMonotone
transfer_is_monotone p g h q i k m es w e c f =
    let P : ℕ → AbstractState → Type 0 = λ to s. Contains es (record { to = to; state = s }) in
    let Q : ℕ → AbstractState → Type 0 = λ to s. IsCoveredEdge es (record { to = to; state = s }) in
    let all : Holds P (transfer p h q i m) = subst (Holds P) (sym f) (edges_among es es (recursion_from_All (Contains es) es (All-contains_itself es))) in
    flow_covered es (transfer p g q i k)
    (transfer-covers P Q (λ to k' m' covered has. record { edge = record { to = to; state = m' }; among = has; same_place = refl; covered = covered }) k m c p g h q i w e all)
