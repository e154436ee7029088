-- Where a rule is met, the machine's test of the values passes.
use Rattle.std.proofs.Common.{◌≡◌, ℕ, zero, suc, ◌+◌, ◌<◌, ◌≤◌, Bool, true, false, cond, ◌&&◌, List, [], ◌∷◌, ◌++◌, length, Option, Some, None, refl, sym, ap, ◌∙◌, subst, arith, length-append, append-nil}
use Rattle.std.specs.Prelude.{ℤ, pos, ◌≤ℤ◌, int_lt, int_le, slice_get, nat_le, ◌==◌}
use Rattle.std.specs.Int.{int_min, int_max}
use Rattle.std.proofs.lemmas.Int.{ints, clamps}
use Rattle.std.proofs.lemmas.Bool.{and_parts, and_from, cond-true, eqb-true, eq-eqb, ltb-true, lt-ltb, leb-true, not_from_false, false_from_ne_true}
use Rattle.pb_fixpoint_trees.specs.declared.Token.{Token}
use Rattle.pb_bytecode_program.specs.Values.{TaggedValue, BoolValue, IntValue, EnumValue, equals, fits64, least64, greatest64}
use Rattle.pb_bytecode_program.specs.Abstract.{IsAbstractedBy, same_kind}
use Rattle.pb_bytecode_program.specs.declared.domain.AbstractValue.{AbstractValue}
use Rattle.pb_bytecode_program.specs.declared.domain.AbstractValue.TheVariants as abstract
use Rattle.pb_bytecode_program.specs.Machine
use Rattle.pb_bytecode_program.specs.Machine.{Program, Frame, State, Outcome, Continues, Ends, Faults}
use Rattle.pb_bytecode_program.specs.Transfer
use Rattle.pb_bytecode_program.specs.Transfer.{AbstractState, Edge, Flow}
use Rattle.pb_bytecode_program.specs.Accepted.{Table, state_at, Leads, AllLead, FlowIsCovered}
use Rattle.pb_bytecode_program.proofs.Invariant.{Fits, FitLoops}
use Rattle.pb_sorts.specs.declared.carrier.Carrier.{Carrier}
use Rattle.pb_sorts.specs.declared.carrier.Carrier.TheVariants as carrier
use Rattle.pb_bytecode_program.specs.declared.instruction.Op.{Op}
use Rattle.pb_bytecode_program.proofs.Ints.{le_true, from_le, not_below, from_below}

-- ---- a rule's test

pub tested : (table : Table) (b : Bool) (F : Flow) → FlowIsCovered table (cond b F None) → (b ≡ true) × FlowIsCovered table F
tested table true F fine = (refl, fine)
tested table false F fine = absurd fine

-- a rule that fails where a test holds
pub allowed : (table : Table) (b : Bool) (F : Flow) → FlowIsCovered table (cond b None F) → (b ≡ false) × FlowIsCovered table F
allowed table true F fine = absurd fine
allowed table false F fine = (refl, fine)

pub divisor : (d : Bool) (m : ℤ) → (d && int_lt m (pos 1)) ≡ false → d ≡ true → pos 1 ≤ℤ m
divisor true m e t = not_below m e
divisor false m e t = cc

pub no_divisor : (d : Bool) (m b : ℤ) → (d && int_lt m (pos 1)) ≡ false → m ≤ℤ b → (d && int_lt b (pos 1)) ≡ false
no_divisor true m b e h = let w = not_below m e in from_below b (omega (arith, ints))
no_divisor false m b e h = refl

pub enum_below : (o : Option ℕ) (j : ℕ) → Transfer.enum_fits o j ≡ true → j < Transfer.count_or_zero o
enum_below None j e = cc
enum_below (Some n) j e = ltb-true j n e

pub argument_ok : (v : TaggedValue) (s : AbstractValue) (c : Carrier) → Transfer.accepts s c ≡ true → IsAbstractedBy v s → Machine.argument_fault v c ≡ None
argument_ok (BoolValue b) abstract.Bool carrier.Bool e w = refl
argument_ok (BoolValue b) abstract.Bool (carrier.Enum enum) e w = cc
argument_ok (BoolValue b) abstract.Bool (carrier.Range range) e w = cc
argument_ok (BoolValue b) (abstract.Int l h) c e w = absurd w
argument_ok (BoolValue b) (abstract.Enum l h) c e w = absurd w
argument_ok (IntValue z) abstract.Bool c e w = absurd w
argument_ok (IntValue z) (abstract.Enum s n) c e w = absurd w
argument_ok (IntValue z) (abstract.Int l h) carrier.Bool e w = cc
argument_ok (IntValue z) (abstract.Int l h) (carrier.Enum enum) e w = cc
argument_ok (IntValue z) (abstract.Int l h) (carrier.Range range) e w =
    let two = and_parts (int_le range.low l) (int_le h range.high) e in
    let x = le_true range.low l two.0 in
    let y = le_true h range.high two.1 in
    let u = w.0 in
    let v = w.1 in
    cond-true _ _ _ (and_from (int_le range.low z) (int_le z range.high) (from_le range.low z (omega (arith, ints))) (from_le z range.high (omega (arith, ints))))
argument_ok (EnumValue s i) abstract.Bool c e w = absurd w
argument_ok (EnumValue s i) (abstract.Int l h) c e w = absurd w
argument_ok (EnumValue s i) (abstract.Enum t n) carrier.Bool e w = cc
argument_ok (EnumValue s i) (abstract.Enum t n) (carrier.Range range) e w = cc
argument_ok (EnumValue s i) (abstract.Enum t n) (carrier.Enum enum) e w =
    let two = and_parts (t == enum.sort) (nat_le n enum.count) e in
    let x = leb-true n enum.count two.1 in
    let y = w.1 in
    cond-true _ _ _ (eq-eqb s enum.sort (w.0 ∙ eqb-true t enum.sort two.0)) ∙ cond-true _ _ _ (lt-ltb i enum.count (omega arith))

-- ---- ways that a range test leaves open

pub when_lead : (table : Table) (b : Bool) (e : Edge) (es : List Edge) → AllLead table (Transfer.when b e ++ es) → b ≡ true → Leads table e
when_lead table true e es h x = h.0
when_lead table false e es h x = cc

pub when_rest : (table : Table) (b : Bool) (e : Edge) (es : List Edge) → AllLead table (Transfer.when b e ++ es) → AllLead table es
when_rest table true e es h = h.1
when_rest table false e es h = h

pub split_in : (table : Table) (q to : ℕ) (l h low high z : ℤ) (k m : AbstractState)
    → FlowIsCovered table (Transfer.range_edges q to l h low high k m) → l ≤ℤ z → z ≤ℤ h
    → (int_le low z && int_le z high) ≡ true → Leads table (record { to = q + 1; state = k })
split_in table q to l h low high z k m fine a b e =
    let two = and_parts (int_le low z) (int_le z high) e in
    let x = le_true low z two.0 in
    let y = le_true z high two.1 in
    when_lead table _ _ _ fine (and_from (int_le l high) (int_le low h) (from_le l high (omega (arith, ints))) (from_le low h (omega (arith, ints))))

pub split_out : (table : Table) (q to : ℕ) (l h low high z : ℤ) (k m : AbstractState)
    → FlowIsCovered table (Transfer.range_edges q to l h low high k m) → l ≤ℤ z → z ≤ℤ h
    → (int_le low z && int_le z high) ≡ false → Leads table (record { to = to; state = m })
split_out table q to l h low high z k m fine a b e =
    when_lead table _ _ [] (subst (AllLead table) (sym (append-nil _)) (when_rest table _ _ _ fine))
    (not_from_false _ (false_from_ne_true _ (λ t.
    let two = and_parts (int_le low l) (int_le h high) t in
    let x = le_true low l two.0 in
    let y = le_true h high two.1 in
    let u = and_from (int_le low z) (int_le z high) (from_le low z (omega (arith, ints))) (from_le z high (omega (arith, ints))) in
    cc)))

-- ---- equality of two of one kind

pub equal_kinds : (a b : TaggedValue) (s t : AbstractValue) → IsAbstractedBy a s → IsAbstractedBy b t → same_kind s t ≡ true → (r : Bool) × (equals a b ≡ Some r)
equal_kinds a b abstract.Bool (abstract.Int l h) w x e = cc
equal_kinds a b abstract.Bool (abstract.Enum u n) w x e = cc
equal_kinds a b (abstract.Int l h) abstract.Bool w x e = cc
equal_kinds a b (abstract.Int l h) (abstract.Enum u n) w x e = cc
equal_kinds a b (abstract.Enum u n) abstract.Bool w x e = cc
equal_kinds a b (abstract.Enum u n) (abstract.Int l h) w x e = cc
equal_kinds (BoolValue a) (BoolValue b) abstract.Bool abstract.Bool w x e = (_, refl)
equal_kinds (BoolValue a) (IntValue b) abstract.Bool abstract.Bool w x e = absurd x
equal_kinds (BoolValue a) (EnumValue b j) abstract.Bool abstract.Bool w x e = absurd x
equal_kinds (IntValue a) b abstract.Bool abstract.Bool w x e = absurd w
equal_kinds (EnumValue a i) b abstract.Bool abstract.Bool w x e = absurd w
equal_kinds (IntValue a) (IntValue b) (abstract.Int l h) (abstract.Int m n) w x e = (_, refl)
equal_kinds (IntValue a) (BoolValue b) (abstract.Int l h) (abstract.Int m n) w x e = absurd x
equal_kinds (IntValue a) (EnumValue b j) (abstract.Int l h) (abstract.Int m n) w x e = absurd x
equal_kinds (BoolValue a) b (abstract.Int l h) (abstract.Int m n) w x e = absurd w
equal_kinds (EnumValue a i) b (abstract.Int l h) (abstract.Int m n) w x e = absurd w
equal_kinds (EnumValue a i) (EnumValue b j) (abstract.Enum u n) (abstract.Enum v m) w x e = (i == j, cond-true _ _ _ (eq-eqb a b (w.0 ∙ eqb-true u v e ∙ sym x.0)))
equal_kinds (EnumValue a i) (BoolValue b) (abstract.Enum u n) (abstract.Enum v m) w x e = absurd x
equal_kinds (EnumValue a i) (IntValue b) (abstract.Enum u n) (abstract.Enum v m) w x e = absurd x
equal_kinds (BoolValue a) b (abstract.Enum u n) (abstract.Enum v m) w x e = absurd w
equal_kinds (IntValue a) b (abstract.Enum u n) (abstract.Enum v m) w x e = absurd w

pub fits_length : (vs : List TaggedValue) (ss : List AbstractValue) (rest : List TaggedValue) → Fits vs ss rest → length vs ≡ length ss + length rest
fits_length vs [] rest f = ap length f ∙ (let e : length rest ≡ 0 + length rest = omega arith in e)
fits_length [] (s ∷ ss) rest f = absurd f
fits_length (v ∷ vs) (s ∷ ss) rest f = let i = fits_length vs ss rest f.1 in omega arith

pub fit_within : (l h z : ℤ) → fits64 l h ≡ true → l ≤ℤ z → z ≤ℤ h → fits64 z z ≡ true
fit_within l h z e p q =
    let two = and_parts (int_le least64 l) (int_le h greatest64) e in
    and_from (int_le least64 z) (int_le z greatest64)
    (from_le least64 z (let w = le_true least64 l two.0 in omega (arith, ints)))
    (from_le z greatest64 (let w = le_true h greatest64 two.1 in omega (arith, ints)))

pub ended_ok : (table : Table) (fs : List Frame) (ls : List (ℕ × AbstractValue)) (n m r s : ℕ) (out : List Token)
    → FitLoops fs ls → n ≡ m → r ≡ s → FlowIsCovered table (Transfer.abstract_end ls m s) → Machine.end_run fs n r out ≡ Ends out
ended_ok table [] [] n zero r zero out f e g fine = absurd fine
ended_ok table [] [] n (suc m) r s out f e g fine = absurd fine
ended_ok table fs (l ∷ ls) n m r s out f e g fine = absurd fine
ended_ok table (x ∷ fs) [] n m r s out f e g fine = absurd f
ended_ok table [] [] n zero r (suc zero) out f e g fine = rw (e, g) refl
ended_ok table [] [] n zero r (suc (suc s)) out f e g fine = absurd fine

pub cut_within : (low high z l h : ℤ) → l ≤ℤ z → z ≤ℤ h → (int_le low z && int_le z high) ≡ true → IsAbstractedBy (IntValue z) (abstract.Int (int_max l low) (int_min h high))
cut_within low high z l h p1 p2 e =
    let two = and_parts (int_le low z) (int_le z high) e in
    let x = le_true low z two.0 in
    let y = le_true z high two.1 in
    (omega (arith, ints, clamps), omega (arith, ints, clamps))

pub one_more : (out : List Token) (t : Token) → length (out ++ t ∷ []) ≤ length out + 1
one_more out t = omega (arith, length-append out (t ∷ []))

pub next_inverted : (table : Table) (q : ℕ) (k : AbstractState) (ss : List AbstractValue) (o : Option AbstractState)
    → FlowIsCovered table (Transfer.abstract_next q k ss o)
    → (home : AbstractState) × (ss ≡ []) × (o ≡ Some home) × (k.brackets ≡ home.brackets) × (k.roots ≡ home.roots)
    × FlowIsCovered table (Transfer.to_next_place q home)
next_inverted table q k ss None fine = absurd fine
next_inverted table q k (s ∷ ss) (Some home) fine = absurd fine
next_inverted table q k [] (Some home) fine =
    let t = tested table ((k.brackets == home.brackets) && (k.roots == home.roots)) _ fine in
    let two = and_parts (k.brackets == home.brackets) (k.roots == home.roots) t.0 in
    (home, refl, refl, eqb-true k.brackets home.brackets two.0, eqb-true k.roots home.roots two.1, t.1)

pub state_within : (table : Table) (q : ℕ) (k : AbstractState) → state_at table q ≡ Some k → q < length table
state_within [] q k h = cc
state_within (o ∷ os) zero k h = omega arith
state_within (o ∷ os) (suc q) k h = let i = state_within os q k h in omega arith

pub instruction_at : (code : List Op) (q : ℕ) → q < length code → (i : Op) × (slice_get code q ≡ Some i)
instruction_at [] q h = absurd (omega arith)
instruction_at (i ∷ is) zero h = (i, refl)
instruction_at (i ∷ is) (suc q) h = instruction_at is q (omega arith)
