-- The ways that a range test leaves open.
use Rattle.std.proofs.Common.{◌≡◌, ℕ, ◌+◌, Bool, true, false, cond, not, ◌&&◌, List, [], ◌∷◌, ◌++◌, drop, Option, Some, None, refl, sym, ap, ◌∙◌, arith}
use Rattle.std.specs.Prelude.{ℤ, ◌≤ℤ◌, int_le}
use Rattle.std.specs.Int.{int_min, int_max}
use Rattle.std.proofs.lemmas.Int.{ints, clamps}
use Rattle.std.proofs.lemmas.Bool.{and_parts, and_from, false_from_ne_true}
use Rattle.pb_bytecode_program.specs.Transfer.{AbstractState, range_edges, abstract_pop_int, set_slot, abstract_slot}
use Rattle.pb_bytecode_program.proofs.Ints.{le_true, le_false, from_le}
use Rattle.pb_bytecode_program.specs.declared.domain.AbstractValue.{AbstractValue}
use Rattle.pb_bytecode_program.specs.declared.domain.AbstractValue.TheVariants as abstract
use Rattle.pb_bytecode_program.specs.declared.instruction.Op.TheVariants as op
use Rattle.pb_base_values.specs.Interval.{IntegerInterval, IsWithin, cut, unless_empty, is_non_empty}
use Rattle.pb_verifier_flow.specs.Edges.{edges_of}
use Rattle.pb_verifier_flow.specs.Flows.{FlowsTo}

module _ (q to : ℕ) (l h low high : ℤ) (inside outside : AbstractState) (some : l ≤ℤ h) (ordered : low ≤ℤ high) where
  -- the interval meets the range
  abbrev Meets : Bool
  Meets = int_le l high && int_le low h

  -- the interval is in the range
  abbrev IsIn : Bool
  IsIn = int_le low l && int_le h high

  ways : (a b : Bool) → Meets ≡ a → IsIn ≡ b
      → range_edges q to l h low high inside outside
      ≡ Some (cond a (record { to = q + 1; state = inside } ∷ []) [] ++ cond (not b) (record { to = to; state = outside } ∷ []) [])
  ways a b e f = rw (e, f) refl

  pub outside_only : int_le (int_max l low) (int_min h high) ≡ false → range_edges q to l h low high inside outside ≡ Some (edges_of q None (Some (to, outside)))
  outside_only e =
      let apart = le_false (int_max l low) (int_min h high) e in
      ways false false
      (false_from_ne_true _ (λ t. let two = and_parts (int_le l high) (int_le low h) t in let x = le_true l high two.0 in let y = le_true low h two.1 in omega (arith, ints, clamps)))
      (false_from_ne_true _ (λ t. let two = and_parts (int_le low l) (int_le h high) t in let x = le_true low l two.0 in let y = le_true h high two.1 in omega (arith, ints, clamps)))

  pub inside_only : low ≤ℤ l → h ≤ℤ high → range_edges q to l h low high inside outside ≡ Some (edges_of q (Some inside) None)
  inside_only a b =
      ways true true
      (and_from (int_le l high) (int_le low h) (from_le l high (omega (arith, ints))) (from_le low h (omega (arith, ints))))
      (and_from (int_le low l) (int_le h high) (from_le low l a) (from_le h high b))

  pub both_ways_open : int_le (int_max l low) (int_min h high) ≡ true → ((low ≤ℤ l) × (h ≤ℤ high) → ⊥)
      → range_edges q to l h low high inside outside ≡ Some (edges_of q (Some inside) (Some (to, outside)))
  both_ways_open e f =
      let meet = le_true (int_max l low) (int_min h high) e in
      ways true false
      (and_from (int_le l high) (int_le low h) (from_le l high (omega (arith, ints, clamps))) (from_le low h (omega (arith, ints, clamps))))
      (false_from_ne_true _ (λ t. let two = and_parts (int_le low l) (int_le h high) t in f (le_true low l two.0, le_true h high two.1)))

-- ---- the interval cut to the range

abbrev pub range_of : ℤ → ℤ → IntegerInterval
range_of low high = record { low = low; high = high }

pub cut_some : (i r n : IntegerInterval) → Some n ≡ unless_empty (cut i r) → (int_le (int_max i.low r.low) (int_min i.high r.high) ≡ true) × (n ≡ cut i r)
cut_some i r n e = by (is_non_empty (cut i r)) refl e
  where
    by : (b : Bool) → is_non_empty (cut i r) ≡ b → Some n ≡ cond b (Some (cut i r)) None → (int_le (int_max i.low r.low) (int_min i.high r.high) ≡ true) × (n ≡ cut i r)
    by true f g = (f, cc)
    by false f g = cc

pub cut_none : (i r : IntegerInterval) → None ≡ unless_empty (cut i r) → int_le (int_max i.low r.low) (int_min i.high r.high) ≡ false
cut_none i r e = by (is_non_empty (cut i r)) refl e
  where
    by : (b : Bool) → is_non_empty (cut i r) ≡ b → None ≡ cond b (Some (cut i r)) None → int_le (int_max i.low r.low) (int_min i.high r.high) ≡ false
    by true f g = cc
    by false f g = f

-- ---- the number on top

abbrev TopIs : AbstractState → IntegerInterval → Type 0
TopIs k i = k.operands ≡ abstract.Int i.low i.high ∷ drop 1 k.operands

whole : (k : AbstractState) (i : IntegerInterval) → TopIs k i → record k { operands = abstract.Int i.low i.high ∷ drop 1 k.operands } ≡ k
whole k i top = ap (λ os. record k { operands = os }) (sym top)

read_top : (k : AbstractState) (q to : ℕ) (low high l h : ℤ) (os ss : List AbstractValue) → os ≡ abstract.Int l h ∷ ss
    → abstract_pop_int os
    (λ x y ts. range_edges q to x y low high
    (record k { operands = abstract.Int (int_max x low) (int_min y high) ∷ ts })
    (record k { operands = abstract.Int x y ∷ ts }))
    ≡ range_edges q to l h low high (record k { operands = abstract.Int (int_max l low) (int_min h high) ∷ ss })
    (record k { operands = abstract.Int l h ∷ ss })
read_top k q to low high l h os ss e = rw e refl

abbrev narrowed : AbstractState → IntegerInterval → AbstractState
narrowed k n = record k { operands = abstract.Int n.low n.high ∷ drop 1 k.operands }

by_top : (k : AbstractState) (i : IntegerInterval) (low high : ℤ) (to : ℕ) (next : Option AbstractState)
    (jump : Option (ℕ × AbstractState)) → TopIs k i
    → ((q : ℕ)
    → range_edges q to i.low i.high low high (narrowed k (cut i (range_of low high))) k ≡ Some (edges_of q next jump))
    → FlowsTo (op.InRange low high to) k next jump
by_top k i low high to next jump top h =
    λ p home q. read_top k q to low high i.low i.high k.operands (drop 1 k.operands) top
    ∙ ap (λ (m : AbstractState). range_edges q to i.low i.high low high (narrowed k (cut i (range_of low high))) m) (whole k i top) ∙ h q

pub top_outside : (k : AbstractState) (i r : IntegerInterval) (low high : ℤ) (to : ℕ) → r ≡ range_of low high
    → i.low ≤ℤ i.high → low ≤ℤ high → TopIs k i → None ≡ unless_empty (cut i r) → FlowsTo (op.InRange low high to) k None (Some (to, k))
top_outside k i r low high to e some ordered top none =
    by_top k i low high to None (Some (to, k)) top
    (λ q. outside_only q to i.low i.high low high _ k some ordered (cut_none i (range_of low high) (rw e at none)))

pub top_inside : (k m : AbstractState) (i r n : IntegerInterval) (low high : ℤ) (to : ℕ) → r ≡ range_of low high
    → i.low ≤ℤ i.high → low ≤ℤ high → TopIs k i → IsWithin i r → Some n ≡ unless_empty (cut i r) → m ≡ narrowed k n
    → FlowsTo (op.InRange low high to) k (Some m) None
top_inside k m i r n low high to e some ordered top within has is =
    let two = cut_some i (range_of low high) n (rw e at has) in
    let both : IsWithin i (range_of low high) = rw e at within in
    by_top k i low high to (Some m) None top (λ q. rw (is, two.1) (inside_only q to i.low i.high low high _ k some ordered both.0 both.1))

pub top_both : (k m : AbstractState) (i r n : IntegerInterval) (low high : ℤ) (to : ℕ) → r ≡ range_of low high
    → i.low ≤ℤ i.high → low ≤ℤ high → TopIs k i → (IsWithin i r → ⊥) → Some n ≡ unless_empty (cut i r)
    → m ≡ narrowed k n → FlowsTo (op.InRange low high to) k (Some m) (Some (to, k))
top_both k m i r n low high to e some ordered top beyond has is =
    let two = cut_some i (range_of low high) n (rw e at has) in
    let not_both : IsWithin i (range_of low high) → ⊥ = rw e at beyond in
    by_top k i low high to (Some m) (Some (to, k)) top (λ q. rw (is, two.1) (both_ways_open q to i.low i.high low high _ k some ordered two.0 not_both))

-- ---- the number in a slot

abbrev SlotIs : AbstractState → ℕ → IntegerInterval → Type 0
SlotIs k j i = abstract_slot k.loops k.parameters j ≡ Some (abstract.Int i.low i.high)

abbrev slot_narrowed : AbstractState → ℕ → IntegerInterval → AbstractState
slot_narrowed k j n = set_slot k j (abstract.Int n.low n.high)

by_slot : (k : AbstractState) (j : ℕ) (i : IntegerInterval) (low high : ℤ) (to : ℕ) (next : Option AbstractState)
    (jump : Option (ℕ × AbstractState)) → SlotIs k j i
    → ((q : ℕ)
    → range_edges q to i.low i.high low high (slot_narrowed k j (cut i (range_of low high))) k
    ≡ Some (edges_of q next jump)) → FlowsTo (op.SlotInRange j low high to) k next jump
by_slot k j i low high to next jump slot h = λ p home q. rw slot (h q)

pub slot_outside : (k : AbstractState) (j : ℕ) (i r : IntegerInterval) (low high : ℤ) (to : ℕ) → r ≡ range_of low high
    → i.low ≤ℤ i.high → low ≤ℤ high → SlotIs k j i → None ≡ unless_empty (cut i r)
    → FlowsTo (op.SlotInRange j low high to) k None (Some (to, k))
slot_outside k j i r low high to e some ordered slot none =
    by_slot k j i low high to None (Some (to, k)) slot
    (λ q. outside_only q to i.low i.high low high _ k some ordered (cut_none i (range_of low high) (rw e at none)))

pub slot_inside : (k m : AbstractState) (j : ℕ) (i r n : IntegerInterval) (low high : ℤ) (to : ℕ)
    → r ≡ range_of low high → i.low ≤ℤ i.high → low ≤ℤ high → SlotIs k j i → IsWithin i r
    → Some n ≡ unless_empty (cut i r) → m ≡ slot_narrowed k j n → FlowsTo (op.SlotInRange j low high to) k (Some m) None
slot_inside k m j i r n low high to e some ordered slot within has is =
    let two = cut_some i (range_of low high) n (rw e at has) in
    let both : IsWithin i (range_of low high) = rw e at within in
    by_slot k j i low high to (Some m) None slot (λ q. rw (is, two.1) (inside_only q to i.low i.high low high _ k some ordered both.0 both.1))

pub slot_both : (k m : AbstractState) (j : ℕ) (i r n : IntegerInterval) (low high : ℤ) (to : ℕ) → r ≡ range_of low high
    → i.low ≤ℤ i.high → low ≤ℤ high → SlotIs k j i → (IsWithin i r → ⊥) → Some n ≡ unless_empty (cut i r)
    → m ≡ slot_narrowed k j n → FlowsTo (op.SlotInRange j low high to) k (Some m) (Some (to, k))
slot_both k m j i r n low high to e some ordered slot beyond has is =
    let two = cut_some i (range_of low high) n (rw e at has) in
    let not_both : IsWithin i (range_of low high) → ⊥ = rw e at beyond in
    by_slot k j i low high to (Some m) (Some (to, k)) slot (λ q. rw (is, two.1) (both_ways_open q to i.low i.high low high _ k some ordered two.0 not_both))
