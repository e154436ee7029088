-- Lists of values whose intervals are not empty: reading and writing them.
use Rattle.std.proofs.Common.{◌≡◌, ℕ, zero, suc, true, List, [], ◌∷◌, Option, Some, None, map, arith}
use Rattle.std.specs.Prelude.{slice_get, slice_set}
use Rattle.pb_bytecode_program.specs.Values.{is_inhabited}
use Rattle.pb_bytecode_program.specs.Abstract.{abstraction_of}
use Rattle.pb_bytecode_program.proofs.Ints.{from_le}
use Rattle.pb_bytecode_program.specs.declared.domain.AbstractValue.{AbstractValue}
use Rattle.pb_sorts.specs.declared.carrier.Carrier.{Carrier}
use Rattle.pb_sorts.specs.declared.carrier.Carrier.TheVariants as carrier
use Rattle.std.proofs.lemmas.Int.{ints, clamps}
use Rattle.std.specs.Prelude.{◌==◌}
use Rattle.std.specs.Int.{int_min, int_max}
use Rattle.std.specs.Prelude.{IfSome}
use Rattle.std.proofs.lemmas.Bool.{cond-true, eq-eqb, lt-ltb}
use Rattle.std.proofs.Common.{◌<◌, ◌≤◌, ◌++◌, take, drop, get_or, Bool, false, cond, suc, length, refl, ap, sym, max}
use Rattle.pb_bytecode_program.specs.Transfer.{abstract_slot, set_loop, set_param}
use Rattle.pb_bytecode_program.specs.declared.domain.AbstractValue.TheVariants as abstract
use Rattle.pb_verifier_states.specs.Join.{hull_of}
use Rattle.pb_verifier_states.specs.Inhabited.{HasOrderedEnds, HaveOrderedEnds, LoopsHaveOrderedEnds}

pub ordered_at : (vs : List AbstractValue) (i : ℕ) (v : AbstractValue) → HaveOrderedEnds vs → slice_get vs i ≡ Some v → HasOrderedEnds v
ordered_at [] i v h e = cc
ordered_at (x ∷ vs) zero v h e = let same : x ≡ v = cc in rw same at (h.0)
ordered_at (x ∷ vs) (suc i) v h e = ordered_at vs i v h.1 e

-- a carrier's type says that it isn't empty
pub carrier_inhabited : (c : Carrier) → is_inhabited c ≡ true
carrier_inhabited carrier.Bool = refl
carrier_inhabited (carrier.Enum enumeration) = lt-ltb 0 enumeration.count enumeration.not_empty
carrier_inhabited (carrier.Range range) = from_le range.low range.high range.not_empty

pub carrier_ordered : (c : Carrier) → HasOrderedEnds (abstraction_of c)
carrier_ordered carrier.Bool = tt
carrier_ordered (carrier.Enum enumeration) = tt
carrier_ordered (carrier.Range range) = range.not_empty

pub carriers_ordered : (cs : List Carrier) → HaveOrderedEnds (map abstraction_of cs)
carriers_ordered [] = tt
carriers_ordered (c ∷ cs) = (carrier_ordered c, carriers_ordered cs)

-- ---- slots

pub slot_ordered : (ls : List (ℕ × AbstractValue)) (ps : List AbstractValue) (i : ℕ) (v : AbstractValue)
    → LoopsHaveOrderedEnds ls → HaveOrderedEnds ps → abstract_slot ls ps i ≡ Some v → HasOrderedEnds v
slot_ordered [] ps i v h o e = ordered_at ps i v o e
slot_ordered (l ∷ ls) ps i v h o e = by (i == l.0) e (λ f. slot_ordered ls ps i v h.1 o f)
  where
    by : (b : Bool) → cond b (Some l.1) (abstract_slot ls ps i) ≡ Some v → (abstract_slot ls ps i ≡ Some v → HasOrderedEnds v) → HasOrderedEnds v
    by true f r = let same : l.1 ≡ v = cc in rw same at (h.0)
    by false f r = r f

pub slot_if_ordered : (ls : List (ℕ × AbstractValue)) (ps : List AbstractValue) (i : ℕ) (o : Option AbstractValue)
    → LoopsHaveOrderedEnds ls → HaveOrderedEnds ps → o ≡ abstract_slot ls ps i → IfSome o HasOrderedEnds
slot_if_ordered ls ps i None h k e = tt
slot_if_ordered ls ps i (Some v) h k e = slot_ordered ls ps i v h k (sym e)

pub set_loop_ordered : (ls : List (ℕ × AbstractValue)) (i : ℕ) (v : AbstractValue) → LoopsHaveOrderedEnds ls → HasOrderedEnds v → LoopsHaveOrderedEnds (set_loop ls i v)
set_loop_ordered [] i v h o = tt
set_loop_ordered (l ∷ ls) i v h o = by (i == l.0) (set_loop_ordered ls i v h.1 o)
  where
    by : (b : Bool) → LoopsHaveOrderedEnds (set_loop ls i v) → LoopsHaveOrderedEnds (cond b ((l.0, v) ∷ ls) (l ∷ set_loop ls i v))
    by true r = (o, h.1)
    by false r = (h.0, r)

pub set_param_ordered : (vs : List AbstractValue) (i : ℕ) (v : AbstractValue) → HaveOrderedEnds vs → HasOrderedEnds v → HaveOrderedEnds (set_param vs i v)
set_param_ordered [] i v h o = tt
set_param_ordered (x ∷ vs) zero v h o = (o, h.1)
set_param_ordered (x ∷ vs) (suc i) v h o = (h.0, set_param_ordered vs i v h.1 o)

pub set_param_is : (vs : List AbstractValue) (i : ℕ) (v : AbstractValue) → set_param vs i v ≡ slice_set vs i v
set_param_is [] i v = refl
set_param_is (x ∷ vs) zero v = refl
set_param_is (x ∷ vs) (suc i) v = ap (λ (ys : List AbstractValue). x ∷ ys) (set_param_is vs i v)

pub set_param_past : (vs : List AbstractValue) (i : ℕ) (v : AbstractValue) → length vs ≤ i → vs ≡ set_param vs i v
set_param_past [] i v h = refl
set_param_past (x ∷ vs) zero v h = absurd (omega arith)
set_param_past (x ∷ vs) (suc i) v h = ap (λ (ys : List AbstractValue). x ∷ ys) (set_param_past vs i v (omega arith))

-- the first loop of the slot is written
pub set_loop_here : (ls : List (ℕ × AbstractValue)) (i slot : ℕ) (d : ℕ × AbstractValue) (v : AbstractValue)
    → i < length ls → (get_or ls i d).0 ≡ slot → slice_set ls i ((get_or ls i d).0, v) ≡ take i ls ++ set_loop (drop i ls) slot v
set_loop_here [] i slot d v h e = absurd (omega arith)
set_loop_here (l ∷ ls) zero slot d v h e = sym (cond-true (slot == l.0) ((l.0, v) ∷ ls) (l ∷ set_loop ls slot v) (eq-eqb slot l.0 (sym e)))
set_loop_here (l ∷ ls) (suc i) slot d v h e = ap (λ (ys : List (ℕ × AbstractValue)). l ∷ ys) (set_loop_here ls i slot d v (omega arith) e)

-- the items that were written back
pub written_back : {A : Type 0} → (n : ℕ) (xs zs : List A) → n ≡ length xs → take n (xs ++ zs) ≡ xs
written_back zero [] zs e = refl
written_back zero (x ∷ xs) zs e = absurd (omega arith)
written_back (suc n) [] zs e = absurd (omega arith)
written_back (suc n) (x ∷ xs) zs e = ap (λ ys. x ∷ ys) (written_back n xs zs (omega arith))

pub set_loop_long : (ls : List (ℕ × AbstractValue)) (i : ℕ) (v : AbstractValue) → length (set_loop ls i v) ≡ length ls
set_loop_long [] i v = refl
set_loop_long (l ∷ ls) i v = by (i == l.0) (set_loop_long ls i v)
  where
    by : (b : Bool) → length (set_loop ls i v) ≡ length ls → length (cond b ((l.0, v) ∷ ls) (l ∷ set_loop ls i v)) ≡ suc (length ls)
    by true r = refl
    by false r = ap suc r

pub set_param_long : (vs : List AbstractValue) (i : ℕ) (v : AbstractValue) → length (set_param vs i v) ≡ length vs
set_param_long [] i v = refl
set_param_long (x ∷ vs) zero v = refl
set_param_long (x ∷ vs) (suc i) v = ap suc (set_param_long vs i v)

-- ---- joins

hull_ordered : (s t u : AbstractValue) → hull_of s t ≡ Some u → HasOrderedEnds s → HasOrderedEnds t → HasOrderedEnds u
hull_ordered s t abstract.Bool e a b = tt
hull_ordered s t (abstract.Enum x n) e a b = tt
hull_ordered (abstract.Int l h) (abstract.Int m k) (abstract.Int x y) e a b =
    let f : abstract.Int (int_min l m) (int_max h k) ≡ abstract.Int x y = cc in let g : int_min l m ≡ x = cc in
    let j : int_max h k ≡ y = cc in omega (arith, ints, clamps)
hull_ordered abstract.Bool t (abstract.Int x y) e a b = absurd (none_from t e)
  where
    none_from : (t : AbstractValue) → hull_of abstract.Bool t ≡ Some (abstract.Int x y) → ⊥
    none_from abstract.Bool e = cc
    none_from (abstract.Int l h) e = cc
    none_from (abstract.Enum s n) e = cc
hull_ordered (abstract.Int l h) abstract.Bool (abstract.Int x y) e a b = cc
hull_ordered (abstract.Int l h) (abstract.Enum s n) (abstract.Int x y) e a b = cc
hull_ordered (abstract.Enum s n) abstract.Bool (abstract.Int x y) e a b = cc
hull_ordered (abstract.Enum s n) (abstract.Int l h) (abstract.Int x y) e a b = cc
hull_ordered (abstract.Enum s n) (abstract.Enum t m) (abstract.Int x y) e a b = absurd (by (s == t) e)
  where
    by : (c : Bool) → cond c (Some (abstract.Enum s (max n m))) None ≡ Some (abstract.Int x y) → ⊥
    by true f = cc
    by false f = cc

-- ---- joins made in place

ordered_item : (vs : List AbstractValue) (i : ℕ) (d : AbstractValue) → i < length vs → HaveOrderedEnds vs → HasOrderedEnds (get_or vs i d)
ordered_item [] i d l h = absurd (omega arith)
ordered_item (x ∷ vs) zero d l h = h.0
ordered_item (x ∷ vs) (suc i) d l h = ordered_item vs i d (omega arith) h.1

ordered_set : (vs : List AbstractValue) (i : ℕ) (v : AbstractValue) → HaveOrderedEnds vs → HasOrderedEnds v → HaveOrderedEnds (slice_set vs i v)
ordered_set [] i v h o = tt
ordered_set (x ∷ vs) zero v h o = (o, h.1)
ordered_set (x ∷ vs) (suc i) v h o = (h.0, ordered_set vs i v h.1 o)

-- an item that is widened
pub widened_ordered : (vs ws : List AbstractValue) (i : ℕ) (d e u : AbstractValue) → i < length vs → i < length ws
    → Some u ≡ hull_of (get_or vs i d) (get_or ws i e) → HaveOrderedEnds vs → HaveOrderedEnds ws → HaveOrderedEnds (slice_set vs i u)
widened_ordered vs ws i d e u l m j a b =
    ordered_set vs i u a (hull_ordered (get_or vs i d) (get_or ws i e) u (sym j) (ordered_item vs i d l a) (ordered_item ws i e m b))

ordered_loop : (ls : List (ℕ × AbstractValue)) (i : ℕ) (d : ℕ × AbstractValue) → i < length ls → LoopsHaveOrderedEnds ls → HasOrderedEnds (get_or ls i d).1
ordered_loop [] i d l h = absurd (omega arith)
ordered_loop (x ∷ ls) zero d l h = h.0
ordered_loop (x ∷ ls) (suc i) d l h = ordered_loop ls i d (omega arith) h.1

ordered_loop_set : (ls : List (ℕ × AbstractValue)) (i : ℕ) (v : ℕ × AbstractValue) → LoopsHaveOrderedEnds ls → HasOrderedEnds v.1 → LoopsHaveOrderedEnds (slice_set ls i v)
ordered_loop_set [] i v h o = tt
ordered_loop_set (x ∷ ls) zero v h o = (o, h.1)
ordered_loop_set (x ∷ ls) (suc i) v h o = (h.0, ordered_loop_set ls i v h.1 o)

-- the slot of a loop that is widened
pub widened_loop_ordered : (ls ms : List (ℕ × AbstractValue)) (i slot : ℕ) (d e : ℕ × AbstractValue) (u : AbstractValue) → i < length ls → i < length ms
    → Some u ≡ hull_of (get_or ls i d).1 (get_or ms i e).1 → LoopsHaveOrderedEnds ls → LoopsHaveOrderedEnds ms → LoopsHaveOrderedEnds (slice_set ls i (slot, u))
widened_loop_ordered ls ms i slot d e u l m j a b =
    ordered_loop_set ls i (slot, u) a (hull_ordered (get_or ls i d).1 (get_or ms i e).1 u (sym j) (ordered_loop ls i d l a) (ordered_loop ms i e m b))
