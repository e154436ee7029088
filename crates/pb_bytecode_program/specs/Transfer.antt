-- Abstract states, and what each instruction does to one: its transfer function (abstract
-- interpretation, Cousot and Cousot 1977), which has no value where the instruction's rule fails.
use Rattle.std.specs.Prelude.{ℕ, zero, suc, ◌+◌, Bool, true, false, not, ◌&&◌, ◌||◌, List, [], ◌∷◌, ◌++◌, length, reverse, Option, Some, None, ℤ, pos, neg_ℤ, int_lt, int_le, ◌==◌, nat_lt, nat_le, if◌then◌else◌, slice_get}
use Rattle.std.specs.Int.{int_min, int_max}
use Rattle.pb_base.specs.declared.limits.TheConstants.{MAX_OPERANDS, MAX_BRACKETS, MAX_LOOPS}
use Rattle.pb_bytecode_program.specs.Values.{is_inhabited, has_divisor, fits64}
use Rattle.pb_bytecode_program.specs.Abstract.{abstraction_of, interval_of, absolute_interval, same_kind}
use Rattle.pb_bytecode_program.specs.Machine.{Program, carrier_of}
use Rattle.pb_bytecode_program.specs.declared.domain.AbstractValue.{AbstractValue}
use Rattle.pb_bytecode_program.specs.declared.domain.AbstractValue.TheVariants as abstract
use Rattle.pb_sorts.specs.declared.carrier.Carrier.{Carrier}
use Rattle.pb_sorts.specs.declared.carrier.Carrier.TheVariants as carrier
use Rattle.pb_bytecode_program.specs.declared.instruction.Op.{Op}
use Rattle.pb_bytecode_program.specs.declared.instruction.Op.TheVariants as op

-- what is known at a place: of the operands, of the slots, of the brackets and of the roots
pub record AbstractState : Type 0 where
  pub operands : List AbstractValue  -- above the floor, the topmost first
  pub operands_below : ℕ  -- how many operands are below the innermost loop's
  pub parameters : List AbstractValue
  -- the loops under way, the innermost first: each slot with its value
  pub loops : List (ℕ × AbstractValue)
  pub brackets : ℕ  -- how many are open
  pub brackets_below : ℕ  -- how many of them a body can't close
  pub roots : ℕ

-- where control flows, and with what
pub record Edge : Type 0 where
  pub to : ℕ
  pub state : AbstractState

-- None: the instruction's rule fails
abbrev pub Flow : Type 0
Flow = Option (List Edge)

-- ---- operands

-- where an operand is popped: one stands above the floor (V01)
abbrev pub abstract_pop : List AbstractValue → (AbstractValue → List AbstractValue → Flow) → Flow
abstract_pop [] go = None
abstract_pop (s ∷ ss) go = go s ss

-- where a number is popped: one stands on top (V01, V02)
abbrev pub abstract_pop_int : List AbstractValue → (ℤ → ℤ → List AbstractValue → Flow) → Flow
abstract_pop_int [] go = None
abstract_pop_int (abstract.Int l h ∷ ss) go = go l h ss
abstract_pop_int (abstract.Bool ∷ ss) go = None
abstract_pop_int (abstract.Enum s n ∷ ss) go = None

abbrev pub abstract_pop_bool : List AbstractValue → (List AbstractValue → Flow) → Flow
abstract_pop_bool [] go = None
abstract_pop_bool (abstract.Bool ∷ ss) go = go ss
abstract_pop_bool (abstract.Int l h ∷ ss) go = None
abstract_pop_bool (abstract.Enum s n ∷ ss) go = None

abbrev pub to_next_place : ℕ → AbstractState → Flow
to_next_place q k = Some (record { to = q + 1; state = k } ∷ [])

-- where an operand is pushed: with those below the floor there are MAX_OPERANDS at most (V10)
abbrev pub abstract_push : ℕ → AbstractState → List AbstractValue → AbstractValue → Flow
abstract_push q k ss s =
    if nat_lt (length ss + k.operands_below) MAX_OPERANDS
    then to_next_place q (record k { operands = s ∷ ss }) else None

-- where a number is pushed: its interval is within 64 bits (V04)
abbrev pub abstract_push_int : ℕ → AbstractState → List AbstractValue → ℤ × ℤ → Flow
abstract_push_int q k ss i =
    if fits64 i.0 i.1 then abstract_push q k ss (abstract.Int i.0 i.1) else None

-- V08: each value that the abstract value stands for is one of the carrier
abbrev pub accepts : AbstractValue → Carrier → Bool
accepts abstract.Bool carrier.Bool = true
accepts (abstract.Int l h) (carrier.Range range) = int_le range.low l && int_le h range.high
accepts (abstract.Enum s n) (carrier.Enum enum) = (s == enum.sort) && nat_le n enum.count
accepts _ _ = false

abbrev pub abstract_pop_args : List Carrier → List AbstractValue → (List AbstractValue → Flow)
    → Flow
abstract_pop_args [] ss go = go ss
abstract_pop_args (c ∷ cs) [] go = None
abstract_pop_args (c ∷ cs) (s ∷ ss) go = if accepts s c then abstract_pop_args cs ss go else None

-- ---- slots

abbrev pub abstract_slot : List (ℕ × AbstractValue) → List AbstractValue → ℕ → Option AbstractValue
abstract_slot [] parameters i = slice_get parameters i
abstract_slot (l ∷ ls) parameters i = if i == l.0 then Some l.1 else abstract_slot ls parameters i

abbrev pub with_abstract_slot : Option AbstractValue → (AbstractValue → Flow) → Flow
with_abstract_slot None go = None
with_abstract_slot (Some s) go = go s

abbrev pub with_interval : AbstractValue → (ℤ → ℤ → Flow) → Flow
with_interval (abstract.Int l h) go = go l h
with_interval abstract.Bool go = None
with_interval (abstract.Enum s n) go = None

abbrev pub set_param : List AbstractValue → ℕ → AbstractValue → List AbstractValue
set_param [] i s = []
set_param (x ∷ xs) zero s = s ∷ xs
set_param (x ∷ xs) (suc i) s = x ∷ set_param xs i s

abbrev pub among : List (ℕ × AbstractValue) → ℕ → Bool
among [] i = false
among (l ∷ ls) i = (i == l.0) || among ls i

abbrev pub set_loop : List (ℕ × AbstractValue) → ℕ → AbstractValue → List (ℕ × AbstractValue)
set_loop [] i s = []
set_loop (l ∷ ls) i s = if i == l.0 then (l.0, s) ∷ ls else l ∷ set_loop ls i s

abbrev pub set_slot : AbstractState → ℕ → AbstractValue → AbstractState
set_slot k i s =
    if among k.loops i then record k { loops = set_loop k.loops i s }
    else record k { parameters = set_param k.parameters i s }

-- ---- brackets and roots

-- where a leaf or a bracket is written: outside all brackets it is the one root (V14)
abbrev pub abstract_root : ℕ → ℕ → (ℕ → Flow) → Flow
abstract_root (suc n) roots go = go roots
abstract_root zero zero go = go 1
abstract_root zero (suc n) go = None

-- where a bracket is closed: it is open, and was opened in this body (V13)
abbrev pub abstract_close : ℕ → ℕ → (ℕ → Flow) → Flow
abstract_close brackets_below zero go = None
abstract_close brackets_below (suc n) go = if nat_le brackets_below n then go n else None

-- where the code ends: no loop (V12) and no bracket (V13) is open, and there is one root (V14)
abbrev pub abstract_end : List (ℕ × AbstractValue) → ℕ → ℕ → Flow
abstract_end [] zero (suc zero) = Some []
abstract_end _ _ _ = None

-- ---- loops

abbrev pub abstract_loop : ℕ → AbstractState → ℕ → Option Carrier → Flow
abstract_loop q k i None = None
abstract_loop q k i (Some c) =
    if nat_lt (length k.loops) MAX_LOOPS && not (among k.loops i) && is_inhabited c
    then to_next_place q
    (record {
      operands = [];
      operands_below = length k.operands + k.operands_below;
      parameters = k.parameters;
      loops = (i, abstraction_of c) ∷ k.loops;
      brackets = k.brackets;
      brackets_below = k.brackets;
      roots = k.roots;
    })
    else None

-- where a body ends: it leaves operands, brackets and roots as they were (V12); home: what is known
-- at the LOOP
abbrev pub abstract_next : ℕ → AbstractState → List AbstractValue → Option AbstractState → Flow
abstract_next q k ss None = None
abstract_next q k (s ∷ ss) (Some home) = None
abstract_next q k [] (Some home) =
    if (k.brackets == home.brackets) && (k.roots == home.roots) then to_next_place q home else None

-- ---- one instruction

abbrev pub when : Bool → Edge → List Edge
when b e = if b then e ∷ [] else []

-- goes on where the interval l..h meets low..high, and jumps where it isn't inside
abbrev pub range_edges : ℕ → ℕ → ℤ → ℤ → ℤ → ℤ → AbstractState → AbstractState → Flow
range_edges q to l h low high inside outside =
    Some (when (int_le l high && int_le low h) (record { to = q + 1; state = inside })
    ++ when (not (int_le low l && int_le h high)) (record { to = to; state = outside }))

abbrev pub enum_fits : Option ℕ → ℕ → Bool
enum_fits None i = false
enum_fits (Some n) i = nat_lt i n

abbrev pub count_or_zero : Option ℕ → ℕ
count_or_zero None = 0
count_or_zero (Some n) = n

abbrev pub abstract_call : ℕ → AbstractState → Option (List Carrier) → Flow
abstract_call q k None = None
abstract_call q k (Some cs) =
    abstract_pop_args (reverse cs) k.operands
    (λ ss. abstract_root k.brackets k.roots
    (λ r. to_next_place q (record k { operands = ss; roots = r })))

-- what the instruction at place q does to what is known there; no divisor may be below 1 (V03)
abbrev pub transfer : Program → Option AbstractState → ℕ → Op → AbstractState → Flow
transfer p home q op.End k = abstract_end k.loops k.brackets k.roots
transfer p home q (op.PushInt z) k = abstract_push q k k.operands (abstract.Int z z)
transfer p home q (op.PushBool b) k = abstract_push q k k.operands abstract.Bool
transfer p home q (op.PushEnum s i) k =
    if enum_fits (slice_get p.sorts s) i
    then abstract_push q k k.operands (abstract.Enum s (count_or_zero (slice_get p.sorts s)))
    else None
transfer p home q (op.Get i) k =
    with_abstract_slot (abstract_slot k.loops k.parameters i) (λ s. abstract_push q k k.operands s)
transfer p home q op.Pop k =
    abstract_pop k.operands (λ s ss. to_next_place q (record k { operands = ss }))
transfer p home q (op.Arithmetic c) k =
    abstract_pop_int k.operands (λ m n ss. abstract_pop_int ss (λ l h ts.
    if has_divisor c && int_lt m (pos 1) then None
    else abstract_push_int q k ts (interval_of c l h m n)))
transfer p home q op.Negate k =
    abstract_pop_int k.operands (λ l h ss. abstract_push_int q k ss (neg_ℤ h, neg_ℤ l))
transfer p home q op.Absolute k =
    abstract_pop_int k.operands (λ l h ss. abstract_push_int q k ss (absolute_interval l h))
transfer p home q (op.Compare o) k =
    abstract_pop_int k.operands
    (λ m n ss. abstract_pop_int ss (λ l h ts. abstract_push q k ts abstract.Bool))
transfer p home q (op.Equality wanted) k =
    abstract_pop k.operands
    (λ t ss.
    abstract_pop ss (λ s ts. if same_kind s t then abstract_push q k ts abstract.Bool else None))
transfer p home q op.Not k = abstract_pop_bool k.operands (λ ss. abstract_push q k ss abstract.Bool)
transfer p home q (op.Logic c) k =
    abstract_pop_bool k.operands
    (λ ss. abstract_pop_bool ss (λ ts. abstract_push q k ts abstract.Bool))
transfer p home q (op.Jump to) k = Some (record { to = to; state = k } ∷ [])
transfer p home q (op.JumpIf on to) k =
    abstract_pop_bool k.operands (λ ss.
    Some (record { to = q + 1; state = record k { operands = ss } }
    ∷ record { to = to; state = record k { operands = ss } } ∷ []))
transfer p home q (op.InRange low high to) k =
    abstract_pop_int k.operands
    (λ l h ss.
    range_edges q to l h low high
    (record k { operands = abstract.Int (int_max l low) (int_min h high) ∷ ss })
    (record k { operands = abstract.Int l h ∷ ss }))
transfer p home q (op.SlotInRange i low high to) k =
    with_abstract_slot (abstract_slot k.loops k.parameters i) (λ s. with_interval s (λ l h.
    range_edges q to l h low high (set_slot k i (abstract.Int (int_max l low) (int_min h high))) k))
transfer p home q (op.Loop i) k = abstract_loop q k i (carrier_of p i)
transfer p home q op.Next k = abstract_next q k k.operands home
transfer p home q (op.Open c) k =
    if nat_lt k.brackets MAX_BRACKETS
    then abstract_root k.brackets k.roots
    (λ r. to_next_place q (record k { brackets = k.brackets + 1; roots = r })) else None
transfer p home q op.Close k =
    abstract_close k.brackets_below k.brackets (λ n. to_next_place q (record k { brackets = n }))
transfer p home q (op.Emit l) k =
    abstract_root k.brackets k.roots (λ r. to_next_place q (record k { roots = r }))
transfer p home q (op.Call eq) k = abstract_call q k (slice_get p.callees eq)
