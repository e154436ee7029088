-- Where control flows from an instruction: to the next place, or to its target.
use Rattle.std.proofs.Common.{ℕ, zero, suc, ◌+◌, Bool, true, false, cond, not, ◌&&◌, List, [], ◌∷◌, ◌++◌, length, Option, Some, None}
use Rattle.std.specs.Prelude.{ℤ, int_le, int_lt, slice_get, nat_lt, nat_le, ◌==◌, reverse}
use Rattle.std.specs.Prelude.{pos, neg_ℤ}
use Rattle.pb_bytecode_program.specs.Values.{fits64, is_inhabited, has_divisor}
use Rattle.pb_bytecode_program.specs.Abstract.{abstraction_of, interval_of, absolute_interval, same_kind}
use Rattle.pb_bytecode_program.specs.Machine.{Program, carrier_of}
use Rattle.pb_bytecode_program.specs.Transfer
use Rattle.pb_bytecode_program.specs.Transfer.{AbstractState, Edge, Flow, transfer}
use Rattle.pb_bytecode_program.specs.declared.domain.AbstractValue.{AbstractValue}
use Rattle.pb_bytecode_program.specs.declared.domain.AbstractValue.TheVariants as abstract
use Rattle.pb_sorts.specs.declared.carrier.Carrier.{Carrier}
use Rattle.pb_bytecode_program.specs.declared.instruction.Op.{Op}
use Rattle.pb_bytecode_program.specs.declared.instruction.Op.TheVariants as op
use Rattle.pb_bytecode_program.proofs.Monotone.{AllEdges}

-- where the rule is met, P holds of what flows
abbrev pub MayHold : (ℕ → AbstractState → Type 0) → Flow → Type 0
MayHold P None = Unit {0}
MayHold P (Some es) = AllEdges P es

abbrev pub TargetHolds : (ℕ → Type 0) → Op → Type 0
TargetHolds P (op.Jump to) = P to
TargetHolds P (op.JumpIf on to) = P to
TargetHolds P (op.InRange low high to) = P to
TargetHolds P (op.SlotInRange i low high to) = P to
TargetHolds P _ = Unit {0}

module _ (P : ℕ → Type 0) (q : ℕ) (next : P (q + 1)) where
  abbrev Goes : Flow → Type 0
  Goes F = MayHold (λ to m. P to) F

  by_test : (b : Bool) (F : Flow) → Goes F → Goes (cond b F None)
  by_test true F h = h
  by_test false F h = tt

  by_no_test : (b : Bool) (F : Flow) → Goes F → Goes (cond b None F)
  by_no_test true F h = tt
  by_no_test false F h = h

  by_push : (k : AbstractState) (ss : List AbstractValue) (s : AbstractValue) → Goes (Transfer.abstract_push q k ss s)
  by_push k ss s = by_test (nat_lt (length ss + k.operands_below) 32) _ (next, tt)

  by_push_int : (k : AbstractState) (ss : List AbstractValue) (i : ℤ × ℤ) → Goes (Transfer.abstract_push_int q k ss i)
  by_push_int k ss i = by_test (fits64 i.0 i.1) _ (by_push k ss (abstract.Int i.0 i.1))

  by_any : (ss : List AbstractValue) (go : AbstractValue → List AbstractValue → Flow) → ((s : AbstractValue) (ts : List AbstractValue) → Goes (go s ts)) → Goes (Transfer.abstract_pop ss go)
  by_any [] go h = tt
  by_any (s ∷ ss) go h = h s ss

  by_int : (ss : List AbstractValue) (go : ℤ → ℤ → List AbstractValue → Flow) → ((l h : ℤ) (ts : List AbstractValue) → Goes (go l h ts)) → Goes (Transfer.abstract_pop_int ss go)
  by_int [] go h = tt
  by_int (abstract.Bool ∷ ss) go h = tt
  by_int (abstract.Enum s n ∷ ss) go h = tt
  by_int (abstract.Int l k ∷ ss) go h = h l k ss

  by_bool : (ss : List AbstractValue) (go : List AbstractValue → Flow) → ((ts : List AbstractValue) → Goes (go ts)) → Goes (Transfer.abstract_pop_bool ss go)
  by_bool [] go h = tt
  by_bool (abstract.Bool ∷ ss) go h = h ss
  by_bool (abstract.Enum s n ∷ ss) go h = tt
  by_bool (abstract.Int l k ∷ ss) go h = tt

  by_args : (cs : List Carrier) (ss : List AbstractValue) (go : List AbstractValue → Flow) → ((ts : List AbstractValue) → Goes (go ts)) → Goes (Transfer.abstract_pop_args cs ss go)
  by_args [] ss go h = h ss
  by_args (c ∷ cs) [] go h = tt
  by_args (c ∷ cs) (s ∷ ss) go h = by_test (Transfer.accepts s c) _ (by_args cs ss go h)

  by_root : (n r : ℕ) (go : ℕ → Flow) → ((u : ℕ) → Goes (go u)) → Goes (Transfer.abstract_root n r go)
  by_root (suc n) r go h = h r
  by_root zero zero go h = h 1
  by_root zero (suc r) go h = tt

  by_slot : (o : Option AbstractValue) (go : AbstractValue → Flow) → ((s : AbstractValue) → Goes (go s)) → Goes (Transfer.with_abstract_slot o go)
  by_slot None go h = tt
  by_slot (Some s) go h = h s

  by_interval : (s : AbstractValue) (go : ℤ → ℤ → Flow) → ((l h : ℤ) → Goes (go l h)) → Goes (Transfer.with_interval s go)
  by_interval abstract.Bool go h = tt
  by_interval (abstract.Enum s n) go h = tt
  by_interval (abstract.Int l k) go h = h l k

  by_range : (a b : Bool) (to : ℕ) (k m : AbstractState) → P to → AllEdges (λ to m. P to) (Transfer.when a (record { to = q + 1; state = k }) ++ Transfer.when b (record { to = to; state = m }))
  by_range true true to k m h = (next, (h, tt))
  by_range true false to k m h = (next, tt)
  by_range false true to k m h = (h, tt)
  by_range false false to k m h = tt

  by_close : (f n : ℕ) (go : ℕ → Flow) → ((u : ℕ) → Goes (go u)) → Goes (Transfer.abstract_close f n go)
  by_close f zero go h = tt
  by_close f (suc n) go h = by_test (nat_le f n) _ (h n)

  by_end : (ls : List (ℕ × AbstractValue)) (n r : ℕ) → Goes (Transfer.abstract_end ls n r)
  by_end [] zero zero = tt
  by_end [] zero (suc zero) = tt
  by_end [] zero (suc (suc r)) = tt
  by_end [] (suc n) r = tt
  by_end (l ∷ ls) n r = tt

  by_loop : (k : AbstractState) (i : ℕ) (o : Option Carrier) → Goes (Transfer.abstract_loop q k i o)
  by_loop k i None = tt
  by_loop k i (Some c) =
      by_test (nat_lt (length k.loops) 8 && not (Transfer.among k.loops i) && is_inhabited c)
      (Transfer.to_next_place q
      (record {
        operands = [];
        operands_below = length k.operands + k.operands_below;
        parameters = k.parameters;
        loops =
            (i, abstraction_of c) ∷ k.loops;
        brackets = k.brackets;
        brackets_below = k.brackets;
        roots = k.roots;
      })) (next, tt)

  by_next : (k : AbstractState) (ss : List AbstractValue) (o : Option AbstractState) → Goes (Transfer.abstract_next q k ss o)
  by_next k ss None = tt
  by_next k (s ∷ ss) (Some home) = tt
  by_next k [] (Some home) = by_test ((k.brackets == home.brackets) && (k.roots == home.roots)) _ (next, tt)

  by_call : (k : AbstractState) (o : Option (List Carrier)) → Goes (Transfer.abstract_call q k o)
  by_call k None = tt
  by_call k (Some cs) = by_args (reverse cs) k.operands _ (λ ss. by_root k.brackets k.roots _ (λ r. (next, tt)))

  pub transfer_goes : (p : Program) (home : Option AbstractState) (i : Op) (k : AbstractState) → TargetHolds P i → MayHold (λ to m. P to) (transfer p home q i k)
  transfer_goes p home op.End k h = by_end k.loops k.brackets k.roots
  transfer_goes p home (op.PushInt z) k h = by_push k k.operands (abstract.Int z z)
  transfer_goes p home (op.PushBool b) k h = by_push k k.operands abstract.Bool
  transfer_goes p home (op.PushEnum s j) k h = by_test (Transfer.enum_fits (slice_get p.sorts s) j) _ (by_push k k.operands (abstract.Enum s (Transfer.count_or_zero (slice_get p.sorts s))))
  transfer_goes p home (op.Get j) k h = by_slot (Transfer.abstract_slot k.loops k.parameters j) _ (λ s. by_push k k.operands s)
  transfer_goes p home op.Pop k h = by_any k.operands _ (λ s ss. (next, tt))
  transfer_goes p home (op.Arithmetic a) k h =
      by_int k.operands _
      (λ m n ss. by_int ss _
      (λ l u ts. by_no_test (has_divisor a && int_lt m (pos 1)) (Transfer.abstract_push_int q k ts (interval_of a l u m n))
      (by_push_int k ts (interval_of a l u m n))))
  transfer_goes p home op.Negate k h = by_int k.operands _ (λ l u ss. by_push_int k ss (neg_ℤ u, neg_ℤ l))
  transfer_goes p home op.Absolute k h = by_int k.operands _ (λ l u ss. by_push_int k ss (absolute_interval l u))
  transfer_goes p home (op.Compare o) k h = by_int k.operands _ (λ m n ss. by_int ss _ (λ l u ts. by_push k ts abstract.Bool))
  transfer_goes p home (op.Equality w) k h = by_any k.operands _ (λ t ss. by_any ss _ (λ s ts. by_test (same_kind s t) (Transfer.abstract_push q k ts abstract.Bool) (by_push k ts abstract.Bool)))
  transfer_goes p home op.Not k h = by_bool k.operands _ (λ ss. by_push k ss abstract.Bool)
  transfer_goes p home (op.Logic c) k h = by_bool k.operands _ (λ ss. by_bool ss _ (λ ts. by_push k ts abstract.Bool))
  transfer_goes p home (op.Jump to) k h = (h, tt)
  transfer_goes p home (op.JumpIf on to) k h = by_bool k.operands _ (λ ss. (next, (h, tt)))
  transfer_goes p home (op.InRange low high to) k h = by_int k.operands _ (λ l u ss. by_range (int_le l high && int_le low u) (not (int_le low l && int_le u high)) to _ _ h)
  transfer_goes p home (op.SlotInRange j low high to) k h =
      by_slot (Transfer.abstract_slot k.loops k.parameters j) _
      (λ s. by_interval s _ (λ l u. by_range (int_le l high && int_le low u) (not (int_le low l && int_le u high)) to _ _ h))
  transfer_goes p home (op.Loop j) k h = by_loop k j (carrier_of p j)
  transfer_goes p home op.Next k h = by_next k k.operands home
  transfer_goes p home (op.Open c) k h = by_test (nat_lt k.brackets 32) _ (by_root k.brackets k.roots _ (λ r. (next, tt)))
  transfer_goes p home op.Close k h = by_close k.brackets_below k.brackets _ (λ n. (next, tt))
  transfer_goes p home (op.Emit l) k h = by_root k.brackets k.roots _ (λ r. (next, tt))
  transfer_goes p home (op.Call eq) k h = by_call k (slice_get p.callees eq)
