-- What a push of an interval that fits does.
use Rattle.std.proofs.Common.{◌≡◌, ◌+◌, ℕ, Bool, true, false, cond, List, ◌∷◌, drop, length, Option, Some, None, refl, sym, ap, arith, ◌∙◌}
use Rattle.std.proofs.lemmas.Grind.{common_steps}
use Rattle.std.specs.Prelude.{ℤ, nat_lt, int_lt, pos, ◌&&◌}
use Rattle.std.proofs.lemmas.Bool.{cond-true, cond-false}
use Rattle.pb_bytecode_program.specs.Values.{fits64, has_divisor}
use Rattle.pb_bytecode_program.specs.Abstract.{interval_of}
use Rattle.pb_bytecode_program.specs.Transfer.{AbstractState, abstract_pop_bool, abstract_push, abstract_push_int, to_next_place}
use Rattle.pb_bytecode_program.specs.declared.domain.AbstractValue.{AbstractValue}
use Rattle.pb_bytecode_program.specs.declared.domain.AbstractValue.TheVariants as abstract
use Rattle.pb_bytecode_program.specs.declared.instruction.Arithmetic.{Arithmetic}
use Rattle.pb_fixpoint_trees.specs.declared.junction.Junction.{Junction}
use Rattle.pb_bytecode_program.specs.declared.instruction.Op.TheVariants as op
use Rattle.pb_base_values.specs.Interval.{IntegerInterval}
use Rattle.pb_verifier_flow.specs.Edges.{fitting}
use Rattle.pb_verifier_flow.specs.Flows.{Fails, GoesOn}
use Rattle.pb_verifier_states.specs.Kinds.{are_there}
use Rattle.pb_verifier_states.specs.NamedRule.{named_at_numbers}
use Rattle.pb_verifier_states.specs.declared.rule.AcceptanceRule.TheVariants as rule

fitting_push : (q : ℕ) (k : AbstractState) (ss : List AbstractValue) (j : ℤ × ℤ) (i : IntegerInterval)
    → Some i ≡ fitting j → nat_lt (length ss + k.operands_below) 32 ≡ true
    → abstract_push_int q k ss j ≡ to_next_place q (record k { operands = abstract.Int i.low i.high ∷ ss })
fitting_push q k ss j i e r = by (fits64 j.0 j.1) e
  where
    by : (b : Bool) → Some i ≡ cond b (Some (record { low = j.0; high = j.1 })) None
        → cond b (abstract_push q k ss (abstract.Int j.0 j.1)) None
        ≡ to_next_place q (record k { operands = abstract.Int i.low i.high ∷ ss })
    by true f = let same : i ≡ record { low = j.0; high = j.1 } = cc in rw same (cond-true _ _ _ r)
    by false f = cc

pub arithmetic_goes_on : (o : Arithmetic) (k k1 k2 k3 : AbstractState) (b a i : IntegerInterval)
    → k ≡ record k1 { operands = abstract.Int b.low b.high ∷ k1.operands }
    → k1 ≡ record k2 { operands = abstract.Int a.low a.high ∷ k2.operands }
    → (has_divisor o && int_lt b.low (pos 1)) ≡ false → Some i ≡ fitting (interval_of o a.low a.high b.low b.high)
    → nat_lt (length k2.operands + k2.operands_below) 32 ≡ true
    → k3 ≡ record k2 { operands = abstract.Int i.low i.high ∷ k2.operands } → GoesOn (op.Arithmetic o) k k3
arithmetic_goes_on o k k1 k2 k3 b a i e f d j r g = λ p home q. rw (e, f, g) (cond-false _ _ _ d ∙ fitting_push q k2 k2.operands (interval_of o a.low a.high b.low b.high) i j r)

-- a second operand that may be below 1 where it divides
pub divisor_fails : (o : Arithmetic) (k k1 k2 : AbstractState) (b a : IntegerInterval)
    → k ≡ record k1 { operands = abstract.Int b.low b.high ∷ k1.operands }
    → k1 ≡ record k2 { operands = abstract.Int a.low a.high ∷ k2.operands } → (has_divisor o && int_lt b.low (pos 1)) ≡ true
    → Fails (op.Arithmetic o) k
divisor_fails o k k1 k2 b a e f d = λ p home q. rw (e, f) (cond-true _ _ _ d)

unfitting : (q : ℕ) (k : AbstractState) (ss : List AbstractValue) (j : ℤ × ℤ) → None ≡ fitting j → abstract_push_int q k ss j ≡ None
unfitting q k ss j e = by (fits64 j.0 j.1) e
  where
    by : (b : Bool) → ◌≡◌ {A = Option IntegerInterval} None (cond b (Some (record { low = j.0; high = j.1 })) None) → cond b (abstract_push q k ss (abstract.Int j.0 j.1)) None ≡ None
    by true f = cc
    by false f = refl

-- an interval of results that does not fit
pub overflow_fails : (o : Arithmetic) (k k1 k2 : AbstractState) (b a : IntegerInterval)
    → k ≡ record k1 { operands = abstract.Int b.low b.high ∷ k1.operands }
    → k1 ≡ record k2 { operands = abstract.Int a.low a.high ∷ k2.operands }
    → (has_divisor o && int_lt b.low (pos 1)) ≡ false → None ≡ fitting (interval_of o a.low a.high b.low b.high) → Fails (op.Arithmetic o) k
overflow_fails o k k1 k2 b a e f d n = λ p home q. rw (e, f) (cond-false _ _ _ d ∙ unfitting q k2 k2.operands (interval_of o a.low a.high b.low b.high) n)

pub two_on_top : (k k1 k2 : AbstractState) (b a : IntegerInterval)
    → k ≡ record k1 { operands = abstract.Int b.low b.high ∷ k1.operands }
    → k1 ≡ record k2 { operands = abstract.Int a.low a.high ∷ k2.operands }
    → k.operands ≡ abstract.Int b.low b.high ∷ abstract.Int a.low a.high ∷ k2.operands
two_on_top k k1 k2 b a e f = ap (λ (s : AbstractState). s.operands) e ∙ ap (λ (s : AbstractState). abstract.Int b.low b.high ∷ s.operands) f

two_there : (x y : AbstractValue) (ss : List AbstractValue) → are_there 2 (x ∷ y ∷ ss) ≡ true
two_there x y ss = grind (arith, common_steps)

pub divisor_named : (is_divided : Bool) (b a : IntegerInterval) (ss : List AbstractValue)
    → (is_divided && int_lt b.low (pos 1)) ≡ true
    → rule.Divisor ≡ named_at_numbers is_divided (abstract.Int b.low b.high ∷ abstract.Int a.low a.high ∷ ss)
divisor_named is_divided b a ss d = rw (two_there (abstract.Int b.low b.high) (abstract.Int a.low a.high) ss, d) refl

pub overflow_named : (is_divided : Bool) (b a : IntegerInterval) (ss : List AbstractValue)
    → (is_divided && int_lt b.low (pos 1)) ≡ false
    → rule.Overflow ≡ named_at_numbers is_divided (abstract.Int b.low b.high ∷ abstract.Int a.low a.high ∷ ss)
overflow_named is_divided b a ss d = rw (two_there (abstract.Int b.low b.high) (abstract.Int a.low a.high) ss, d) refl

-- a truth value on top is popped, and another one is pushed
bool_pushed : (q : ℕ) (k : AbstractState) → k.operands ≡ abstract.Bool ∷ drop 1 k.operands
    → nat_lt (length (drop 1 k.operands) + k.operands_below) 32 ≡ true
    → abstract_pop_bool k.operands (λ ss. abstract_push q k ss abstract.Bool) ≡ to_next_place q k
bool_pushed q k e r = by k.operands (drop 1 k.operands) e r ∙ ap (λ (os : List AbstractValue). to_next_place q (record k { operands = os })) (sym e)
  where
    by : (os ts : List AbstractValue) → os ≡ abstract.Bool ∷ ts → nat_lt (length ts + k.operands_below) 32 ≡ true
        → abstract_pop_bool os (λ ss. abstract_push q k ss abstract.Bool) ≡ to_next_place q (record k { operands = abstract.Bool ∷ ts })
    by os ts f s = rw f (cond-true _ _ _ s)

pub not_goes_on : (k : AbstractState) → k.operands ≡ abstract.Bool ∷ drop 1 k.operands → nat_lt (length (drop 1 k.operands) + k.operands_below) 32 ≡ true
    → GoesOn op.Not k k
not_goes_on k e r = λ p home q. bool_pushed q k e r

pub logic_goes_on : (c : Junction) (k n : AbstractState) → k ≡ record n { operands = abstract.Bool ∷ n.operands }
    → n.operands ≡ abstract.Bool ∷ drop 1 n.operands → nat_lt (length (drop 1 n.operands) + n.operands_below) 32 ≡ true → GoesOn (op.Logic c) k n
logic_goes_on c k n f e r = λ p home q. rw f (bool_pushed q n e r)
