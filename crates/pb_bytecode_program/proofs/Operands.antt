-- The machine's work on operands and roots does what the rules say, for any property of its outcome.
use Rattle.std.proofs.Common.{◌≡◌, ℕ, zero, suc, Bool, List, [], ◌∷◌}
use Rattle.std.specs.Prelude.{ℤ, ◌≤ℤ◌}
use Rattle.pb_bytecode_program.specs.Values.{TaggedValue, BoolValue, IntValue, EnumValue}
use Rattle.pb_bytecode_program.specs.Abstract.{IsAbstractedBy}
use Rattle.pb_bytecode_program.specs.declared.domain.AbstractValue.{AbstractValue}
use Rattle.pb_bytecode_program.specs.declared.domain.AbstractValue.TheVariants as abstract
use Rattle.pb_bytecode_program.specs.Machine
use Rattle.pb_bytecode_program.specs.Machine.{Program, Frame, State, Outcome, Continues, Ends, Faults}
use Rattle.pb_bytecode_program.specs.Transfer
use Rattle.pb_bytecode_program.specs.Transfer.{AbstractState, Edge, Flow}
use Rattle.pb_bytecode_program.specs.Accepted.{Table, FlowIsCovered}
use Rattle.pb_bytecode_program.proofs.Invariant.{Fits}
use Rattle.pb_sorts.specs.declared.carrier.Carrier.{Carrier}
use Rattle.pb_bytecode_program.proofs.Rules.{tested, argument_ok}

-- ---- the machine's helpers do what the rules say

module _ (table : Table) (G : Outcome → Type 0) (rest : List TaggedValue) where
  pub sim_any : (vs : List TaggedValue) (ss : List AbstractValue) (go : TaggedValue → List TaggedValue → Outcome)
      (ago : AbstractValue → List AbstractValue → Flow) → Fits vs ss rest
      → ((v : TaggedValue) (s : AbstractValue) (ws : List TaggedValue) (ts : List AbstractValue) → IsAbstractedBy v s
      → Fits ws ts rest → FlowIsCovered table (ago s ts) → G (go v ws))
      → FlowIsCovered table (Transfer.abstract_pop ss ago) → G (Machine.pop_any vs go)
  sim_any vs [] go ago f k fine = absurd fine
  sim_any [] (s ∷ ss) go ago f k fine = absurd f
  sim_any (v ∷ vs) (s ∷ ss) go ago f k fine = k v s vs ss f.0 f.1 fine

  pub sim_int : (vs : List TaggedValue) (ss : List AbstractValue) (go : ℤ → List TaggedValue → Outcome)
      (ago : ℤ → ℤ → List AbstractValue → Flow) → Fits vs ss rest
      → ((z l h : ℤ) (ws : List TaggedValue) (ts : List AbstractValue) → l ≤ℤ z → z ≤ℤ h → Fits ws ts rest
      → FlowIsCovered table (ago l h ts) → G (go z ws)) → FlowIsCovered table (Transfer.abstract_pop_int ss ago) → G (Machine.pop_int vs go)
  sim_int vs [] go ago f k fine = absurd fine
  sim_int vs (abstract.Bool ∷ ss) go ago f k fine = absurd fine
  sim_int vs (abstract.Enum s n ∷ ss) go ago f k fine = absurd fine
  sim_int [] (abstract.Int l h ∷ ss) go ago f k fine = absurd f
  sim_int (BoolValue b ∷ vs) (abstract.Int l h ∷ ss) go ago f k fine = absurd f.0
  sim_int (EnumValue s i ∷ vs) (abstract.Int l h ∷ ss) go ago f k fine = absurd f.0
  sim_int (IntValue z ∷ vs) (abstract.Int l h ∷ ss) go ago f k fine = k z l h vs ss f.0.0 f.0.1 f.1 fine

  pub sim_bool : (vs : List TaggedValue) (ss : List AbstractValue) (go : Bool → List TaggedValue → Outcome)
      (ago : List AbstractValue → Flow) → Fits vs ss rest
      → ((b : Bool) (ws : List TaggedValue) (ts : List AbstractValue) → Fits ws ts rest → FlowIsCovered table (ago ts)
      → G (go b ws)) → FlowIsCovered table (Transfer.abstract_pop_bool ss ago) → G (Machine.pop_bool vs go)
  sim_bool vs [] go ago f k fine = absurd fine
  sim_bool vs (abstract.Int l h ∷ ss) go ago f k fine = absurd fine
  sim_bool vs (abstract.Enum s n ∷ ss) go ago f k fine = absurd fine
  sim_bool [] (abstract.Bool ∷ ss) go ago f k fine = absurd f
  sim_bool (IntValue z ∷ vs) (abstract.Bool ∷ ss) go ago f k fine = absurd f.0
  sim_bool (EnumValue s i ∷ vs) (abstract.Bool ∷ ss) go ago f k fine = absurd f.0
  sim_bool (BoolValue b ∷ vs) (abstract.Bool ∷ ss) go ago f k fine = k b vs ss f.1 fine

  pub sim_args : (cs : List Carrier) (vs : List TaggedValue) (ss : List AbstractValue) (args : List TaggedValue)
      (go : List TaggedValue → List TaggedValue → Outcome) (ago : List AbstractValue → Flow) → Fits vs ss rest
      → ((us ws : List TaggedValue) (ts : List AbstractValue) → Fits ws ts rest → FlowIsCovered table (ago ts)
      → G (go us ws)) → FlowIsCovered table (Transfer.abstract_pop_args cs ss ago) → G (Machine.pop_args cs args vs go)
  sim_args [] vs ss args go ago f k fine = k args vs ss f fine
  sim_args (c ∷ cs) vs [] args go ago f k fine = absurd fine
  sim_args (c ∷ cs) [] (s ∷ ss) args go ago f k fine = absurd f
  sim_args (c ∷ cs) (v ∷ vs) (s ∷ ss) args go ago f k fine =
      let t = tested table (Transfer.accepts s c) (Transfer.abstract_pop_args cs ss ago) fine in
      rw (argument_ok v s c t.0 f.0) (sim_args cs vs ss (v ∷ args) go ago f.1 k t.1)

  pub sim_root : (n r : ℕ) (go : ℕ → Outcome) (ago : ℕ → Flow) → ((m : ℕ) → FlowIsCovered table (ago m) → G (go m))
      → FlowIsCovered table (Transfer.abstract_root n r ago) → G (Machine.with_root n r go)
  sim_root (suc n) r go ago k fine = k r fine
  sim_root zero zero go ago k fine = k 1 fine
  sim_root zero (suc r) go ago k fine = absurd fine

  pub sim_roots : (n m r s : ℕ) (go : ℕ → Outcome) (ago : ℕ → Flow) → n ≡ m → r ≡ s
      → ((u : ℕ) → FlowIsCovered table (ago u) → G (go u)) → FlowIsCovered table (Transfer.abstract_root m s ago)
      → G (Machine.with_root n r go)
  sim_roots n m r s go ago e f k fine = rw (e, f) (sim_root m s go ago k fine)
