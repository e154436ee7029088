-- Runs to the end, backwards: from a state the run ends with what is wanted, or it faults.
use Rattle.std.proofs.Common.{◌≡◌, ℕ, suc, ◌+◌, Bool, true, false, cond, List, ◌∷◌, length, Option, Some, refl, sym, subst}
use Rattle.std.specs.Prelude.{ℤ, nat_lt}
use Rattle.std.specs.List.{slice_get}
use Rattle.pb_base_values.specs.Carrier.{of_bool}
use Rattle.pb_fixpoint_trees.specs.declared.Token.{Token}
use Rattle.pb_bytecode_program.specs.Values.{TaggedValue, BoolValue, IntValue, EnumValue, untagged, fits64}
use Rattle.pb_bytecode_program.specs.Machine
use Rattle.pb_bytecode_program.specs.Machine.{Program, State, Outcome, Continues, Ends, Faults, MachineFault}
use Rattle.pb_bytecode_program.specs.declared.instruction.Op.{Op}

-- an end with what is wanted, or a fault
abbrev pub EndsIn : (List Token → Type 0) → Outcome → Type 0
EndsIn Q (Continues st) = ⊥
EndsIn Q (Ends out) = Q out
EndsIn Q (Faults f) = Unit {0}

module _ (p : Program) (Q : List Token → Type 0) where
  pub record Wins (st : State) : Type 0 where
    pub steps : ℕ
    pub ending : EndsIn Q (Machine.run p steps st)

  -- what is behind one step
  abbrev pub After : Outcome → Type 0
  After (Continues st) = Wins st
  After (Ends out) = Q out
  After (Faults f) = Unit {0}

  after_run : (x : Outcome) → After x → (n : ℕ) × EndsIn Q (Machine.and_then x (Machine.run p n))
  after_run (Continues st) h = (h.steps, h.ending)
  after_run (Ends out) h = (0, h)
  after_run (Faults f) h = (0, tt)

  pub one : (st : State) (i : Op) → slice_get p.code st.place ≡ Some i → After (Machine.execute p i st) → Wins st
  one st i e h =
      let r = after_run (Machine.execute p i st) h in
      record { steps = suc r.0; ending = subst (λ (j : Option Op). EndsIn Q (Machine.and_then (Machine.execute_at p j st) (Machine.run p r.0))) (sym e) r.1 }

  -- ---- parts of instructions

  pub passes_test : (b : Bool) (x : Outcome) (f : MachineFault) → After x → After (cond b x (Faults f))
  passes_test true x f h = h
  passes_test false x f h = tt

  pub avoids_fault : (b : Bool) (x : Outcome) (f : MachineFault) → After x → After (cond b (Faults f) x)
  avoids_fault true x f h = tt
  avoids_fault false x f h = h

  pub either_goes : (b : Bool) (x y : Outcome) → (b ≡ true → After x) → (b ≡ false → After y) → After (cond b x y)
  either_goes true x y h k = h refl
  either_goes false x y h k = k refl

  pub pushed : (st : State) (vs : List TaggedValue) (v : TaggedValue) → Wins (record st { place = st.place + 1; operands = v ∷ vs }) → After (Machine.push st vs v)
  pushed st vs v h = passes_test (nat_lt (length vs) 32) _ _ h

  pub pushed_int : (st : State) (vs : List TaggedValue) (z : ℤ) → Wins (record st { place = st.place + 1; operands = IntValue z ∷ vs }) → After (Machine.push_int st vs z)
  pushed_int st vs z h = passes_test (fits64 z z) _ _ (pushed st vs (IntValue z) h)

  pub popped_int : (v : TaggedValue) (vs : List TaggedValue) (go : ℤ → List TaggedValue → Outcome) → After (go (untagged v) vs) → After (Machine.pop_int (v ∷ vs) go)
  popped_int (IntValue z) vs go h = h
  popped_int (BoolValue b) vs go h = tt
  popped_int (EnumValue s i) vs go h = tt

  pub popped_bool : (v : TaggedValue) (vs : List TaggedValue) (go : Bool → List TaggedValue → Outcome) → ((b : Bool) → of_bool b ≡ untagged v → After (go b vs)) → After (Machine.pop_bool (v ∷ vs) go)
  popped_bool (BoolValue b) vs go h = h b refl
  popped_bool (IntValue z) vs go h = tt
  popped_bool (EnumValue s i) vs go h = tt

  pub rooted : (b r n : ℕ) (go : ℕ → Outcome) → b ≡ suc n → After (go r) → After (Machine.with_root b r go)
  rooted b r n go e h = subst (λ (m : ℕ). After (Machine.with_root m r go)) (sym e) h
