-- A run from a covered state never faults, and ends within what is left to run.
use Rattle.std.proofs.Common.{◌≡◌, ℕ, zero, suc, ◌+◌, ◌<◌, ◌≤◌, true, false, List, [], ◌∷◌, length, map, Some, refl, sym, ap, ◌∙◌, arith}
use Rattle.std.specs.Prelude.{ℤ, slice_get}
use Rattle.std.proofs.lemmas.Bool.{and_parts}
use Rattle.pb_fixpoint_trees.specs.declared.Token.{Token}
use Rattle.pb_sorts.specs.Carrier.{values_of}
use Rattle.pb_bytecode_program.specs.Abstract.{abstraction_of}
use Rattle.pb_base_values.specs.Carrier as carriers
use Rattle.pb_bytecode_program.specs.Safety.{AreArguments, arguments}
use Rattle.pb_bytecode_program.proofs.CarrierValues.{tagged_within}
use Rattle.pb_bytecode_program.specs.Machine
use Rattle.pb_bytecode_program.specs.Machine.{Program, Frame, State, Outcome, Continues, Ends, Faults}
use Rattle.pb_bytecode_program.specs.Counts.{loops_around, one_step, tokens_of}
use Rattle.pb_bytecode_program.specs.Transfer
use Rattle.pb_bytecode_program.specs.Transfer.{AbstractState, Edge, Flow}
use Rattle.pb_bytecode_program.specs.Accepted
use Rattle.pb_bytecode_program.specs.Accepted.{Table, state_at, state_at_loop, CoversEach, CoversLoops, IsCovered, Leads, AllLead, FlowIsCovered, IsTarget, HasValidTarget, Accepted}
use Rattle.pb_bytecode_program.proofs.Invariant.{FitParameters, places, Covered, IsCoveredState}
use Rattle.pb_sorts.specs.declared.carrier.Carrier.{Carrier}
use Rattle.pb_bytecode_program.specs.declared.instruction.Op.{Op}
use Rattle.pb_bytecode_program.specs.declared.instruction.Op.TheVariants as op
use Rattle.pb_bytecode_program.proofs.Rules.{state_within, instruction_at}
use Rattle.pb_bytecode_program.proofs.Covering.{covered_more}
use Rattle.pb_bytecode_program.proofs.Places.{open_zero, left_at}
use Rattle.pb_bytecode_program.proofs.Steps.{IsSafeStep, sim_abs, sim_arith, sim_call, sim_close, sim_compare, sim_end, sim_enum, sim_equal, sim_get, sim_in_range, sim_jump, sim_jump_if, sim_logic, sim_neg, sim_not, sim_open, sim_pop, sim_slot_range, sim_tip, sim_truth, sim_values}
use Rattle.pb_bytecode_program.proofs.Loops.{sim_loop, sim_next}

module _ (p : Program) (table : Table) (ok : Accepted p table) where
  -- any instruction
  pub sim_act : (st : State) (i : Op) (k : AbstractState) → state_at table st.place ≡ Some k
      → (at : slice_get p.code st.place ≡ Some i) (cov : Covered p table st k)
      (ar : loops_around p.code st.place ≡ places st.loops) → HasValidTarget p st.place i
      → FlowIsCovered table (Transfer.transfer p (state_at_loop table (loops_around p.code st.place)) st.place i k)
      → IsSafeStep p table st i (Machine.execute p i st)
  sim_act st op.End k there at cov ar pl fine = sim_end p table ok st k at cov ar (state_at_loop table (loops_around p.code st.place)) pl fine
  sim_act st (op.PushInt z) k there at cov ar pl fine = sim_values p table ok st k z at cov ar (state_at_loop table (loops_around p.code st.place)) pl fine
  sim_act st (op.PushBool b) k there at cov ar pl fine = sim_truth p table ok st k b at cov ar (state_at_loop table (loops_around p.code st.place)) pl fine
  sim_act st (op.PushEnum s j) k there at cov ar pl fine = sim_enum p table ok st k s j at cov ar (state_at_loop table (loops_around p.code st.place)) pl fine
  sim_act st (op.Get j) k there at cov ar pl fine = sim_get p table ok st k j at cov ar (state_at_loop table (loops_around p.code st.place)) pl fine
  sim_act st op.Pop k there at cov ar pl fine = sim_pop p table ok st k at cov ar (state_at_loop table (loops_around p.code st.place)) pl fine
  sim_act st (op.Arithmetic c) k there at cov ar pl fine = sim_arith p table ok st k c at cov ar (state_at_loop table (loops_around p.code st.place)) pl fine
  sim_act st op.Negate k there at cov ar pl fine = sim_neg p table ok st k at cov ar (state_at_loop table (loops_around p.code st.place)) pl fine
  sim_act st op.Absolute k there at cov ar pl fine = sim_abs p table ok st k at cov ar (state_at_loop table (loops_around p.code st.place)) pl fine
  sim_act st (op.Compare o) k there at cov ar pl fine = sim_compare p table ok st k o at cov ar (state_at_loop table (loops_around p.code st.place)) pl fine
  sim_act st (op.Equality w) k there at cov ar pl fine = sim_equal p table ok st k w at cov ar (state_at_loop table (loops_around p.code st.place)) pl fine
  sim_act st op.Not k there at cov ar pl fine = sim_not p table ok st k at cov ar (state_at_loop table (loops_around p.code st.place)) pl fine
  sim_act st (op.Logic b) k there at cov ar pl fine = sim_logic p table ok st k b at cov ar (state_at_loop table (loops_around p.code st.place)) pl fine
  sim_act st (op.Jump to) k there at cov ar pl fine = sim_jump p table ok st k to at cov ar (state_at_loop table (loops_around p.code st.place)) pl fine
  sim_act st (op.JumpIf on to) k there at cov ar pl fine = sim_jump_if p table ok st k on to at cov ar (state_at_loop table (loops_around p.code st.place)) pl fine
  sim_act st (op.InRange low high to) k there at cov ar pl fine = sim_in_range p table ok st k low high to at cov ar (state_at_loop table (loops_around p.code st.place)) pl fine
  sim_act st (op.SlotInRange j low high to) k there at cov ar pl fine = sim_slot_range p table ok st k j low high to at cov ar (state_at_loop table (loops_around p.code st.place)) pl fine
  sim_act st (op.Loop j) k there at cov ar pl fine = sim_loop p table ok st k j there at cov ar (state_at_loop table (loops_around p.code st.place)) pl fine
  sim_act st op.Next k there at cov ar pl fine = sim_next p table ok st k at cov ar fine
  sim_act st (op.Open b) k there at cov ar pl fine = sim_open p table ok st k b at cov ar (state_at_loop table (loops_around p.code st.place)) pl fine
  sim_act st op.Close k there at cov ar pl fine = sim_close p table ok st k at cov ar (state_at_loop table (loops_around p.code st.place)) pl fine
  sim_act st (op.Emit l) k there at cov ar pl fine = sim_tip p table ok st k l at cov ar (state_at_loop table (loops_around p.code st.place)) pl fine
  sim_act st (op.Call eq) k there at cov ar pl fine = sim_call p table ok st k eq at cov ar (state_at_loop table (loops_around p.code st.place)) pl fine

  -- a step of a covered state
  pub step_is_safe : (st : State) → IsCoveredState p table st → (i : Op) × (slice_get p.code st.place ≡ Some i) × IsSafeStep p table st i (Machine.execute p i st)
  step_is_safe st c =
      let within : st.place < length p.code = let w = state_within table st.place c.known c.there in let l = ok.long in omega arith in
      let f = instruction_at p.code st.place within in
      (f.0, f.1, sim_act st f.0 c.known c.there f.1 c.covered c.around_it (ok.placed st.place f.0 f.1) (ok.each st.place f.0 c.known f.1 c.there))

  -- ---- whole runs

  pub run_from : (st : State) (i : Op) (n : ℕ) → slice_get p.code st.place ≡ Some i → Machine.run p (suc n) st ≡ Machine.and_then (Machine.execute p i st) (Machine.run p n)
  run_from st i n e = ap (λ o. Machine.and_then (Machine.execute_at p o st) (Machine.run p n)) e

  pub never : (n : ℕ) (st : State) → IsCoveredState p table st → (f : Machine.MachineFault) → Machine.run p n st ≡ Faults f → ⊥
  never zero st c f e = cc
  never (suc n) st c f e =
      let g = step_is_safe st c in
      by (Machine.execute p g.0 st) g.0 g.2 (λ st' c'. never n st' c' f) (sym (run_from st g.0 n g.1) ∙ e)
    where
      by : (x : Outcome) (i : Op) → IsSafeStep p table st i x → ((st' : State) → IsCoveredState p table st' → Machine.run p n st' ≡ Faults f → ⊥) → Machine.and_then x (Machine.run p n) ≡ Faults f → ⊥
      by (Continues st') i g h e = h st' g.covered e
      by (Ends out) i g h e = cc
      by (Faults f') i g h e = g

  abbrev pub EndsWithin : ℕ → State → Outcome → Type 0
  EndsWithin n st x = (out : List Token) × (x ≡ Ends out) × (length out ≤ length st.output + left_at p tokens_of st.place st.loops)

  pub costs : (st : State) (i : Op) (x : Outcome) → IsSafeStep p table st i x → 1 ≤ left_at p one_step st.place st.loops
  costs st i (Continues st') g = let w = g.spent one_step in omega arith
  costs st i (Ends out) g = g.1
  costs st i (Faults f) g = absurd g

  pub ends : (n : ℕ) (st : State) → IsCoveredState p table st → left_at p one_step st.place st.loops ≤ n → EndsWithin n st (Machine.run p n st)
  ends zero st c h = let g = step_is_safe st c in let w = costs st g.0 (Machine.execute p g.0 st) g.2 in absurd (omega arith)
  ends (suc n) st c h =
      let g = step_is_safe st c in
      let r = by (Machine.execute p g.0 st) g.0 g.2 (λ st' c' h'. ends n st' c' h') in
      (r.0, run_from st g.0 n g.1 ∙ r.1, r.2)
    where
      by : (x : Outcome) (i : Op) → IsSafeStep p table st i x
          → ((st' : State) → IsCoveredState p table st' → left_at p one_step st'.place st'.loops ≤ n
          → EndsWithin n st' (Machine.run p n st')) → EndsWithin n st (Machine.and_then x (Machine.run p n))
      by (Continues st') i g go =
          let w = g.spent one_step in
          let r = go st' g.covered (omega arith) in
          let u = g.spent tokens_of in
          let v = g.written in
          let t = r.2 in
          (r.0, r.1, omega arith)
      by (Ends out) i g go = (out, refl, rw (g.0) (omega arith))
      by (Faults f) i g go = absurd g

  pub args_fit : (cs : List Carrier) (tuple : List ℤ) → AreArguments cs tuple → FitParameters (arguments cs tuple) (map abstraction_of cs)
  args_fit [] [] a = tt
  args_fit (c ∷ cs) [] a = absurd (let w : false ≡ true = a in cc)
  args_fit [] (z ∷ zs) a = absurd (let w : false ≡ true = a in cc)
  args_fit (c ∷ cs) (z ∷ zs) a = let two = and_parts (carriers.contains (values_of c) z) (carriers.is_within (map values_of cs) zs) a in (tagged_within c z two.0, args_fit cs zs two.1)

  pub starts : (tuple : List ℤ) → AreArguments p.parameters tuple → IsCoveredState p table (Machine.start (arguments p.parameters tuple))
  starts tuple a =
      let b = ok.begins in
      let st = Machine.start (arguments p.parameters tuple) in
      let c : Covered p table st (Accepted.entry p) =
      record {
        rest = [];
        operands = refl;
        deep = refl;
        fit_parameters = args_fit p.parameters tuple a;
        fit_loops =
            tt;
        brackets = refl;
        roots = refl;
        under = refl;
      } in
      record {
        known = b.known;
        there = b.there;
        covered = covered_more p table st (Accepted.entry p) b.known b.covered c;
        around_it = open_zero p.code 0 [];
      }
