-- A covered state at LOOP or NEXT takes a step without a fault, to a covered state.
use Rattle.std.proofs.Common.{◌≡◌, ℕ, suc, ◌+◌, ◌-◌, ◌<◌, true, not, ◌&&◌, List, [], ◌∷◌, length, Option, Some, None, refl, sym, ap, ◌∙◌, subst, arith}
use Rattle.std.specs.Prelude.{slice_get, nat_lt}
use Rattle.std.proofs.lemmas.Bool.{and_parts}
use Rattle.pb_bytecode_program.specs.Values.{TaggedValue, tagged_values, is_inhabited}
use Rattle.pb_bytecode_program.specs.Abstract.{abstraction_of}
use Rattle.pb_bytecode_program.specs.Machine
use Rattle.pb_bytecode_program.specs.Machine.{Program, Frame, State, Outcome, Continues, Ends, Faults}
use Rattle.pb_bytecode_program.specs.Counts
use Rattle.pb_bytecode_program.specs.Counts.{LoopEffect, Enters, Leaves, Straight, loop_effect, loops_around, cost_of, one_step, tokens_of, static_steps, static_tokens}
use Rattle.pb_bytecode_program.specs.Transfer
use Rattle.pb_bytecode_program.specs.Transfer.{AbstractState, Edge, Flow}
use Rattle.pb_bytecode_program.specs.Accepted.{Table, state_at, state_at_loop, FlowIsCovered, Accepted}
use Rattle.pb_bytecode_program.proofs.Invariant.{Fits, AllWithin, places, AtLoop, Under, Covered}
use Rattle.pb_sorts.specs.declared.carrier.Carrier.{Carrier}
use Rattle.pb_bytecode_program.specs.declared.instruction.Op.TheVariants as op
use Rattle.pb_bytecode_program.proofs.Rules.{tested, fits_length, next_inverted}
use Rattle.pb_bytecode_program.proofs.Covering.{runs_among, loops_length}
use Rattle.pb_bytecode_program.proofs.CarrierValues.{values_within, HasFirst, first_of_carrier}
use Rattle.pb_bytecode_program.proofs.Places.{spent_in, spent_out, spent_again, paired, around_next, around_below, AllBelow}
use Rattle.pb_bytecode_program.proofs.Steps.{IsSafeStep, arrive, Straightly}

module _ (p : Program) (table : Table) (ok : Accepted p table) where
  -- LOOP
  pub sim_loop : (st : State) (k : AbstractState) (j : ℕ) → state_at table st.place ≡ Some k → Straightly p table ok st (op.Loop j) k
  sim_loop st k j there at cov ar home pl fine = by (Machine.carrier_of p j) refl fine
    where
      enter : (c : Carrier) (vs : List TaggedValue) → Machine.carrier_of p j ≡ Some c → tagged_values c ≡ vs
          → HasFirst vs → AllWithin vs (abstraction_of c)
          → FlowIsCovered table
          (Transfer.to_next_place st.place
          (record {
            operands = [];
            operands_below = length k.operands + k.operands_below;
            parameters =
                k.parameters;
            loops = (j, abstraction_of c) ∷ k.loops;
            brackets = k.brackets;
            brackets_below =
                k.brackets;
            roots = k.roots;
          })) → IsSafeStep p table st (op.Loop j) (Machine.enter_loop st j vs)
      enter c [] e f first w fl = absurd first
      enter c (v ∷ left) e f first w fl =
          let a : loops_around p.code (st.place + 1) ≡ st.place ∷ places st.loops = around_next p.code st.place (op.Loop j) at ∙ ap (λ qs. st.place ∷ qs) ar in
          let size : Counts.carrier_size (Machine.carrier_of p j) ≡ suc (length left) = ap Counts.carrier_size e ∙ ap length f in
          let c' : Covered p table
          (record st {
            place = st.place + 1;
            loops =
                record { loop_place = st.place; slot = j; value = v; remaining = left } ∷ st.loops;
          })
          (record {
            operands = [];
            operands_below = length k.operands + k.operands_below;
            parameters =
                k.parameters;
            loops = (j, abstraction_of c) ∷ k.loops;
            brackets = k.brackets;
            brackets_below =
                k.brackets;
            roots = k.roots;
          }) = record {
            rest = st.operands;
            operands = refl;
            deep = fits_length st.operands k.operands cov.rest cov.operands ∙ ap (λ m. length k.operands + m) cov.deep;
            fit_parameters = cov.fit_parameters;
            fit_loops = (refl, w.0, cov.fit_loops);
            brackets = cov.brackets;
            roots = cov.roots;
            under = record {
              loop = at;
              carrier = c;
              of_slot = e;
              remaining = w.1;
              around_it = ar;
              home = k;
              there =
                  there;
              operands_below = cov.rest;
              operands = cov.operands;
              deep = cov.deep;
              fit_parameters =
                  cov.fit_parameters;
              fit_loops = cov.fit_loops;
              outer = cov.under;
            };
          } in
          record {
            covered = arrive p table ok st (op.Loop j) k at cov ar _ _ (st.place + 1) fl.0 c' refl a;
            spent = λ cost. spent_in p cost st.place j (op.Loop j) (record { loop_place = st.place; slot = j; value = v; remaining = left }) st.loops at refl refl size;
            written = omega arith;
          }

      by : (o : Option Carrier) → Machine.carrier_of p j ≡ o → FlowIsCovered table (Transfer.abstract_loop st.place k j o) → IsSafeStep p table st (op.Loop j) (Machine.begin_loop st j o)
      by None e fl = absurd fl
      by (Some c) e fl =
          let t = tested table (nat_lt (length k.loops) 8 && not (Transfer.among k.loops j) && is_inhabited c) _ fl in
          let two = and_parts (nat_lt (length k.loops) 8 && not (Transfer.among k.loops j)) (is_inhabited c) t.0 in
          let test : (nat_lt (length st.loops) 8 && not (Machine.is_running st.loops j)) ≡ true = rw (loops_length st.loops k.loops cov.fit_loops, runs_among st.loops k.loops j cov.fit_loops) two.0 in
          rw test (enter c (tagged_values c) e refl (first_of_carrier c two.1) (values_within c) t.1)

  -- NEXT
  pub sim_next : (st : State) (k : AbstractState) (at : slice_get p.code st.place ≡ Some op.Next)
      (cov : Covered p table st k) (ar : loops_around p.code st.place ≡ places st.loops)
      → FlowIsCovered table
      (Transfer.transfer p (state_at_loop table (loops_around p.code st.place)) st.place op.Next k)
      → IsSafeStep p table st op.Next (Machine.execute p op.Next st)
  sim_next st k at cov ar fine = by st.loops refl cov.under
    where
      inv : (home : AbstractState) × (k.operands ≡ [])
          × (state_at_loop table (loops_around p.code st.place) ≡ Some home) × (k.brackets ≡ home.brackets)
          × (k.roots ≡ home.roots) × FlowIsCovered table (Transfer.to_next_place st.place home)
      inv = next_inverted table st.place k k.operands (state_at_loop table (loops_around p.code st.place)) fine

      bare : st.operands ≡ cov.rest
      bare = subst (λ ss. Fits st.operands ss cov.rest) inv.1 cov.operands

      -- the loops around are those under way
      here : (f : Frame) (fs : List Frame) → st.loops ≡ f ∷ fs → loops_around p.code st.place ≡ f.loop_place ∷ places fs
      here f fs e = ar ∙ ap places e

      same_home : (f : Frame) (fs : List Frame) → st.loops ≡ f ∷ fs → (u : AtLoop p table st.parameters f fs cov.rest (Under p table st.parameters fs)) → u.home ≡ inv.0
      same_home f fs e u =
          let a : state_at table f.loop_place ≡ Some inv.0 = ap (state_at_loop table) (sym (here f fs e)) ∙ inv.2 in
          let b = u.there in
          cc

      out : (f : Frame) (fs : List Frame) → st.loops ≡ f ∷ fs
          → (u : AtLoop p table st.parameters f fs cov.rest (Under p table st.parameters fs)) → u.home ≡ inv.0
          → IsSafeStep p table st op.Next (Continues (record st { place = st.place + 1; loops = fs }))
      out f fs e u same =
          let c : Covered p table (record st { place = st.place + 1; loops = fs }) u.home = record {
            rest = u.operands_below;
            operands = subst (λ vs. Fits vs u.home.operands u.operands_below) (sym bare) u.operands;
            deep = u.deep;
            fit_parameters = u.fit_parameters;
            fit_loops = u.fit_loops;
            brackets = cov.brackets ∙ inv.3 ∙ ap (λ (m : AbstractState). m.brackets) (sym same);
            roots = cov.roots ∙ inv.4 ∙ ap (λ (m : AbstractState). m.roots) (sym same);
            under = u.outer;
          } in
          let a : loops_around p.code (st.place + 1) ≡ places fs = around_next p.code st.place op.Next at ∙ ap (λ qs. Counts.loops_after Leaves st.place qs) (here f fs e) in
          let fl = subst (λ m. FlowIsCovered table (Transfer.to_next_place st.place m)) (sym same) inv.5 in
          record {
            covered = arrive p table ok st op.Next k at cov ar _ u.home (st.place + 1) fl.0 c refl a;
            spent = λ cost. rw e (spent_out p cost st.place op.Next f fs at refl);
            written = omega arith;
          }

      back : (f : Frame) (fs : List Frame) (v : TaggedValue) (left : List TaggedValue) → st.loops ≡ f ∷ fs
          → f.remaining ≡ v ∷ left → (u : AtLoop p table st.parameters f fs cov.rest (Under p table st.parameters fs))
          → u.home ≡ inv.0
          → IsSafeStep p table st op.Next
          (Continues
          (record st
          { place = f.loop_place + 1; loops = record { loop_place = f.loop_place; slot = f.slot; value = v; remaining = left } ∷ fs }))
      back f fs v left e l u same =
          let w : AllWithin (v ∷ left) (abstraction_of u.carrier) = subst (λ vs. AllWithin vs (abstraction_of u.carrier)) l u.remaining in
          let each = ok.each f.loop_place (op.Loop f.slot) u.home u.loop u.there in
          let fine' : FlowIsCovered table (Transfer.abstract_loop f.loop_place u.home f.slot (Some u.carrier)) =
          subst (λ o. FlowIsCovered table (Transfer.abstract_loop f.loop_place u.home f.slot o)) u.of_slot each in
          let t = tested table (nat_lt (length u.home.loops) 8 && not (Transfer.among u.home.loops f.slot) && is_inhabited u.carrier) _ fine' in
          let g : Frame = record { loop_place = f.loop_place; slot = f.slot; value = v; remaining = left } in
          let a : loops_around p.code (f.loop_place + 1) ≡ f.loop_place ∷ places fs = around_next p.code f.loop_place (op.Loop f.slot) u.loop ∙ ap (λ qs. f.loop_place ∷ qs) u.around_it in
          let at_under : AtLoop p table st.parameters g fs st.operands (Under p table st.parameters fs) =
          record {
            loop = u.loop;
            carrier = u.carrier;
            of_slot = u.of_slot;
            remaining = w.1;
            around_it =
                u.around_it;
            home = u.home;
            there = u.there;
            operands_below = u.operands_below;
            operands =
                subst (λ vs. Fits vs u.home.operands u.operands_below) (sym bare) u.operands;
            deep =
                u.deep;
            fit_parameters = u.fit_parameters;
            fit_loops = u.fit_loops;
            outer = u.outer;
          } in
          let c : Covered p table (record st { place = f.loop_place + 1; loops = g ∷ fs })
          (record {
            operands = [];
            operands_below = length u.home.operands + u.home.operands_below;
            parameters =
                u.home.parameters;
            loops = (f.slot, abstraction_of u.carrier) ∷ u.home.loops;
            brackets =
                u.home.brackets;
            brackets_below = u.home.brackets;
            roots = u.home.roots;
          }) = record {
            rest = st.operands;
            operands = refl;
            deep = ap length bare ∙ fits_length cov.rest u.home.operands u.operands_below u.operands ∙ ap (λ m. length u.home.operands + m) u.deep;
            fit_parameters = u.fit_parameters;
            fit_loops = (refl, w.0, u.fit_loops);
            brackets = cov.brackets ∙ inv.3 ∙ ap (λ (m : AbstractState). m.brackets) (sym same);
            roots = cov.roots ∙ inv.4 ∙ ap (λ (m : AbstractState). m.roots) (sym same);
            under = at_under;
          } in
          let inner = subst (λ qs. AllBelow st.place qs) (here f fs e) (around_below p.code st.place) in
          let lower : f.loop_place < st.place = inner.0 in
          let n : ℕ = st.place - (f.loop_place + 1) in
          let q : st.place ≡ f.loop_place + 1 + (st.place - (f.loop_place + 1)) = omega arith in
          let pr = paired p.code (f.loop_place + 1) (st.place - (f.loop_place + 1)) ok.closes (ap (loops_around p.code) (sym q) ∙ here f fs e ∙ sym a) in
          record {
            covered = arrive p table ok st op.Next k at cov ar _ _ (f.loop_place + 1) t.1.0 c refl a;
            spent = λ cost. rw e (spent_again p cost st.place (st.place - (f.loop_place + 1)) op.Next f g fs at refl refl (ap length l) q pr);
            written = omega arith;
          }

      choose : (f : Frame) (fs : List Frame) (left : List TaggedValue) → st.loops ≡ f ∷ fs → f.remaining ≡ left
          → (u : AtLoop p table st.parameters f fs cov.rest (Under p table st.parameters fs))
          → IsSafeStep p table st op.Next (Machine.next_turn st f fs left)
      choose f fs [] e l u = out f fs e u (same_home f fs e u)
      choose f fs (v ∷ left) e l u = back f fs v left e l u (same_home f fs e u)

      by : (fs : List Frame) → st.loops ≡ fs → Under p table st.parameters fs cov.rest → IsSafeStep p table st op.Next (Machine.repeat_or_leave st fs)
      by [] e u = absurd (let c = ok.closes st.place op.Next at refl in let n = ap length ar ∙ ap (λ fs. length (places fs)) e in omega arith)
      by (f ∷ fs) e u = choose f fs f.remaining e refl u
