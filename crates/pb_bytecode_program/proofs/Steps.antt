-- A covered state takes a step without a fault, to a covered state: each instruction but LOOP and NEXT.
use Rattle.std.proofs.Common.{◌≡◌, ℕ, zero, suc, ◌+◌, ◌-◌, ◌≤◌, Bool, true, not, ◌&&◌, List, [], ◌∷◌, ◌++◌, length, map, Option, Some, None, refl, sym, ap, ◌∙◌, subst, arith}
use Rattle.std.specs.Prelude.{ℤ, pos, neg_ℤ, ◌≤ℤ◌, int_lt, int_le, slice_get, nat_lt, nat_le, reverse, if◌then◌else◌}
use lib.Signed.{≤ℤ_refl}
use Rattle.std.specs.Int.{int_min, int_max}
use Rattle.std.proofs.lemmas.Bool.{cond_both}
use Rattle.pb_fixpoint_trees.specs.declared.Token.{Token}
use Rattle.pb_fixpoint_trees.specs.declared.Token.TheVariants as token
use Rattle.pb_bytecode_program.specs.Values.{TaggedValue, BoolValue, IntValue, EnumValue, untagged, arithmetic, has_divisor, absolute, compares, equals, answers, joined, fits64}
use Rattle.pb_bytecode_program.specs.Abstract.{IsAbstractedBy, interval_of, absolute_interval, same_kind}
use Rattle.pb_bytecode_program.specs.declared.domain.AbstractValue.{AbstractValue}
use Rattle.pb_bytecode_program.specs.declared.domain.AbstractValue.TheVariants as abstract
use Rattle.pb_bytecode_program.specs.Machine
use Rattle.pb_bytecode_program.specs.Machine.{Program, Frame, State, Outcome, Continues, Ends, Faults}
use Rattle.pb_bytecode_program.specs.Counts
use Rattle.pb_bytecode_program.specs.Counts.{LoopEffect, Enters, Leaves, Straight, loop_effect, loops_around, cost_of, one_step, tokens_of, static_steps, static_tokens}
use Rattle.pb_bytecode_program.specs.Transfer
use Rattle.pb_bytecode_program.specs.Transfer.{AbstractState, Edge, Flow}
use Rattle.pb_bytecode_program.specs.Accepted.{Table, state_at, Leads, FlowIsCovered, IsTarget, HasValidTarget, Accepted}
use Rattle.pb_bytecode_program.proofs.Invariant.{Fits, places, Covered, IsCoveredState}
use Rattle.pb_sorts.specs.declared.carrier.Carrier.{Carrier}
use Rattle.pb_bytecode_program.specs.declared.instruction.Arithmetic.{Arithmetic}
use Rattle.pb_bytecode_program.specs.declared.instruction.Comparison.{Comparison}
use Rattle.pb_fixpoint_trees.specs.declared.junction.Junction.{Junction}
use Rattle.pb_bytecode_program.specs.declared.instruction.Equality.{Equality}
use Rattle.pb_bytecode_program.specs.declared.instruction.Leaf.{Leaf}
use Rattle.pb_bytecode_program.specs.declared.instruction.Op.{Op}
use Rattle.pb_bytecode_program.specs.declared.instruction.Op.TheVariants as op
use Rattle.pb_bytecode_program.proofs.Ints.{calc_within, negated_within, absolute_within}
use Rattle.pb_bytecode_program.proofs.Covering.{covered_more, SlotFits, slot_fits, runs_among, set_parameters, set_loops, no_loop}
use Rattle.pb_bytecode_program.proofs.Rules.{tested, allowed, divisor, no_divisor, enum_below, split_in, split_out, equal_kinds, fits_length, fit_within, ended_ok, cut_within, one_more}
use Rattle.pb_bytecode_program.proofs.Operands.{sim_any, sim_int, sim_bool, sim_args, sim_roots}
use Rattle.pb_bytecode_program.proofs.Places.{left_at, spent_on, spent_to, paired, around_next}

-- ---- one step

-- to a covered state, with what it costs
pub record Moved (p : Program) (table : Table) (st : State) (i : Op) (st' : State) : Type 0 where
  pub covered : IsCoveredState p table st'
  pub spent : (cost : Op → ℕ) → left_at p cost st'.place st'.loops + cost i ≤ left_at p cost st.place st.loops
  pub written : length st'.output ≤ length st.output + tokens_of i

-- the outcome of a step faults in no case: it goes on to a covered state, or ends with what is written
abbrev pub IsSafeStep : Program → Table → State → Op → Outcome → Type 0
IsSafeStep p table st i (Continues st') = Moved p table st i st'
IsSafeStep p table st i (Ends out) = (out ≡ st.output) × (1 ≤ left_at p one_step st.place st.loops)
IsSafeStep p table st i (Faults f) = ⊥

module _ (p : Program) (table : Table) (ok : Accepted p table) where
  -- a jump's target and what is left there
  pub to_target : (q to : ℕ) (i : Op) (fs : List Frame) → slice_get p.code q ≡ Some i → loop_effect i ≡ Straight
      → IsTarget p.code q to → (cost : Op → ℕ) → left_at p cost to fs + cost i ≤ left_at p cost q fs
  to_target q to i fs at straight t cost =
      let later = t.later in
      let e : q + suc (to - q - 1) ≡ to = omega arith in
      let pr = paired p.code q (suc (to - q - 1)) ok.closes (ap (loops_around p.code) e ∙ t.one_body) in
      subst (λ m. left_at p cost m fs + cost i ≤ left_at p cost q fs) e (spent_to p cost q (to - q - 1) i fs at straight pr)

  module _ (st : State) (i : Op) (k : AbstractState) (at : slice_get p.code st.place ≡ Some i) (cov : Covered p table st k) (ar : loops_around p.code st.place ≡ places st.loops) where
    pub arrive : (st' : State) (k' : AbstractState) (to : ℕ) → Leads table (record { to = to; state = k' })
        → Covered p table st' k' → st'.place ≡ to → loops_around p.code to ≡ places st'.loops → IsCoveredState p table st'
    arrive st' k' to l c e a = record {
      known = l.known;
      there = ap (state_at table) e ∙ l.there;
      covered = covered_more p table st' k' l.known l.covered c;
      around_it = ap (loops_around p.code) e ∙ a;
    }

    module _ (straight : loop_effect i ≡ Straight) where
      pub go_on : (st' : State) (k' : AbstractState) → st'.place ≡ st.place + 1 → st'.loops ≡ st.loops
          → length st'.output ≤ length st.output + tokens_of i → Covered p table st' k'
          → FlowIsCovered table (Transfer.to_next_place st.place k') → Moved p table st i st'
      go_on st' k' e f w c fine =
          let a : loops_around p.code (st.place + 1) ≡ places st'.loops =
          around_next p.code st.place i at
          ∙ ap (λ t. Counts.loops_after t st.place (loops_around p.code st.place)) straight ∙ ar ∙ ap places (sym f) in
          record {
            covered = arrive st' k' (st.place + 1) fine.0 c e a;
            spent = λ cost. rw (e, f) (spent_on p cost st.place i st.loops at straight);
            written = w;
          }

      pub go_to : (to : ℕ) (st' : State) (k' : AbstractState) → IsTarget p.code st.place to → st'.place ≡ to
          → st'.loops ≡ st.loops → length st'.output ≤ length st.output + tokens_of i → Covered p table st' k'
          → Leads table (record { to = to; state = k' }) → Moved p table st i st'
      go_to to st' k' t e f w c l = record {
        covered = arrive st' k' to l c e (t.one_body ∙ ar ∙ ap places (sym f));
        spent = λ cost. rw (e, f) (to_target st.place to i st.loops at straight t cost);
        written = w;
      }

      -- other operands
      pub with_operands : (to : ℕ) (vs : List TaggedValue) (ss : List AbstractValue) → Fits vs ss cov.rest → Covered p table (record st { place = to; operands = vs }) (record k { operands = ss })
      with_operands to vs ss f =
          record {
            rest = cov.rest;
            operands = f;
            deep = cov.deep;
            fit_parameters = cov.fit_parameters;
            fit_loops =
                cov.fit_loops;
            brackets = cov.brackets;
            roots = cov.roots;
            under = cov.under;
          }

      -- other operands, brackets, roots and output
      pub renewed : (vs : List TaggedValue) (ss : List AbstractValue) (n r : ℕ) (out : List Token) → Fits vs ss cov.rest
          → Covered p table (record st { place = st.place + 1; operands = vs; brackets = n; roots = r; output = out })
          (record k { operands = ss; brackets = n; roots = r })
      renewed vs ss n r out f =
          record {
            rest = cov.rest;
            operands = f;
            deep = cov.deep;
            fit_parameters = cov.fit_parameters;
            fit_loops =
                cov.fit_loops;
            brackets = refl;
            roots = refl;
            under = cov.under;
          }

      pub sim_push : (vs : List TaggedValue) (ss : List AbstractValue) (v : TaggedValue) (s : AbstractValue)
          → IsAbstractedBy v s → Fits vs ss cov.rest → FlowIsCovered table (Transfer.abstract_push st.place k ss s)
          → IsSafeStep p table st i (Machine.push st vs v)
      sim_push vs ss v s w f fine =
          let t = tested table (nat_lt (length ss + k.operands_below) 32) _ fine in
          let e : length vs ≡ length ss + k.operands_below = fits_length vs ss cov.rest f ∙ ap (λ m. length ss + m) cov.deep in
          rw (ap (λ m. nat_lt m 32) e ∙ t.0) (go_on _ _ refl refl (omega arith) (with_operands _ _ (s ∷ ss) (w, f)) t.1)

      pub sim_push_int : (vs : List TaggedValue) (ss : List AbstractValue) (z l h : ℤ) → l ≤ℤ z → z ≤ℤ h
          → Fits vs ss cov.rest → FlowIsCovered table (Transfer.abstract_push_int st.place k ss (l, h))
          → IsSafeStep p table st i (Machine.push_int st vs z)
      sim_push_int vs ss z l h a b f fine =
          let t = tested table (fits64 l h) _ fine in
          rw (fit_within l h z t.0 a b) (sim_push vs ss (IntValue z) (abstract.Int l h) (a, b) f t.1)

      pub sim_give : (v : Option TaggedValue) (s : Option AbstractValue) → SlotFits v s
          → FlowIsCovered table (Transfer.with_abstract_slot s (λ t. Transfer.abstract_push st.place k k.operands t))
          → IsSafeStep p table st i (Machine.with_slot v (λ w. Machine.push st st.operands w))
      sim_give v None f fine = absurd fine
      sim_give None (Some s) f fine = absurd f
      sim_give (Some v) (Some s) f fine = sim_push st.operands k.operands v s f cov.operands fine

      pub sim_same : (vs : List TaggedValue) (ss : List AbstractValue) (wanted : Equality) (a b : TaggedValue)
          (s t : AbstractValue) → IsAbstractedBy a s → IsAbstractedBy b t → Fits vs ss cov.rest
          → FlowIsCovered table (if same_kind s t then Transfer.abstract_push st.place k ss abstract.Bool else None)
          → IsSafeStep p table st i (Machine.push_equality st vs wanted (equals a b))
      sim_same vs ss wanted a b s t w x f fine =
          let u = tested table (same_kind s t) _ fine in
          let e = equal_kinds a b s t w x u.0 in
          rw (e.1) (sim_push vs ss (BoolValue (answers wanted e.0)) abstract.Bool tt f u.1)

      pub sim_calc : (c : Arithmetic) (vs : List TaggedValue) (ss : List AbstractValue) (a b l h m n : ℤ) → l ≤ℤ a
          → a ≤ℤ h → m ≤ℤ b → b ≤ℤ n → Fits vs ss cov.rest
          → FlowIsCovered table
          (if has_divisor c && int_lt m (pos 1) then None else Transfer.abstract_push_int st.place k ss
          (interval_of c l h m n))
          → IsSafeStep p table st i
          (if has_divisor c && int_lt b (pos 1) then Faults Machine.Divisor else Machine.push_int st vs (arithmetic c a b))
      sim_calc c vs ss a b l h m n p1 p2 p3 p4 f fine =
          let t = allowed table (has_divisor c && int_lt m (pos 1)) _ fine in
          let w = calc_within c a b l h m n p1 p2 p3 p4 (λ d. divisor (has_divisor c) m t.0 d) in
          rw (no_divisor (has_divisor c) m b t.0 p3) (sim_push_int vs ss (arithmetic c a b) (interval_of c l h m n).0 (interval_of c l h m n).1 w.0 w.1 f t.1)

      pub sim_range : (to : ℕ) (low high z l h : ℤ) (vs : List TaggedValue) (k1 k2 : AbstractState)
          → IsTarget p.code st.place to → l ≤ℤ z → z ≤ℤ h
          → ((int_le low z && int_le z high) ≡ true
          → Covered p table (record st { place = st.place + 1; operands = vs }) k1)
          → Covered p table (record st { place = to; operands = vs }) k2
          → FlowIsCovered table (Transfer.range_edges st.place to l h low high k1 k2)
          → IsSafeStep p table st i
          (if int_le low z && int_le z high then Machine.jump_to st (st.place + 1) vs else Machine.jump_to st to vs)
      sim_range to low high z l h vs k1 k2 tg a b c1 c2 fine =
          cond_both (int_le low z && int_le z high) _ _ (IsSafeStep p table st i)
          (λ e. go_on _ k1 refl refl (omega arith) (c1 e) (split_in table st.place to l h low high z k1 k2 fine a b e, tt))
          (λ e. go_to to _ k2 tg refl refl (omega arith) c2 (split_out table st.place to l h low high z k1 k2 fine a b e))

  -- any instruction but LOOP and NEXT
  abbrev pub Straightly : State → Op → AbstractState → Type 0
  Straightly st i k =
      (at : slice_get p.code st.place ≡ Some i) (cov : Covered p table st k)
      (ar : loops_around p.code st.place ≡ places st.loops) (home : Option AbstractState) → HasValidTarget p st.place i
      → FlowIsCovered table (Transfer.transfer p home st.place i k) → IsSafeStep p table st i (Machine.execute p i st)

  pub sim_end : (st : State) (k : AbstractState) → Straightly st op.End k
  sim_end st k at cov ar home pl fine =
      rw (ended_ok table st.loops k.loops st.brackets k.brackets st.roots k.roots st.output cov.fit_loops cov.brackets cov.roots fine)
      (refl, let w = spent_on p one_step st.place op.End st.loops at refl in omega arith)

  pub sim_values : (st : State) (k : AbstractState) (z : ℤ) → Straightly st (op.PushInt z) k
  sim_values st k z at cov ar home pl fine = sim_push st (op.PushInt z) k at cov ar refl st.operands k.operands (IntValue z) (abstract.Int z z) (≤ℤ_refl z, ≤ℤ_refl z) cov.operands fine

  pub sim_truth : (st : State) (k : AbstractState) (b : Bool) → Straightly st (op.PushBool b) k
  sim_truth st k b at cov ar home pl fine = sim_push st (op.PushBool b) k at cov ar refl st.operands k.operands (BoolValue b) abstract.Bool tt cov.operands fine

  pub sim_enum : (st : State) (k : AbstractState) (s j : ℕ) → Straightly st (op.PushEnum s j) k
  sim_enum st k s j at cov ar home pl fine =
      let t = tested table (Transfer.enum_fits (slice_get p.sorts s) j) _ fine in
      sim_push st (op.PushEnum s j) k at cov ar refl st.operands k.operands (EnumValue s j)
      (abstract.Enum s (Transfer.count_or_zero (slice_get p.sorts s))) (refl, enum_below (slice_get p.sorts s) j t.0) cov.operands t.1

  pub sim_get : (st : State) (k : AbstractState) (j : ℕ) → Straightly st (op.Get j) k
  sim_get st k j at cov ar home pl fine =
      sim_give st (op.Get j) k at cov ar refl (Machine.value_at st.loops st.parameters j)
      (Transfer.abstract_slot k.loops k.parameters j)
      (slot_fits st.loops k.loops st.parameters k.parameters j cov.fit_loops cov.fit_parameters) fine

  pub sim_pop : (st : State) (k : AbstractState) → Straightly st op.Pop k
  sim_pop st k at cov ar home pl fine =
      sim_any table (IsSafeStep p table st op.Pop) cov.rest st.operands k.operands _ _ cov.operands
      (λ v s ws ts w f fl. go_on st op.Pop k at cov ar refl _ _ refl refl (omega arith) (with_operands st op.Pop k at cov ar refl _ ws ts f) fl) fine

  pub sim_arith : (st : State) (k : AbstractState) (c : Arithmetic) → Straightly st (op.Arithmetic c) k
  sim_arith st k c at cov ar home pl fine =
      sim_int table (IsSafeStep p table st (op.Arithmetic c)) cov.rest st.operands k.operands _ _ cov.operands
      (λ b m n ws ts p3 p4 f fl.
      sim_int table (IsSafeStep p table st (op.Arithmetic c)) cov.rest ws ts _ _ f
      (λ a l h vs ss p1 p2 g fl'. sim_calc st (op.Arithmetic c) k at cov ar refl c vs ss a b l h m n p1 p2 p3 p4 g fl') fl) fine

  pub sim_neg : (st : State) (k : AbstractState) → Straightly st op.Negate k
  sim_neg st k at cov ar home pl fine =
      sim_int table (IsSafeStep p table st op.Negate) cov.rest st.operands k.operands _ _ cov.operands
      (λ a l h ws ts p1 p2 f fl. let w = negated_within a l h p1 p2 in sim_push_int st op.Negate k at cov ar refl ws ts (neg_ℤ a) (neg_ℤ h) (neg_ℤ l) w.0 w.1 f fl) fine

  pub sim_abs : (st : State) (k : AbstractState) → Straightly st op.Absolute k
  sim_abs st k at cov ar home pl fine =
      sim_int table (IsSafeStep p table st op.Absolute) cov.rest st.operands k.operands _ _ cov.operands
      (λ a l h ws ts p1 p2 f fl. let w = absolute_within a l h p1 p2 in
      sim_push_int st op.Absolute k at cov ar refl ws ts (absolute a) (absolute_interval l h).0
      (absolute_interval l h).1 w.0 w.1 f fl) fine

  pub sim_compare : (st : State) (k : AbstractState) (o : Comparison) → Straightly st (op.Compare o) k
  sim_compare st k o at cov ar home pl fine =
      sim_int table (IsSafeStep p table st (op.Compare o)) cov.rest st.operands k.operands _ _ cov.operands
      (λ b m n ws ts p3 p4 f fl.
      sim_int table (IsSafeStep p table st (op.Compare o)) cov.rest ws ts _ _ f
      (λ a l h vs ss p1 p2 g fl'. sim_push st (op.Compare o) k at cov ar refl vs ss (BoolValue (compares o a b)) abstract.Bool tt g fl') fl) fine

  pub sim_equal : (st : State) (k : AbstractState) (wanted : Equality) → Straightly st (op.Equality wanted) k
  sim_equal st k wanted at cov ar home pl fine =
      sim_any table (IsSafeStep p table st (op.Equality wanted)) cov.rest st.operands k.operands _ _ cov.operands
      (λ b t ws ts x f fl.
      sim_any table (IsSafeStep p table st (op.Equality wanted)) cov.rest ws ts _ _ f
      (λ a s vs ss w g fl'. sim_same st (op.Equality wanted) k at cov ar refl vs ss wanted a b s t w x g fl') fl) fine

  pub sim_not : (st : State) (k : AbstractState) → Straightly st op.Not k
  sim_not st k at cov ar home pl fine =
      sim_bool table (IsSafeStep p table st op.Not) cov.rest st.operands k.operands _ _ cov.operands
      (λ b ws ts f fl. sim_push st op.Not k at cov ar refl ws ts (BoolValue (not b)) abstract.Bool tt f fl) fine

  pub sim_logic : (st : State) (k : AbstractState) (both : Junction) → Straightly st (op.Logic both) k
  sim_logic st k both at cov ar home pl fine =
      sim_bool table (IsSafeStep p table st (op.Logic both)) cov.rest st.operands k.operands _ _ cov.operands
      (λ b ws ts f fl.
      sim_bool table (IsSafeStep p table st (op.Logic both)) cov.rest ws ts _ _ f
      (λ a vs ss g fl'. sim_push st (op.Logic both) k at cov ar refl vs ss (BoolValue (joined both a b)) abstract.Bool tt g fl') fl) fine

  pub sim_jump : (st : State) (k : AbstractState) (to : ℕ) → Straightly st (op.Jump to) k
  sim_jump st k to at cov ar home pl fine =
      go_to st (op.Jump to) k at cov ar refl to _ k pl refl refl (omega arith) (with_operands st (op.Jump to) k at cov ar refl to st.operands k.operands cov.operands) fine.0

  pub sim_jump_if : (st : State) (k : AbstractState) (on : Bool) (to : ℕ) → Straightly st (op.JumpIf on to) k
  sim_jump_if st k on to at cov ar home pl fine =
      sim_bool table (IsSafeStep p table st (op.JumpIf on to)) cov.rest st.operands k.operands _ _ cov.operands
      (λ b ws ts f fl.
      cond_both (if on then b else not b) _ _ (IsSafeStep p table st (op.JumpIf on to))
      (λ e. go_to st (op.JumpIf on to) k at cov ar refl to _ _ pl refl refl (omega arith) (with_operands st (op.JumpIf on to) k at cov ar refl to ws ts f) fl.1.0)
      (λ e. go_on st (op.JumpIf on to) k at cov ar refl _ _ refl refl (omega arith) (with_operands st (op.JumpIf on to) k at cov ar refl (st.place + 1) ws ts f) (fl.0, tt))) fine

  pub sim_in_range : (st : State) (k : AbstractState) (low high : ℤ) (to : ℕ) → Straightly st (op.InRange low high to) k
  sim_in_range st k low high to at cov ar home pl fine =
      sim_int table (IsSafeStep p table st (op.InRange low high to)) cov.rest st.operands k.operands _ _ cov.operands
      (λ z l h ws ts p1 p2 f fl.
      sim_range st (op.InRange low high to) k at cov ar refl to low high z l h (IntValue z ∷ ws) _ _ pl p1 p2
      (λ e. with_operands st (op.InRange low high to) k at cov ar refl (st.place + 1) (IntValue z ∷ ws) (abstract.Int (int_max l low) (int_min h high) ∷ ts) (cut_within low high z l h p1 p2 e, f))
      (with_operands st (op.InRange low high to) k at cov ar refl to (IntValue z ∷ ws) (abstract.Int l h ∷ ts) ((p1, p2), f)) fl) fine

  pub sim_slot_range : (st : State) (k : AbstractState) (j : ℕ) (low high : ℤ) (to : ℕ) → Straightly st (op.SlotInRange j low high to) k
  sim_slot_range st k j low high to at cov ar home pl fine =
      by (Machine.value_at st.loops st.parameters j) (Transfer.abstract_slot k.loops k.parameters j) refl
      (slot_fits st.loops k.loops st.parameters k.parameters j cov.fit_loops cov.fit_parameters) fine
    where
      cut : (z l h : ℤ) → Machine.value_at st.loops st.parameters j ≡ Some (IntValue z) → l ≤ℤ z → z ≤ℤ h
          → (int_le low z && int_le z high) ≡ true
          → Covered p table (record st { place = st.place + 1 }) (Transfer.set_slot k j (abstract.Int (int_max l low) (int_min h high)))
      cut z l h e p1 p2 t =
          let w = cut_within low high z l h p1 p2 t in
          let is_z : (v : TaggedValue) → Some v ≡ Some (IntValue z)
          → IsAbstractedBy v (abstract.Int (int_max l low) (int_min h high)) = λ v g. let same : IntValue z ≡ v =
          cc in subst (λ x. IsAbstractedBy x (abstract.Int (int_max l low) (int_min h high))) same w in
          cond_both (Transfer.among k.loops j) _ _ (Covered p table (record st { place = st.place + 1 }))
          (λ a. record {
            rest = cov.rest;
            operands = cov.operands;
            deep = cov.deep;
            fit_parameters =
                cov.fit_parameters;
            fit_loops =
                set_loops st.loops k.loops st.parameters j _ cov.fit_loops (λ v g. is_z v (sym g ∙ e));
            brackets =
                cov.brackets;
            roots = cov.roots;
            under = cov.under;
          })
          (λ a. record {
            rest = cov.rest;
            operands = cov.operands;
            deep = cov.deep;
            fit_parameters =
                set_parameters st.parameters k.parameters j _ cov.fit_parameters
                (λ v g. is_z v
                (sym g ∙ sym (no_loop st.loops st.parameters j (runs_among st.loops k.loops j cov.fit_loops ∙ a)) ∙ e));
            fit_loops = cov.fit_loops;
            brackets = cov.brackets;
            roots = cov.roots;
            under = cov.under;
          })

      by : (v : Option TaggedValue) (s : Option AbstractValue) → Machine.value_at st.loops st.parameters j ≡ v
          → SlotFits v s
          → FlowIsCovered table
          (Transfer.with_abstract_slot s
          (λ u. Transfer.with_interval u
          (λ l h. Transfer.range_edges st.place to l h low high
          (Transfer.set_slot k j (abstract.Int (int_max l low) (int_min h high))) k)))
          → IsSafeStep p table st (op.SlotInRange j low high to)
          (Machine.with_slot v
          (λ w. Machine.with_int w
          (λ z. if int_le low z && int_le z high then Machine.jump_to st (st.place + 1) st.operands else Machine.jump_to
          st to st.operands)))
      by v None e f fl = absurd fl
      by None (Some s) e f fl = absurd f
      by (Some v) (Some abstract.Bool) e f fl = absurd fl
      by (Some v) (Some (abstract.Enum u n)) e f fl = absurd fl
      by (Some (BoolValue b)) (Some (abstract.Int l h)) e f fl = absurd f
      by (Some (EnumValue u m)) (Some (abstract.Int l h)) e f fl = absurd f
      by (Some (IntValue z)) (Some (abstract.Int l h)) e f fl =
          sim_range st (op.SlotInRange j low high to) k at cov ar refl to low high z l h st.operands _ _ pl f.0 f.1 (cut z l h e f.0 f.1)
          (with_operands st (op.SlotInRange j low high to) k at cov ar refl to st.operands k.operands cov.operands) fl

  pub sim_open : (st : State) (k : AbstractState) (kind : Junction) → Straightly st (op.Open kind) k
  sim_open st k kind at cov ar home pl fine =
      let t = tested table (nat_lt k.brackets 32) _ fine in
      rw (ap (λ m. nat_lt m 32) cov.brackets ∙ t.0)
      (sim_roots table (IsSafeStep p table st (op.Open kind)) cov.rest st.brackets k.brackets st.roots k.roots _ _ cov.brackets cov.roots
      (λ r fl. go_on st (op.Open kind) k at cov ar refl _ _ refl refl (one_more st.output (Machine.opening kind))
      (rw (cov.brackets) (renewed st (op.Open kind) k at cov ar refl st.operands k.operands (k.brackets + 1) r _ cov.operands)) fl) t.1)

  pub sim_tip : (st : State) (k : AbstractState) (leaf : Leaf) → Straightly st (op.Emit leaf) k
  sim_tip st k leaf at cov ar home pl fine =
      sim_roots table (IsSafeStep p table st (op.Emit leaf)) cov.rest st.brackets k.brackets st.roots k.roots _ _ cov.brackets cov.roots
      (λ r fl. go_on st (op.Emit leaf) k at cov ar refl _ _ refl refl (one_more st.output (Machine.leaf leaf))
      (record {
        rest = cov.rest;
        operands = cov.operands;
        deep = cov.deep;
        fit_parameters =
            cov.fit_parameters;
        fit_loops = cov.fit_loops;
        brackets = cov.brackets;
        roots = refl;
        under = cov.under;
      }) fl) fine

  pub sim_close : (st : State) (k : AbstractState) → Straightly st op.Close k
  sim_close st k at cov ar home pl fine = by st.brackets k.brackets cov.brackets fine
    where
      by : (n m : ℕ) → n ≡ m
          → FlowIsCovered table
          (Transfer.abstract_close k.brackets_below m
          (λ u. Transfer.to_next_place st.place (record k { brackets = u })))
          → IsSafeStep p table st op.Close
          (Machine.close_bracket n
          (λ u. Continues (record st { place = st.place + 1; brackets = u; output = st.output ++ token.Close ∷ [] })))
      by n zero e fl = absurd fl
      by zero (suc m) e fl = absurd (omega arith)
      by (suc n) (suc m) e fl =
          let t = tested table (nat_le k.brackets_below m) _ fl in
          let f : n ≡ m = omega arith in
          rw f (go_on st op.Close k at cov ar refl _ _ refl refl (one_more st.output token.Close)
          (record {
            rest = cov.rest;
            operands = cov.operands;
            deep = cov.deep;
            fit_parameters =
                cov.fit_parameters;
            fit_loops = cov.fit_loops;
            brackets = refl;
            roots = cov.roots;
            under = cov.under;
          }) t.1)

  pub sim_call : (st : State) (k : AbstractState) (eq : ℕ) → Straightly st (op.Call eq) k
  sim_call st k eq at cov ar home pl fine = by (slice_get p.callees eq) fine
    where
      by : (o : Option (List Carrier)) → FlowIsCovered table (Transfer.abstract_call st.place k o) → IsSafeStep p table st (op.Call eq) (Machine.call_instance p st eq o)
      by None fl = absurd fl
      by (Some cs) fl =
          sim_args table (IsSafeStep p table st (op.Call eq)) cov.rest (reverse cs) st.operands k.operands [] _ _ cov.operands
          (λ us ws ts f fl'. sim_roots table (IsSafeStep p table st (op.Call eq)) cov.rest st.brackets k.brackets st.roots k.roots _ _ cov.brackets cov.roots
          (λ r fl''. go_on st (op.Call eq) k at cov ar refl _ _ refl refl (one_more st.output (token.Call (Machine.number p eq us)))
          (record {
            rest = cov.rest;
            operands = f;
            deep = cov.deep;
            fit_parameters = cov.fit_parameters;
            fit_loops =
                cov.fit_loops;
            brackets = cov.brackets;
            roots = refl;
            under = cov.under;
          }) fl'') fl') fl
