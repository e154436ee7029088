-- A run that ends has written the tokens of a tree, whose calls are instances of declared equations with values of
-- their carriers.
use Rattle.std.proofs.Common.{◌≡◌, ℕ, zero, suc, ◌+◌, Bool, true, not, ◌&&◌, List, [], ◌∷◌, ◌++◌, length, map, Option, Some, None, refl, sym, ap, ◌∙◌, subst, arith, append_assoc, append-nil}
use Rattle.std.specs.Prelude.{ℤ, pos, neg_ℤ, int_lt, int_le, reverse, slice_get, nat_lt, if◌then◌else◌}
use Rattle.std.proofs.lemmas.Bool.{cond_both, and_from}
use Rattle.std.proofs.lemmas.List.{reverse-append, reverse-reverse}
use Rattle.pb_base_values.specs.Carrier as carriers
use Rattle.pb_fixpoint_trees.specs.declared.Token.{Token}
use Rattle.pb_fixpoint_trees.specs.declared.Token.TheVariants as token
use Rattle.pb_fixpoint_trees.specs.declared.junction.Junction.{Junction}
use Rattle.pb_fixpoint_trees.specs.Tree as trees
use Rattle.pb_fixpoint_trees.specs.Tokens as tokens
use Rattle.pb_sorts.specs.Carrier.{values_of}
use Rattle.pb_sorts.specs.Instance.{is_instance}
use Rattle.pb_sorts.specs.Layout.{carriers_of}
use Rattle.pb_bytecode_program.specs.Values.{TaggedValue, BoolValue, IntValue, EnumValue, untagged, tagged_values, fits64, answers, arithmetic, absolute, has_divisor}
use Rattle.pb_bytecode_program.specs.Machine
use Rattle.pb_bytecode_program.specs.Machine.{Program, Frame, State, Outcome, Continues, Ends, Faults}
use Rattle.pb_bytecode_program.specs.Safety.{IsInstance}
use Rattle.pb_bytecode_program.proofs.CarrierValues.{untagged_contained}
use Rattle.pb_bytecode_program.proofs.Written.{Written, IsTreeOf, leaf_written, single_written, root_opened, bracket_opened, root_closed, bracket_closed}
use Rattle.pb_sorts.specs.declared.carrier.Carrier.{Carrier}
use Rattle.pb_bytecode_program.specs.declared.instruction.Equality.{Equality}
use Rattle.pb_bytecode_program.specs.declared.instruction.Leaf.{Leaf}
use Rattle.pb_bytecode_program.specs.declared.instruction.Leaf.TheVariants as leaf
use Rattle.pb_bytecode_program.specs.declared.instruction.Op.{Op}
use Rattle.pb_bytecode_program.specs.declared.instruction.Op.TheVariants as op

-- ---- arguments of calls

-- the arguments that are popped are of the carriers
abbrev AreOf : List Carrier → List TaggedValue → Type 0
AreOf cs vs = carriers.is_within (map values_of cs) (map untagged vs) ≡ true

pub reverse_more : {X : Type 0} (x : X) (xs ys : List X) → reverse (x ∷ xs) ++ ys ≡ reverse xs ++ x ∷ ys
reverse_more x xs ys = ap (λ es. es ++ ys) (reverse-append (x ∷ []) xs) ∙ append_assoc (reverse xs) (x ∷ []) ys

-- values of a callee's carriers are an instance
callee-instance : (callees : List (List Carrier)) (eq : ℕ) (cs : List Carrier) (values : List ℤ)
    → slice_get callees eq ≡ Some cs → carriers.is_within (map values_of cs) values ≡ true
    → is_instance (carriers_of callees) (record { equation = eq; values = values }) ≡ true
callee-instance [] eq cs values e w = cc
callee-instance (d ∷ ds) zero cs values e w = let same : d ≡ cs = cc in rw same w
callee-instance (d ∷ ds) (suc eq) cs values e w = callee-instance ds eq cs values e w

module _ (p : Program) where
  abbrev pub IsCall : ℕ → Type 0
  IsCall n = IsInstance p n

  -- what a state has written, or an end
  abbrev pub Writes : Outcome → Type 0
  Writes (Continues st) = Written IsCall st.brackets st.roots st.output
  Writes (Ends out) = IsTreeOf IsCall out
  Writes (Faults f) = Unit {0}

  writes_any : (vs : List TaggedValue) (go : TaggedValue → List TaggedValue → Outcome) → ((v : TaggedValue) (ws : List TaggedValue) → Writes (go v ws)) → Writes (Machine.pop_any vs go)
  writes_any [] go k = tt
  writes_any (v ∷ vs) go k = k v vs

  writes_int : (vs : List TaggedValue) (go : ℤ → List TaggedValue → Outcome) → ((z : ℤ) (ws : List TaggedValue) → Writes (go z ws)) → Writes (Machine.pop_int vs go)
  writes_int [] go k = tt
  writes_int (IntValue z ∷ vs) go k = k z vs
  writes_int (BoolValue b ∷ vs) go k = tt
  writes_int (EnumValue s i ∷ vs) go k = tt

  writes_bool : (vs : List TaggedValue) (go : Bool → List TaggedValue → Outcome) → ((b : Bool) (ws : List TaggedValue) → Writes (go b ws)) → Writes (Machine.pop_bool vs go)
  writes_bool [] go k = tt
  writes_bool (BoolValue b ∷ vs) go k = k b vs
  writes_bool (IntValue z ∷ vs) go k = tt
  writes_bool (EnumValue s i ∷ vs) go k = tt

  writes_args : (cs ds : List Carrier) (args vs : List TaggedValue) (go : List TaggedValue → List TaggedValue → Outcome)
      → AreOf ds args → ((us ws : List TaggedValue) → AreOf (reverse cs ++ ds) us → Writes (go us ws))
      → Writes (Machine.pop_args cs args vs go)
  writes_args [] ds args vs go a k = k args vs a
  writes_args (c ∷ cs) ds args [] go a k = tt
  writes_args (c ∷ cs) ds args (v ∷ vs) go a k =
      by (Machine.argument_fault v c) refl
      (λ e. writes_args cs (c ∷ ds) (v ∷ args) vs go (and_from _ _ (untagged_contained v c e) a)
      (λ us ws w. k us ws (subst (λ es. AreOf es us) (sym (reverse_more c cs ds)) w)))
    where
      by : (o : Option Machine.MachineFault) → Machine.argument_fault v c ≡ o
          → (Machine.argument_fault v c ≡ None → Writes (Machine.pop_args cs (v ∷ args) vs go))
          → Writes (Machine.fault_or o (Machine.pop_args cs (v ∷ args) vs go))
      by None e k' = k' e
      by (Some f) e k' = tt

  module _ (st : State) (w : Written IsCall st.brackets st.roots st.output) where
    writes_push : (vs : List TaggedValue) (v : TaggedValue) → Writes (Machine.push st vs v)
    writes_push vs v = cond_both (nat_lt (length vs) 32) _ _ Writes (λ e. w) (λ e. tt)

    writes_push_int : (vs : List TaggedValue) (z : ℤ) → Writes (Machine.push_int st vs z)
    writes_push_int vs z = cond_both (fits64 z z) _ _ Writes (λ e. writes_push vs (IntValue z)) (λ e. tt)

    writes_equality : (vs : List TaggedValue) (wanted : Equality) (o : Option Bool) → Writes (Machine.push_equality st vs wanted o)
    writes_equality vs wanted None = tt
    writes_equality vs wanted (Some b) = writes_push vs (BoolValue (answers wanted b))

    writes_slot : (o : Option TaggedValue) (go : TaggedValue → Outcome) → ((v : TaggedValue) → Writes (go v)) → Writes (Machine.with_slot o go)
    writes_slot None go k = tt
    writes_slot (Some v) go k = k v

    writes_with_int : (v : TaggedValue) (go : ℤ → Outcome) → ((z : ℤ) → Writes (go z)) → Writes (Machine.with_int v go)
    writes_with_int (IntValue z) go k = k z
    writes_with_int (BoolValue b) go k = tt
    writes_with_int (EnumValue s i) go k = tt

    -- a leaf
    writes_leaf : (l : trees.Leaf) (place : ℕ) (vs : List TaggedValue) (loops : List Frame) → trees.LeafCalls IsCall l
        → Writes (Machine.with_root st.brackets st.roots
        (λ r. Continues
        (record {
          place = place;
          operands = vs;
          parameters = st.parameters;
          loops = loops;
          brackets =
              st.brackets;
          roots = r;
          output = st.output ++ tokens.leaf_token l ∷ [];
        })))
    writes_leaf l place vs loops c = by st.brackets st.roots w
      where
        by : (n r : ℕ) → Written IsCall n r st.output
            → Writes (Machine.with_root n r
            (λ s. Continues
            (record {
              place = place;
              operands = vs;
              parameters = st.parameters;
              loops = loops;
              brackets = n;
              roots =
                  s;
              output = st.output ++ tokens.leaf_token l ∷ [];
            })))
        by zero zero e = single_written IsCall l st.output c e
        by zero (suc r) e = tt
        by (suc n) zero e = absurd e
        by (suc n) (suc r) e = leaf_written IsCall l n r st.output c e

    writes_open : (c : Junction)
        → Writes (Machine.with_root st.brackets st.roots
        (λ r. Continues
        (record st { place = st.place + 1; brackets = st.brackets + 1; roots = r; output = st.output ++ tokens.opening c ∷ [] })))
    writes_open c = by st.brackets st.roots w
      where
        next : (n : ℕ) → n + 1 ≡ suc n
        next n = omega arith

        by : (n r : ℕ) → Written IsCall n r st.output
            → Writes (Machine.with_root n r
            (λ s. Continues
            (record {
              place = st.place + 1;
              operands = st.operands;
              parameters = st.parameters;
              loops =
                  st.loops;
              brackets = n + 1;
              roots = s;
              output = st.output ++ tokens.opening c ∷ [];
            })))
        by zero zero e = root_opened IsCall c st.output e
        by zero (suc r) e = tt
        by (suc n) zero e = absurd e
        by (suc n) (suc r) e = subst (λ m. Written IsCall m (suc r) (st.output ++ tokens.opening c ∷ [])) (sym (next (suc n))) (bracket_opened IsCall c n st.output e)

    writes_close : Writes (Machine.execute p op.Close st)
    writes_close = by st.brackets st.roots w
      where
        by : (n r : ℕ) → Written IsCall n r st.output
            → Writes (Machine.close_bracket n
            (λ m. Continues
            (record {
              place = st.place + 1;
              operands = st.operands;
              parameters = st.parameters;
              loops =
                  st.loops;
              brackets = m;
              roots = r;
              output = st.output ++ token.Close ∷ [];
            })))
        by zero r e = tt
        by (suc n) zero e = absurd e
        by (suc zero) (suc r) e = root_closed IsCall st.output e
        by (suc (suc n)) (suc r) e = bracket_closed IsCall n st.output e

    writes_end : (fs : List Frame) (n r : ℕ) → Written IsCall n r st.output → Writes (Machine.end_run fs n r st.output)
    writes_end (f ∷ fs) n r e = tt
    writes_end [] (suc n) r e = tt
    writes_end [] zero zero e = tt
    writes_end [] zero (suc zero) e = e
    writes_end [] zero (suc (suc r)) e = tt

    writes_enter : (i : ℕ) (vs : List TaggedValue) → Writes (Machine.enter_loop st i vs)
    writes_enter i [] = tt
    writes_enter i (v ∷ vs) = w

    writes_begin : (i : ℕ) (o : Option Carrier) → Writes (Machine.begin_loop st i o)
    writes_begin i None = tt
    writes_begin i (Some c) = cond_both (nat_lt (length st.loops) 8 && not (Machine.is_running st.loops i)) _ (Faults Machine.Loop) Writes (λ e. writes_enter i (tagged_values c)) (λ e. tt)

    writes_turn : (f : Frame) (fs : List Frame) (vs : List TaggedValue) → Writes (Machine.next_turn st f fs vs)
    writes_turn f fs [] = w
    writes_turn f fs (v ∷ vs) = w

    writes_next : (fs : List Frame) → Writes (Machine.repeat_or_leave st fs)
    writes_next [] = tt
    writes_next (f ∷ fs) = writes_turn f fs f.remaining

    writes_call : (eq : ℕ) (o : Option (List Carrier)) → slice_get p.callees eq ≡ o → Writes (Machine.call_instance p st eq o)
    writes_call eq None e = tt
    writes_call eq (Some cs) e =
        writes_args (reverse cs) [] [] st.operands _ refl (λ us ws a.
        writes_leaf (trees.Call (Machine.number p eq us)) (st.place + 1) ws st.loops
        (record {
          instance = record { equation = eq; values = map untagged us };
          declared =
              callee-instance p.callees eq cs (map untagged us) e
              (subst (λ es. AreOf es us) (append-nil (reverse (reverse cs)) ∙ reverse-reverse cs) a);
          numbered = refl;
        }))

    pub writes_act : (i : Op) → Writes (Machine.execute p i st)
    writes_act op.End = writes_end st.loops st.brackets st.roots w
    writes_act (op.PushInt z) = writes_push st.operands (IntValue z)
    writes_act (op.PushBool b) = writes_push st.operands (BoolValue b)
    writes_act (op.PushEnum s i) = writes_push st.operands (EnumValue s i)
    writes_act (op.Get i) = writes_slot (Machine.value_at st.loops st.parameters i) _ (λ v. writes_push st.operands v)
    writes_act op.Pop = writes_any st.operands _ (λ v ws. w)
    writes_act (op.Arithmetic c) =
        writes_int st.operands _
        (λ b vs. writes_int vs _
        (λ a ws. cond_both (has_divisor c && int_lt b (pos 1)) (Faults Machine.Divisor) _ Writes (λ e. tt)
        (λ e. writes_push_int ws (arithmetic c a b))))
    writes_act op.Negate = writes_int st.operands _ (λ a vs. writes_push_int vs (neg_ℤ a))
    writes_act op.Absolute = writes_int st.operands _ (λ a vs. writes_push_int vs (absolute a))
    writes_act (op.Compare o) = writes_int st.operands _ (λ b vs. writes_int vs _ (λ a ws. writes_push ws _))
    writes_act (op.Equality wanted) = writes_any st.operands _ (λ b vs. writes_any vs _ (λ a ws. writes_equality ws wanted _))
    writes_act op.Not = writes_bool st.operands _ (λ a vs. writes_push vs _)
    writes_act (op.Logic c) = writes_bool st.operands _ (λ b vs. writes_bool vs _ (λ a ws. writes_push ws _))
    writes_act (op.Jump to) = w
    writes_act (op.JumpIf on to) = writes_bool st.operands _ (λ b vs. cond_both (if on then b else not b) _ _ Writes (λ e. w) (λ e. w))
    writes_act (op.InRange low high to) = writes_int st.operands _ (λ z vs. cond_both (int_le low z && int_le z high) _ _ Writes (λ e. w) (λ e. w))
    writes_act (op.SlotInRange i low high to) =
        writes_slot (Machine.value_at st.loops st.parameters i) _
        (λ v. writes_with_int v _ (λ z. cond_both (int_le low z && int_le z high) _ _ Writes (λ e. w) (λ e. w)))
    writes_act (op.Loop i) = writes_begin i (Machine.carrier_of p i)
    writes_act op.Next = writes_next st.loops
    writes_act (op.Open c) = cond_both (nat_lt st.brackets 32) _ _ Writes (λ e. writes_open c) (λ e. tt)
    writes_act op.Close = writes_close
    writes_act (op.Emit leaf.Yes) = writes_leaf trees.Yes (st.place + 1) st.operands st.loops tt
    writes_act (op.Emit leaf.No) = writes_leaf trees.No (st.place + 1) st.operands st.loops tt
    writes_act (op.Emit leaf.Cut) = writes_leaf trees.Cut (st.place + 1) st.operands st.loops tt
    writes_act (op.Call eq) = writes_call eq (slice_get p.callees eq) refl

  writes_at : (st : State) → Written IsCall st.brackets st.roots st.output → (o : Option Op) → Writes (Machine.execute_at p o st)
  writes_at st w None = tt
  writes_at st w (Some i) = writes_act st w i

  -- a run that ends has written a tree
  pub run_writes : (n : ℕ) (st : State) → Written IsCall st.brackets st.roots st.output → Writes (Machine.run p n st)
  run_writes zero st w = w
  run_writes (suc n) st w = by (Machine.step p st) (writes_at st w (slice_get p.code st.place)) (λ st' w'. run_writes n st' w')
    where
      by : (x : Outcome) → Writes x → ((st' : State) → Written IsCall st'.brackets st'.roots st'.output → Writes (Machine.run p n st')) → Writes (Machine.and_then x (Machine.run p n))
      by (Continues st') w' k = k st' w'
      by (Ends out) w' k = w'
      by (Faults f) w' k = tt

  -- a longer run ends alike
  pub longer : (m k : ℕ) (st : State) (out : List Token) → Machine.run p m st ≡ Ends out → Machine.run p (m + k) st ≡ Ends out
  longer zero k st out e = cc
  longer (suc m) k st out e =
      let z : suc m + k ≡ suc (m + k) = omega arith in
      rw z (by (Machine.step p st) (λ st' e'. longer m k st' out e') e)
    where
      by : (x : Outcome) → ((st' : State) → Machine.run p m st' ≡ Ends out → Machine.run p (m + k) st' ≡ Ends out)
          → Machine.and_then x (Machine.run p m) ≡ Ends out → Machine.and_then x (Machine.run p (m + k)) ≡ Ends out
      by (Continues st') f e = f st' e
      by (Ends out') f e = e
      by (Faults g) f e = e
