-- The code of a formula writes tokens that join, in the open bracket, to the formula's truth.
use Rattle.std.proofs.Common.{◌≡◌, ℕ, suc, ◌+◌, Bool, true, false, cond, not, ◌&&◌, List, [], ◌∷◌, ◌++◌, map, length, Option, Some, None, refl, sym, ap, ◌∙◌, subst, append_assoc, append-nil, add-one}
use Rattle.std.specs.Prelude.{ℤ, nat_lt, ◌==◌}
use Rattle.std.specs.List.{slice_get}
use Rattle.pb_fixpoint.specs.Solution.{Environment}
use Rattle.pb_sorts.specs.declared.carrier.Carrier.{Carrier}
use Rattle.pb_fixpoint_trees.specs.declared.Token.{Token}
use Rattle.pb_fixpoint_trees.specs.declared.Token.TheVariants as token
use Rattle.pb_text_meaning.specs.Value.{is_true}
use Rattle.pb_bytecode_program.specs.Values.{TaggedValue, untagged, tagged_values}
use Rattle.pb_bytecode_program.specs.Machine
use Rattle.pb_bytecode_program.specs.Machine.{Program, State, Frame, Outcome, Continues, Ends, Faults, carrier_of}
use Rattle.pb_bytecode_program.specs.declared.instruction.Leaf.{Leaf}
use Rattle.pb_bytecode_program.specs.declared.instruction.Leaf.TheVariants as leaf
use Rattle.pb_bytecode_program.specs.declared.instruction.Op.TheVariants as op
use Rattle.pb_fixpoint_trees.specs.declared.junction.Junction.{Junction}
use Rattle.pb_fixpoint_trees.specs.declared.junction.Junction.TheVariants.{Conjunction, Disjunction}
use Rattle.pb_normal.specs.Normal.{Term, Argument, Formula, Test, Join, Each, Call, Slots, set, value, joined}
use Rattle.pb_assembler_scheme.specs.Pieces.{Piece, Plain, Then, Repeat, end, HasPieceAt}
use Rattle.pb_assembler_scheme.specs.Scheme.{neutral, junction_of, bracketed, test_piece, tested_piece, under, test_of, join_piece, call_piece, parameters, formula_piece}
use Rattle.pb_assembler_scheme.specs.Correct.{IsFullCall, HasFullCalls}
use Rattle.pb_assembler_scheme.proofs.Wins.{Wins, After, one, passes_test, rooted}
use Rattle.pb_assembler_scheme.proofs.Joins.{Joins, joined_comm, joined_unit, joins_none, joins_append, joins_leaf, joins_bracket, joins_same}
use Rattle.pb_assembler_scheme.proofs.Numbered.{loop_values, all_joined, numbered_truth}
use Rattle.pb_assembler_scheme.proofs.Terms.{Agrees, put, jumps, gives}

abbrev pub Meaning : Type 0
Meaning = Slots → Environment ℕ → Bool

module _ (p : Program) (Q : List Token → Type 0) where
  -- after tokens that join as this
  abbrev pub Writes : Junction → State → ℕ → (Environment ℕ → Bool) → Type 0
  Writes k st q φ = (xs : List Token) → Joins k xs φ → Wins p Q (record st { place = q; output = st.output ++ xs })

  -- under an open bracket of kind k the piece writes tokens that join as this
  abbrev pub Compiles : Junction → Piece → Meaning → Type 0
  Compiles k x φ = (st : State) (e : ℕ) (a : Slots) (n : ℕ) → HasPieceAt p.code st.place e x → Agrees st a → st.brackets ≡ suc n → Writes k st (end st.place x) (φ a) → Wins p Q st

  pub writes_none : (k : Junction) (st : State) (q : ℕ) (φ : Environment ℕ → Bool) → ((t : Environment ℕ) → neutral k ≡ φ t) → Writes k st q φ → Wins p Q (record st { place = q })
  writes_none k st q φ e go = subst (λ (o : List Token). Wins p Q (record st { place = q; output = o })) (append-nil st.output) (go [] (joins_same k [] _ _ e (joins_none k)))

  pub at_emit : (l : Leaf) (st : State) (n : ℕ) → slice_get p.code st.place ≡ Some (op.Emit l) → st.brackets ≡ suc n
      → Wins p Q (record st { place = st.place + 1; output = st.output ++ Machine.leaf l ∷ [] }) → Wins p Q st
  at_emit l st n h b k = one p Q st (op.Emit l) h (rooted p Q st.brackets st.roots n _ b k)

  -- ---- tests

  test_runs : (k : Junction) (t : Term) → Compiles k (test_piece k t) (λ a env. is_true (value a t))
  test_runs Conjunction t st e a n h ag br go =
      gives p Q t st e a h.0 ag (λ v kv. jumps p Q (put p Q st _ (v ∷ st.operands)) true _ v st.operands refl h.1.0
      (λ b. writes_none Conjunction st _ _ (λ env. sym (ap is_true (sym kv) ∙ b)) go)
      (λ b. at_emit leaf.No (put p Q st _ st.operands) n h.1.1 br (go (token.No ∷ []) (joins_same Conjunction _ _ _ (λ env. sym (ap is_true (sym kv) ∙ b)) (joins_leaf Conjunction leaf.No)))))
  test_runs Disjunction t st e a n h ag br go =
      gives p Q t st e a h.0 ag (λ v kv. jumps p Q (put p Q st _ (v ∷ st.operands)) false _ v st.operands refl h.1.0
      (λ b. writes_none Disjunction st _ _ (λ env. sym (ap is_true (sym kv) ∙ b)) go)
      (λ b. at_emit leaf.Yes (put p Q st _ st.operands) n h.1.1 br (go (token.Yes ∷ []) (joins_same Disjunction _ _ _ (λ env. sym (ap is_true (sym kv) ∙ b)) (joins_leaf Disjunction leaf.Yes)))))

  tested_runs : (m k : Junction) (t : Term) (x : Piece) (φ : Meaning) → Compiles k x φ → Compiles k (tested_piece m k t x) (λ a env. joined m (is_true (value a t)) (φ a env))
  tested_runs Conjunction Conjunction t x φ hx st e a n h ag br go =
      gives p Q t st e a h.0 ag (λ v kv. jumps p Q (put p Q st _ (v ∷ st.operands)) true _ v st.operands refl h.1.0
      (λ b. hx (put p Q st _ st.operands) e a n h.1.3 ag br (λ xs j. go xs (joins_same Conjunction xs _ _ (λ env. ap (λ c. joined Conjunction c (φ a env)) (sym (ap is_true (sym kv) ∙ b))) j)))
      (λ b. at_emit leaf.No (put p Q st _ st.operands) n h.1.1 br (one p Q (record st { place = _; output = st.output ++ token.No ∷ [] }) (op.Jump _) h.1.2
      (go (token.No ∷ []) (joins_same Conjunction _ _ _ (λ env. ap (λ c. joined Conjunction c (φ a env)) (sym (ap is_true (sym kv) ∙ b))) (joins_leaf Conjunction leaf.No))))))
  tested_runs Disjunction Disjunction t x φ hx st e a n h ag br go =
      gives p Q t st e a h.0 ag (λ v kv. jumps p Q (put p Q st _ (v ∷ st.operands)) false _ v st.operands refl h.1.0
      (λ b. hx (put p Q st _ st.operands) e a n h.1.3 ag br (λ xs j. go xs (joins_same Disjunction xs _ _ (λ env. ap (λ c. joined Disjunction c (φ a env)) (sym (ap is_true (sym kv) ∙ b))) j)))
      (λ b. at_emit leaf.Yes (put p Q st _ st.operands) n h.1.1 br (one p Q (record st { place = _; output = st.output ++ token.Yes ∷ [] }) (op.Jump _) h.1.2
      (go (token.Yes ∷ []) (joins_same Disjunction _ _ _ (λ env. ap (λ c. joined Disjunction c (φ a env)) (sym (ap is_true (sym kv) ∙ b))) (joins_leaf Disjunction leaf.Yes))))))
  tested_runs Conjunction Disjunction t x φ hx st e a n h ag br go =
      gives p Q t st e a h.0 ag (λ v kv. jumps p Q (put p Q st _ (v ∷ st.operands)) false _ v st.operands refl h.1.0
      (λ b. writes_none Disjunction st _ _ (λ env. ap (λ c. joined Conjunction c (φ a env)) (sym (ap is_true (sym kv) ∙ b))) go)
      (λ b. hx (put p Q st _ st.operands) e a n h.1.1 ag br (λ xs j. go xs (joins_same Disjunction xs _ _ (λ env. ap (λ c. joined Conjunction c (φ a env)) (sym (ap is_true (sym kv) ∙ b))) j))))
  tested_runs Disjunction Conjunction t x φ hx st e a n h ag br go =
      gives p Q t st e a h.0 ag (λ v kv. jumps p Q (put p Q st _ (v ∷ st.operands)) true _ v st.operands refl h.1.0
      (λ b. writes_none Conjunction st _ _ (λ env. ap (λ c. joined Disjunction c (φ a env)) (sym (ap is_true (sym kv) ∙ b))) go)
      (λ b. hx (put p Q st _ st.operands) e a n h.1.1 ag br (λ xs j. go xs (joins_same Conjunction xs _ _ (λ env. ap (λ c. joined Disjunction c (φ a env)) (sym (ap is_true (sym kv) ∙ b))) j))))

  -- ---- brackets

  closed : (b n : ℕ) (go : ℕ → Outcome) → b ≡ suc n → After p Q (go n) → After p Q (Machine.close_bracket b go)
  closed b n go e h = subst (λ (m : ℕ). After p Q (Machine.close_bracket m go)) (sym e) h

  -- from behind the opening on
  pub enclosed : (m : Junction) (x : Piece) (φ : Meaning) → Compiles m x φ
      → (st : State) (e : ℕ) (a : Slots) (n : ℕ) (o : List Token)
      → HasPieceAt p.code st.place e (Then x (Plain op.Close)) → Agrees st a → st.brackets ≡ suc n
      → st.output ≡ o ++ Machine.opening m ∷ []
      → ((xs : List Token) → Joins m xs (φ a)
      → Wins p Q
      (record st {
        place = end st.place x + 1;
        brackets = n;
        output =
            o ++ Machine.opening m ∷ (xs ++ token.Close ∷ []);
      })) → Wins p Q st
  enclosed m x φ hx st e a n o h ag br eo go =
      hx st e a n h.0 ag br (λ xs j.
      one p Q (record st { place = end st.place x; output = st.output ++ xs }) op.Close h.1 (closed st.brackets n _ br
      (subst (λ (l : List Token). Wins p Q (record st { place = end st.place x + 1; brackets = n; output = l }))
      (sym (append_assoc o (Machine.opening m ∷ []) (xs ++ token.Close ∷ []))
      ∙ ap (λ (l : List Token). l ++ (xs ++ token.Close ∷ [])) (sym eo) ∙ sym (append_assoc st.output xs (token.Close ∷ [])))
      (go xs j))))

  bracketed_runs : (k m : Junction) (x : Piece) (φ : Meaning) → Compiles m x φ → Compiles k (bracketed m x) φ
  bracketed_runs k m x φ hx st e a n h ag br go =
      one p Q st (op.Open m) h.0 (passes_test p Q (nat_lt st.brackets 32) _ _ (rooted p Q st.brackets st.roots n _ br
      (enclosed m x φ hx
      (record st {
        place = st.place + 1;
        brackets = st.brackets + 1;
        output =
            st.output ++ Machine.opening m ∷ [];
      }) e a st.brackets st.output h.1 ag (add-one st.brackets) refl
      (λ xs j. go (Machine.opening m ∷ (xs ++ token.Close ∷ [])) (joins_bracket k m xs (φ a) j)))))

  under_runs : (m k : Junction) (x : Piece) (φ : Meaning) → Compiles m x φ → Compiles k (under m k x) φ
  under_runs Conjunction Conjunction x φ hx = hx
  under_runs Disjunction Disjunction x φ hx = hx
  under_runs Conjunction Disjunction x φ hx = bracketed_runs Disjunction Conjunction x φ hx
  under_runs Disjunction Conjunction x φ hx = bracketed_runs Conjunction Disjunction x φ hx

  then_runs : (m : Junction) (x y : Piece) (φ ψ : Meaning) → Compiles m x φ → Compiles m y ψ → Compiles m (Then x y) (λ a env. joined m (φ a env) (ψ a env))
  then_runs m x y φ ψ hx hy st e a n h ag br go =
      hx st e a n h.0 ag br (λ xs j. hy (record st { place = end st.place x; output = st.output ++ xs }) e a n h.1 ag br (λ ys k.
      subst (λ (l : List Token). Wins p Q (record st { place = end (end st.place x) y; output = l })) (sym (append_assoc st.output xs ys))
      (go (xs ++ ys) (joins_append m xs ys (φ a) (ψ a) j k))))

  -- ---- loops

  abbrev over : Junction → Meaning → Slots → ℕ → List ℤ → Environment ℕ → Bool
  over m φ a s zs env = all_joined m (map (λ z. φ (set a s z) env) zs)

  agrees_in : (st : State) (a : Slots) (f : Frame) → Agrees st a → Agrees (record st { loops = f ∷ st.loops }) (set a f.slot (untagged f.value))
  agrees_in st a f ag i v h = by (i == f.slot) h
    where
      by : (b : Bool) → cond b (Some f.value) (Machine.value_at st.loops st.parameters i) ≡ Some v → untagged v ≡ cond b (untagged f.value) (a i)
      by true h = let e : f.value ≡ v = cc in ap untagged (sym e)
      by false h = ag i v h

  module _ (m : Junction) (x : Piece) (φ : Meaning) (hx : Compiles m x φ) (s : ℕ) (st : State) (e : ℕ) (a : Slots)
      (n : ℕ) (h : HasPieceAt p.code st.place e (Repeat s x)) (ag : Agrees st a) (br : st.brackets ≡ suc n) where
    abbrev turning : TaggedValue → List TaggedValue → List Token → State
    turning v left o = record st { place = st.place + 1; loops = record { loop_place = st.place; slot = s; value = v; remaining = left } ∷ st.loops; output = o }

    turns : (left : List TaggedValue) (v : TaggedValue) (o : List Token)
        → ((xs : List Token) → Joins m xs (over m φ a s (untagged v ∷ map untagged left))
        → Wins p Q (record st { place = end st.place (Repeat s x); output = o ++ xs })) → Wins p Q (turning v left o)
    turns [] v o go =
        hx (turning v [] o) e (set a s (untagged v)) n h.1 (agrees_in st a (record { loop_place = st.place; slot = s; value = v; remaining = [] }) ag) br (λ xs j.
        one p Q (record (turning v [] o) { place = end (st.place + 1) x; output = o ++ xs }) op.Next h.2 (go xs (joins_same m xs _ _ (λ env. sym (joined_unit m _)) j)))
    turns (w ∷ left) v o go =
        hx (turning v (w ∷ left) o) e (set a s (untagged v)) n h.1 (agrees_in st a (record { loop_place = st.place; slot = s; value = v; remaining = w ∷ left }) ag) br (λ xs j.
        one p Q (record (turning v (w ∷ left) o) { place = end (st.place + 1) x; output = o ++ xs }) op.Next h.2 (turns left w (o ++ xs) (λ ys k.
        subst (λ (l : List Token). Wins p Q (record st { place = end st.place (Repeat s x); output = l })) (sym (append_assoc o xs ys))
        (go (xs ++ ys) (joins_append m xs ys _ _ j k)))))

    entered : (vs : List TaggedValue) → Writes m st (end st.place (Repeat s x)) (over m φ a s (map untagged vs)) → After p Q (Machine.enter_loop st s vs)
    entered [] go = tt
    entered (v ∷ left) go = turns left v st.output go

    begun : (c : Option Carrier) → Writes m st (end st.place (Repeat s x)) (over m φ a s (loop_values c)) → After p Q (Machine.begin_loop st s c)
    begun None go = tt
    begun (Some c) go = passes_test p Q (nat_lt (length st.loops) 8 && not (Machine.is_running st.loops s)) _ _ (entered (tagged_values c) go)

  repeat_runs : (m : Junction) (s : ℕ) (x : Piece) (φ : Meaning) → Compiles m x φ → Compiles m (Repeat s x) (λ a env. over m φ a s (loop_values (carrier_of p s)) env)
  repeat_runs m s x φ hx st e a n h ag br go = one p Q st (op.Loop s) h.0 (begun m x φ hx s st e a n h ag br (carrier_of p s) go)

  -- ---- all

  is_test : (f : Formula) (t : Term) → test_of f ≡ Some t → (env : Environment ℕ) (a : Slots) → numbered_truth p a env f ≡ is_true (value a t)
  is_test (Test x) t e env a = let k : x ≡ t = cc in ap (λ (y : Term). is_true (value a y)) k
  is_test (Join m f g) t e env a = cc
  is_test (Each q s shape f) t e env a = cc
  is_test (Call eq xs) t e env a = cc

  pub same_meaning : (k : Junction) (x : Piece) (φ ψ : Meaning) → ((a : Slots) (env : Environment ℕ) → φ a env ≡ ψ a env) → Compiles k x φ → Compiles k x ψ
  same_meaning k x φ ψ e hx st end' a n h ag br go = hx st end' a n h ag br (λ xs j. go xs (joins_same k xs _ _ (e a) j))

  abbrev pub of : Formula → Meaning
  of f a env = numbered_truth p a env f

  join_runs : (m k : Junction) (f g : Formula) (s t : Option Term) (fk gk fm gm : Piece) → test_of f ≡ s → test_of g ≡ t
      → Compiles k fk (of f) → Compiles k gk (of g) → Compiles m fm (of f) → Compiles m gm (of g)
      → Compiles k (join_piece m k s t fk gk fm gm) (of (Join m f g))
  join_runs m k f g (Some s) t fk gk fm gm es et hfk hgk hfm hgm =
      same_meaning k (tested_piece m k s gk) _ _
      (λ a env. ap (λ c. joined m c (numbered_truth p a env g)) (sym (is_test f s es env a))) (tested_runs m k s gk (of g) hgk)
  join_runs m k f g None (Some t) fk gk fm gm es et hfk hgk hfm hgm =
      same_meaning k (tested_piece m k t fk) _ _
      (λ a env. joined_comm m (is_true (value a t)) (numbered_truth p a env f)
      ∙ ap (joined m (numbered_truth p a env f)) (sym (is_test g t et env a))) (tested_runs m k t fk (of f) hfk)
  join_runs m k f g None None fk gk fm gm es et hfk hgk hfm hgm = under_runs m k (Then fm gm) _ (then_runs m fm gm (of f) (of g) hfm hgm)

  module _ (call : (k : Junction) (eq : ℕ) (xs : List Argument) → IsFullCall (slice_get p.callees eq) xs → Compiles k (call_piece eq (parameters (slice_get p.callees eq)) xs) (of (Call eq xs))) where
    pub formula_runs : (f : Formula) (k : Junction) → HasFullCalls p.callees f → Compiles k (formula_piece p.callees k f) (of f)
    formula_runs (Test t) k full = test_runs k t
    formula_runs (Join m f g) k full =
        join_runs m k f g (test_of f) (test_of g) _ _ _ _ refl refl (formula_runs f k full.0) (formula_runs g k full.1)
        (formula_runs f m full.0) (formula_runs g m full.1)
    formula_runs (Each q s shape f) k full = under_runs (junction_of q) k _ _ (repeat_runs (junction_of q) s (formula_piece p.callees (junction_of q) f) (of f) (formula_runs f (junction_of q) full))
    formula_runs (Call eq xs) k full = call k eq xs full
