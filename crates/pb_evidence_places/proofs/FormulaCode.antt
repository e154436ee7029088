-- The code of a formula writes calls that the formula names, and no others.
use Rattle.std.proofs.Common.{◌≡◌, ℕ, zero, suc, ◌+◌, Bool, true, false, cond, not, ◌&&◌, List, []}
use Rattle.std.proofs.Common.{◌∷◌, ◌++◌, map, length, Option, Some, None, refl, sym, ap, ◌∙◌, subst}
use Rattle.std.proofs.Common.{add-one, arith}
use Rattle.std.specs.Prelude.{ℤ, nat_lt, ◌==◌}
use Rattle.std.specs.List.{slice_get}
use Rattle.pb_base_values.specs.Carrier.{Tuple}
use Rattle.pb_sorts.specs.declared.carrier.Carrier.{Carrier}
use Rattle.pb_fixpoint_trees.specs.declared.Token.{Token}
use Rattle.pb_fixpoint_trees.specs.declared.Token.TheVariants as token
use Rattle.pb_fixpoint_trees.specs.Tree.{Tree, TreeCalls}
use Rattle.pb_text_meaning.specs.Value.{is_true}
use Rattle.pb_bytecode_program.specs.Values.{TaggedValue, untagged, tagged_values}
use Rattle.pb_bytecode_program.specs.Counts.{static_steps}
use Rattle.pb_bytecode_program.specs.Machine
use Rattle.pb_bytecode_program.specs.Machine.{Program, State, Frame, Outcome, Continues, Ends, Faults}
use Rattle.pb_bytecode_program.specs.Machine.{carrier_of, run, start}
use Rattle.pb_bytecode_program.specs.Safety.{AreArguments, EndsWith, arguments}
use Rattle.pb_bytecode_program.specs.declared.instruction.Leaf.TheVariants as leaf
use Rattle.pb_bytecode_program.specs.declared.instruction.Op.TheVariants as op
use Rattle.pb_normal.specs.Answer.{slots_of}
use Rattle.pb_fixpoint_trees.specs.declared.junction.Junction.{Junction}
use Rattle.pb_fixpoint_trees.specs.declared.junction.Junction.TheVariants.{Conjunction, Disjunction}
use Rattle.pb_normal.specs.Normal.{Term, Formula, Test, Join, Each, Call, Slots, set, value}
use Rattle.pb_assembler_scheme.specs.Correct.{HasFullCalls, IsCompiled}
use Rattle.pb_assembler_scheme.specs.Pieces.{Piece, Plain, Then, Repeat, end, HasPieceAt}
use Rattle.pb_assembler_scheme.specs.Scheme.{bracketed, equation_piece, formula_piece}
use Rattle.pb_assembler_scheme.specs.Scheme.{head, join_piece, junction_of, neutral, parameters}
use Rattle.pb_assembler_scheme.specs.Scheme.{test_of, test_piece, tested_piece, under}
use Rattle.pb_assembler_scheme.proofs.Formulas.{at_emit}
use Rattle.pb_assembler_scheme.proofs.Numbered.{argument_values, call_number, loop_values}
use Rattle.pb_assembler_scheme.proofs.Slots.{start-slots}
use Rattle.pb_assembler_scheme.proofs.Terms.{Agrees, gives, jumps, put}
use Rattle.pb_assembler_scheme.proofs.Whole.{equation_stands}
use Rattle.pb_assembler_scheme.proofs.Wins.{Wins, After, EndsIn, one, passes_test, rooted}
use Rattle.pb_evidence_places.proofs.CallCode.{Compiles, are_within, call-runs}
use Rattle.pb_evidence_places.proofs.OnlyCalls.{MayStand, OnlyCalls, of-tree, one-more}

-- of each number of a list
abbrev pub OfEach : (ℤ → Type 0) → List ℤ → Type 0
OfEach C [] = Unit {0}
OfEach C (z ∷ zs) = C z × OfEach C zs

-- Of two operands one that is a test names nothing, and the other one's calls are named where the
-- test doesn't decide.
abbrev pub BothName : Junction → Slots → (s t : Option Term) → (F G : Type 0) → Type 0
BothName m a (Some t) g F G = is_true (value a t) ≡ neutral m → G
BothName m a None (Some t) F G = is_true (value a t) ≡ neutral m → F
BothName m a None None F G = F × G

module _ (p : Program) (P : ℕ → Type 0) where
  -- P holds of each instance that the formula names, where the slots have these values
  abbrev pub NamesOnly : Slots → Formula → Type 0
  NamesOnly a (Test t) = Unit {0}
  NamesOnly a (Join m f g) = BothName m a (test_of f) (test_of g) (NamesOnly a f) (NamesOnly a g)
  NamesOnly a (Each q s shape f) =
      OfEach (λ z. NamesOnly (set a s z) f) (loop_values (carrier_of p s))
  NamesOnly a (Call X xs) =
      are_within (parameters (slice_get p.callees X)) (argument_values a xs) ≡ true
      → P (call_number p X (argument_values a xs))

  abbrev Only : List Token → Type 0
  Only = OnlyCalls P

  -- ---- tests

  test-runs : (k : Junction) (t : Term) (C : Slots → Type 0) → Compiles p P (test_piece k t) C
  test-runs Conjunction t C st e a n h ag br named only go =
      gives p Only t st e a h.0 ag (λ v kv.
      jumps p Only (put p Only st _ (v ∷ st.operands)) true _ v st.operands refl h.1.0
      (λ b. go st.output only)
      (λ b. at_emit p Only leaf.No (put p Only st _ st.operands) n h.1.1 br
      (go _ (one-more P st.output token.No only tt))))
  test-runs Disjunction t C st e a n h ag br named only go =
      gives p Only t st e a h.0 ag (λ v kv.
      jumps p Only (put p Only st _ (v ∷ st.operands)) false _ v st.operands refl h.1.0
      (λ b. go st.output only)
      (λ b. at_emit p Only leaf.Yes (put p Only st _ st.operands) n h.1.1 br
      (go _ (one-more P st.output token.Yes only tt))))

  tested-runs : (m k : Junction) (t : Term) (x : Piece) (C D : Slots → Type 0)
      → ((a : Slots) → C a → is_true (value a t) ≡ neutral m → D a) → Compiles p P x D
      → Compiles p P (tested_piece m k t x) C
  tested-runs Conjunction Conjunction t x C D names hx st e a n h ag br named only go =
      gives p Only t st e a h.0 ag (λ v kv.
      jumps p Only (put p Only st _ (v ∷ st.operands)) true _ v st.operands refl h.1.0
      (λ b. hx (put p Only st _ st.operands) e a n h.1.3 ag br
      (names a named (ap is_true (sym kv) ∙ b)) only go)
      (λ b. at_emit p Only leaf.No (put p Only st _ st.operands) n h.1.1 br
      (one p Only (record st { place = _; output = st.output ++ token.No ∷ [] }) (op.Jump _) h.1.2
      (go _ (one-more P st.output token.No only tt)))))
  tested-runs Disjunction Disjunction t x C D names hx st e a n h ag br named only go =
      gives p Only t st e a h.0 ag (λ v kv.
      jumps p Only (put p Only st _ (v ∷ st.operands)) false _ v st.operands refl h.1.0
      (λ b. hx (put p Only st _ st.operands) e a n h.1.3 ag br
      (names a named (ap is_true (sym kv) ∙ b)) only go)
      (λ b. at_emit p Only leaf.Yes (put p Only st _ st.operands) n h.1.1 br
      (one p Only (record st { place = _; output = st.output ++ token.Yes ∷ [] }) (op.Jump _) h.1.2
      (go _ (one-more P st.output token.Yes only tt)))))
  tested-runs Conjunction Disjunction t x C D names hx st e a n h ag br named only go =
      gives p Only t st e a h.0 ag (λ v kv.
      jumps p Only (put p Only st _ (v ∷ st.operands)) false _ v st.operands refl h.1.0
      (λ b. go st.output only)
      (λ b. hx (put p Only st _ st.operands) e a n h.1.1 ag br
      (names a named (ap is_true (sym kv) ∙ b)) only go))
  tested-runs Disjunction Conjunction t x C D names hx st e a n h ag br named only go =
      gives p Only t st e a h.0 ag (λ v kv.
      jumps p Only (put p Only st _ (v ∷ st.operands)) true _ v st.operands refl h.1.0
      (λ b. go st.output only)
      (λ b. hx (put p Only st _ st.operands) e a n h.1.1 ag br
      (names a named (ap is_true (sym kv) ∙ b)) only go))

  -- ---- brackets

  opening-stands : (m : Junction) → MayStand P (Machine.opening m)
  opening-stands Conjunction = tt
  opening-stands Disjunction = tt

  shut : (b n : ℕ) (go : ℕ → Outcome) → b ≡ suc n → After p Only (go n)
      → After p Only (Machine.close_bracket b go)
  shut b n go e h = subst (λ (m : ℕ). After p Only (Machine.close_bracket m go)) (sym e) h

  -- from behind the opening on
  enclosed : (x : Piece) (C : Slots → Type 0) → Compiles p P x C
      → (st : State) (e : ℕ) (a : Slots) (n : ℕ)
      → HasPieceAt p.code st.place e (Then x (Plain op.Close)) → Agrees st a → st.brackets ≡ suc n
      → C a → Only st.output
      → ((o : List Token) → Only o
      → Wins p Only (record st { place = end st.place x + 1; brackets = n; output = o }))
      → Wins p Only st
  enclosed x C hx st e a n h ag br named only go =
      hx st e a n h.0 ag br named only (λ o k.
      one p Only (record st { place = end st.place x; output = o }) op.Close h.1
      (shut st.brackets n _ br (go _ (one-more P o token.Close k tt))))

  bracketed-runs : (m : Junction) (x : Piece) (C : Slots → Type 0) → Compiles p P x C
      → Compiles p P (bracketed m x) C
  bracketed-runs m x C hx st e a n h ag br named only go =
      one p Only st (op.Open m) h.0 (passes_test p Only (nat_lt st.brackets 32) _ _
      (rooted p Only st.brackets st.roots n _ br
      (enclosed x C hx (record st {
        place = st.place + 1;
        brackets = st.brackets + 1;
        output = st.output ++ Machine.opening m ∷ [];
      }) e a st.brackets h.1 ag (add-one st.brackets) named
      (one-more P st.output (Machine.opening m) only (opening-stands m)) go)))

  under-runs : (m k : Junction) (x : Piece) (C : Slots → Type 0) → Compiles p P x C
      → Compiles p P (under m k x) C
  under-runs Conjunction Conjunction x C hx = hx
  under-runs Disjunction Disjunction x C hx = hx
  under-runs Conjunction Disjunction x C hx = bracketed-runs Conjunction x C hx
  under-runs Disjunction Conjunction x C hx = bracketed-runs Disjunction x C hx

  then-runs : (x y : Piece) (C D : Slots → Type 0) → Compiles p P x C → Compiles p P y D
      → Compiles p P (Then x y) (λ a. C a × D a)
  then-runs x y C D hx hy st e a n h ag br named only go =
      hx st e a n h.0 ag br named.0 only (λ o k.
      hy (record st { place = end st.place x; output = o }) e a n h.1 ag br named.1 k go)

  -- ---- loops

  agrees-in : (st : State) (a : Slots) (f : Frame) → Agrees st a
      → Agrees (record st { loops = f ∷ st.loops }) (set a f.slot (untagged f.value))
  agrees-in st a f ag i v h = by (i == f.slot) h
    where
      by : (b : Bool)
          → cond b (Some f.value) (Machine.value_at st.loops st.parameters i) ≡ Some v
          → untagged v ≡ cond b (untagged f.value) (a i)
      by true h = let e : f.value ≡ v = cc in ap untagged (sym e)
      by false h = ag i v h

  module _ (x : Piece) (C : Slots → Type 0) (hx : Compiles p P x C) (s : ℕ) (st : State) (e : ℕ)
      (a : Slots) (n : ℕ) (h : HasPieceAt p.code st.place e (Repeat s x)) (ag : Agrees st a)
      (br : st.brackets ≡ suc n)
      (go : (o : List Token) → Only o
      → Wins p Only (record st { place = end st.place (Repeat s x); output = o })) where
    abbrev frame : TaggedValue → List TaggedValue → Frame
    frame v left = record { loop_place = st.place; slot = s; value = v; remaining = left }

    abbrev turning : TaggedValue → List TaggedValue → List Token → State
    turning v left o =
        record st { place = st.place + 1; loops = frame v left ∷ st.loops; output = o }

    abbrev Named : List TaggedValue → Type 0
    Named vs = OfEach (λ z. C (set a s z)) (map untagged vs)

    turns : (left : List TaggedValue) (v : TaggedValue) (o : List Token) → Named (v ∷ left)
        → Only o → Wins p Only (turning v left o)
    turns [] v o named only =
        hx (turning v [] o) e (set a s (untagged v)) n h.1 (agrees-in st a (frame v []) ag) br
        named.0 only
        (λ t k. one p Only (record (turning v [] o) { place = end (st.place + 1) x; output = t })
        op.Next h.2 (go t k))
    turns (w ∷ left) v o named only =
        hx (turning v (w ∷ left) o) e (set a s (untagged v)) n h.1
        (agrees-in st a (frame v (w ∷ left)) ag) br named.0 only
        (λ t k. one p Only
        (record (turning v (w ∷ left) o) { place = end (st.place + 1) x; output = t })
        op.Next h.2 (turns left w t named.1 k))

    entered : (vs : List TaggedValue) → Named vs → Only st.output
        → After p Only (Machine.enter_loop st s vs)
    entered [] named only = tt
    entered (v ∷ left) named only = turns left v st.output named only

    begun : (c : Option Carrier) → OfEach (λ z. C (set a s z)) (loop_values c) → Only st.output
        → After p Only (Machine.begin_loop st s c)
    begun None named only = tt
    begun (Some c) named only =
        passes_test p Only (nat_lt (length st.loops) 8 && not (Machine.is_running st.loops s)) _ _
        (entered (tagged_values c) named only)

  repeat-runs : (s : ℕ) (x : Piece) (C : Slots → Type 0) → Compiles p P x C
      → Compiles p P (Repeat s x) (λ a. OfEach (λ z. C (set a s z)) (loop_values (carrier_of p s)))
  repeat-runs s x C hx st e a n h ag br named only go =
      one p Only st (op.Loop s) h.0
      (begun x C hx s st e a n h ag br go (carrier_of p s) named only)

  -- ---- formulas

  join-runs : (m k : Junction) (s t : Option Term) (fk gk fm gm : Piece) (F G : Slots → Type 0)
      → Compiles p P fk F → Compiles p P gk G → Compiles p P fm F → Compiles p P gm G
      → Compiles p P (join_piece m k s t fk gk fm gm) (λ a. BothName m a s t (F a) (G a))
  join-runs m k (Some s) t fk gk fm gm F G hfk hgk hfm hgm =
      tested-runs m k s gk _ G (λ a named is. named is) hgk
  join-runs m k None (Some t) fk gk fm gm F G hfk hgk hfm hgm =
      tested-runs m k t fk _ F (λ a named is. named is) hfk
  join-runs m k None None fk gk fm gm F G hfk hgk hfm hgm =
      under-runs m k (Then fm gm) _ (then-runs fm gm F G hfm hgm)

  formula-runs : (f : Formula) (k : Junction) → HasFullCalls p.callees f
      → Compiles p P (formula_piece p.callees k f) (λ a. NamesOnly a f)
  formula-runs (Test t) k full = test-runs k t _
  formula-runs (Join m f g) k full =
      join-runs m k (test_of f) (test_of g) _ _ _ _ (λ a. NamesOnly a f) (λ a. NamesOnly a g)
      (formula-runs f k full.0) (formula-runs g k full.1) (formula-runs f m full.0)
      (formula-runs g m full.1)
  formula-runs (Each q s shape f) k full =
      under-runs (junction_of q) k _ _
      (repeat-runs s (formula_piece p.callees (junction_of q) f) (λ a. NamesOnly a f)
      (formula-runs f (junction_of q) full))
  formula-runs (Call X xs) k full = call-runs p P X xs full

  -- ---- equations

  still-ends : (m k : ℕ) (st : State) → EndsIn Only (run p m st) → EndsIn Only (run p (m + k) st)
  still-ends zero k st e = absurd e
  still-ends (suc m) k st e =
      let z : suc m + k ≡ suc (m + k) = omega arith in
      rw z (by (Machine.step p st) (λ next. still-ends m k next) e)
    where
      by : (x : Outcome)
          → ((next : State) → EndsIn Only (run p m next) → EndsIn Only (run p (m + k) next))
          → EndsIn Only (Machine.and_then x (run p m))
          → EndsIn Only (Machine.and_then x (run p (m + k)))
      by (Continues next) h e = h next e
      by (Ends out) h e = e
      by (Faults f) h e = e

  -- the tree of an instance calls only what the right side names there
  pub tree-names : (f : Formula) (tuple : Tuple) (tree : Tree) → IsCompiled p f
      → HasFullCalls p.callees f → AreArguments p.parameters tuple → EndsWith p tuple tree
      → NamesOnly (slots_of tuple) f → TreeCalls P tree
  tree-names f tuple tree compiled full fit ended named =
      of-tree P tree (subst (EndsIn Only) (ended.ends (w.steps + static_steps p) (omega arith))
      (still-ends w.steps (static_steps p) begin w.ending))
    where
      begin : State
      begin = start (arguments p.parameters tuple)

      stands : HasPieceAt p.code 0 0 (equation_piece p.callees f)
      stands = equation_stands p f compiled

      w : Wins p Only begin
      w =
          one p Only begin (op.Open (head f)) stands.0.0
          (enclosed (formula_piece p.callees (head f) f) (λ a. NamesOnly a f)
          (formula-runs f (head f) full)
          (record begin {
            place = 1;
            brackets = 1;
            roots = 1;
            output = Machine.opening (head f) ∷ [];
          }) 0 (slots_of tuple) 0 stands.0.1 (start-slots p.parameters tuple fit) refl named
          (opening-stands (head f), tt) (λ o k. one p Only _ op.End stands.1 k))
