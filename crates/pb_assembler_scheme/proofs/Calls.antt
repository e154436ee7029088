-- The code of a call writes the call, or a cut where an argument is outside its parameter's carrier.
use Rattle.std.proofs.Common.{◌≡◌, ℕ, suc, ◌+◌, Bool, true, false, cond, ◌&&◌, ◌||◌, List, [], ◌∷◌, ◌++◌, map, length, Option, Some, None, true≢false, refl, sym, ap, ◌∙◌, subst, arith, append-nil}
use Rattle.std.specs.Prelude.{ℤ, int_le, is_some, reverse}
use Rattle.std.specs.List.{slice_get}
use Rattle.std.proofs.lemmas.List.{reverse-append}
use Rattle.std.proofs.lemmas.Bool.{and_from, or_right, and_right}
use Rattle.pb_base_values.specs.Carrier as carriers
use Rattle.pb_base_values.specs.Interval as intervals
use Rattle.pb_sorts.specs.declared.carrier.Carrier.{Carrier}
use Rattle.pb_sorts.specs.declared.carrier.Carrier.TheVariants as carrier
use Rattle.pb_sorts.specs.declared.carrier.Range as range
use Rattle.pb_sorts.specs.Carrier.{values_of}
use Rattle.pb_fixpoint_trees.specs.declared.Token.{Token}
use Rattle.pb_fixpoint_trees.specs.declared.Token.TheVariants as token
use Rattle.pb_typing_declarations.specs.Shapes.{Shape, Unknown, Truths, Places, Wholes}
use Rattle.pb_typing_rules.specs.Shapes.{between}
use Rattle.pb_bytecode_program.specs.Values.{TaggedValue, IntValue, untagged}
use Rattle.pb_bytecode_program.specs.Machine
use Rattle.pb_bytecode_program.specs.Machine.{Program, State, Outcome, MachineFault, argument_fault}
use Rattle.pb_bytecode_program.specs.declared.instruction.Leaf.TheVariants as leaf
use Rattle.pb_bytecode_program.specs.declared.instruction.Op.TheVariants as op
use Rattle.pb_bytecode_program.proofs.Ints.{from_le}
use Rattle.pb_bytecode_program.proofs.CarrierValues.{tagged_within, untagged_contained}
use Rattle.pb_fixpoint_trees.specs.declared.junction.Junction.{Junction}
use Rattle.pb_normal.specs.Normal.{Argument, Call, Slots, value}
use Rattle.pb_assembler_scheme.specs.Pieces.{Piece, Plain, Then, Block, Leave, end, HasPieceAt}
use Rattle.pb_assembler_scheme.specs.Scheme.{tested_range, any_tested, guarded, arguments_piece, call_piece, parameters}
use Rattle.pb_assembler_scheme.specs.Correct.{IsFullCall}
use Rattle.pb_assembler_scheme.proofs.Wins.{Wins, After, one, popped_int, either_goes, rooted}
use Rattle.pb_assembler_scheme.proofs.Joins.{Joins, joins_same, joins_leaf, joins_call}
use Rattle.pb_assembler_scheme.proofs.Numbered.{argument_values, call_number, numbered_truth}
use Rattle.pb_assembler_scheme.proofs.Terms.{Agrees, put, gives}
use Rattle.pb_assembler_scheme.proofs.Formulas.{Compiles, Meaning, at_emit}

-- these values, pushed in order
abbrev onto : List TaggedValue → List TaggedValue → List TaggedValue
onto [] vs = vs
onto (v ∷ args) vs = onto args (v ∷ vs)

-- ---- values of carriers

abbrev holds : Carrier → ℤ → Bool
holds c z = carriers.contains (values_of c) z

abbrev within : List Carrier → List ℤ → Bool
within cs zs = carriers.is_within (map values_of cs) zs

-- a number outside a range is none of its values
outside-range : (r : range.Range) (z : ℤ) → (int_le r.low z && int_le z r.high) ≡ false → holds (carrier.Range r) z ≡ false
outside-range r z e = by (holds (carrier.Range r) z) refl
  where
    by : (b : Bool) → holds (carrier.Range r) z ≡ b → holds (carrier.Range r) z ≡ false
    by true h = let w = tagged_within (carrier.Range r) z h in absurd (true≢false (sym (and_from _ _ (from_le r.low z w.0) (from_le z r.high w.1)) ∙ e))
    by false h = h

fails-range : (c : Carrier) (shape : Shape) (tested : ℤ × ℤ) → tested_range c shape ≡ Some tested → (z : ℤ) → (int_le tested.0 z && int_le z tested.1) ≡ false → holds c z ≡ false
fails-range carrier.Bool shape tested e z out = cc
fails-range (carrier.Enum n) shape tested e z out = cc
fails-range (carrier.Range r) Unknown tested e z out = cc
fails-range (carrier.Range r) Truths tested e z out = cc
fails-range (carrier.Range r) (Places s n) tested e z out = cc
fails-range (carrier.Range r) (Wholes l h) tested e z out = by (intervals.is_included (between l h) (between r.low r.high)) e
  where
    by : (b : Bool) → cond b None (Some (r.low, r.high)) ≡ Some tested → holds (carrier.Range r) z ≡ false
    by true k = cc
    by false k = let same : (r.low, r.high) ≡ tested = cc in outside-range r z (ap (λ (p : ℤ × ℤ). int_le p.0 z && int_le z p.1) same ∙ out)

length_untagged : (vs : List TaggedValue) → length (map untagged vs) ≡ length vs
length_untagged [] = refl
length_untagged (v ∷ vs) = ap suc (length_untagged vs)

length_values : (a : Slots) (xs : List Argument) → length (argument_values a xs) ≡ length xs
length_values a [] = refl
length_values a (x ∷ xs) = ap suc (length_values a xs)

pub full_length : (o : Option (List Carrier)) (xs : List Argument) → IsFullCall o xs → length xs ≡ length (parameters o)
full_length None xs h = absurd h
full_length (Some cs) xs h = h

module _ (p : Program) (Q : List Token → Type 0) where
  -- ---- CALL takes the arguments off

  allowed : (o : Option MachineFault) (x : Outcome) → (o ≡ None → After p Q x) → After p Q (Machine.fault_or o x)
  allowed None x h = h refl
  allowed (Some f) x h = tt

  passed : (o : Option MachineFault) (x y : Outcome) → (After p Q x → After p Q y) → After p Q (Machine.fault_or o x) → After p Q (Machine.fault_or o y)
  passed None x y f h = f h
  passed (Some g) x y f h = tt

  pops_append : (cs ds : List Carrier) (acc vs : List TaggedValue) (go : List TaggedValue → List TaggedValue → Outcome)
      → After p Q (Machine.pop_args cs acc vs (λ bs us. Machine.pop_args ds bs us go)) → After p Q (Machine.pop_args (cs ++ ds) acc vs go)
  pops_append [] ds acc vs go h = h
  pops_append (c ∷ cs) ds acc [] go h = h
  pops_append (c ∷ cs) ds acc (v ∷ vs) go h = passed (argument_fault v c) _ _ (pops_append cs ds (v ∷ acc) vs go) h

  -- the arguments come off in their order, each in its carrier
  pops : (cs : List Carrier) (args acc vs : List TaggedValue) (go : List TaggedValue → List TaggedValue → Outcome) → length args ≡ length cs
      → (within cs (map untagged args) ≡ true → After p Q (go (args ++ acc) vs)) → After p Q (Machine.pop_args (reverse cs) acc (onto args vs) go)
  pops [] [] acc vs go l h = h refl
  pops [] (v ∷ args) acc vs go l h = absurd (omega arith)
  pops (c ∷ cs) [] acc vs go l h = absurd (omega arith)
  pops (c ∷ cs) (v ∷ args) acc vs go l h =
      subst (λ (ds : List Carrier). After p Q (Machine.pop_args ds acc (onto args (v ∷ vs)) go)) (sym (reverse-append (c ∷ []) cs))
      (pops_append (reverse cs) (c ∷ []) acc (onto args (v ∷ vs)) go
      (pops cs args acc (v ∷ vs) (λ bs us. Machine.pop_args (c ∷ []) bs us go) (omega arith)
      (λ w. allowed (argument_fault v c) (go (v ∷ (args ++ acc)) vs) (λ o. h (and_from _ _ (untagged_contained v c o) w)))))

  -- ---- arguments and their tests

  module _ (last : Piece) (e : ℕ) (a : Slots) where
    -- where the last piece stands, behind all arguments
    abbrev Hits : State → ℕ → List Carrier → List Argument → Type 0
    Hits st r cs xs = (q : ℕ) (vs : List TaggedValue) → HasPieceAt p.code q e last
        → map untagged vs ≡ argument_values a xs → (any_tested cs xs ≡ false → end q last ≡ r)
        → Wins p Q (put p Q st q (onto vs st.operands))

    -- where a test failed, and all arguments were taken off
    abbrev Misses : State → ℕ → List Carrier → List Argument → Type 0
    Misses st r cs xs = any_tested cs xs ≡ true → within cs (argument_values a xs) ≡ false → Wins p Q (put p Q st r st.operands)

    takes_off : (st : State) (q : ℕ) (v : TaggedValue) → slice_get p.code q ≡ Some op.Pop → Wins p Q (put p Q st (q + 1) st.operands) → Wins p Q (put p Q st q (v ∷ st.operands))
    takes_off st q v h k = one p Q (put p Q st q (v ∷ st.operands)) op.Pop h k

    -- what is behind the first argument
    abbrev Runs : List Carrier → List Argument → Type 0
    Runs cs xs = (st : State) → length xs ≡ length cs → HasPieceAt p.code st.place e (arguments_piece cs xs last) → Agrees st a
        → Hits st (end st.place (arguments_piece cs xs last)) cs xs → Misses st (end st.place (arguments_piece cs xs last)) cs xs → Wins p Q st

    behind : (c : Carrier) (cs : List Carrier) (x : Argument) (xs : List Argument) → Runs cs xs → length xs ≡ length cs
        → (st : State) (q : ℕ) → Agrees st a → (v : TaggedValue) → untagged v ≡ value a x.term
        → (o : Option (ℤ × ℤ)) → tested_range c x.shape ≡ o → (later : Bool) → any_tested cs xs ≡ later
        → HasPieceAt p.code q e (guarded o later (arguments_piece cs xs last))
        → Hits st (end q (guarded o later (arguments_piece cs xs last))) (c ∷ cs) (x ∷ xs) → Misses st (end q (guarded o later (arguments_piece cs xs last))) (c ∷ cs) (x ∷ xs)
        → Wins p Q (put p Q st q (v ∷ st.operands))
    behind c cs x xs run l st q ag v k (Some r) eo later el h hit miss =
        let some : any_tested (c ∷ cs) (x ∷ xs) ≡ true = ap (λ o. is_some o || any_tested cs xs) eo in
        let z = untagged v in
        one p Q (put p Q st q (v ∷ st.operands)) (op.InRange r.0 r.1 _) h.0 (popped_int p Q v st.operands _ (either_goes p Q (int_le r.0 z && int_le z r.1) _ _
        (λ t. run (put p Q st (q + 1) (IntValue z ∷ st.operands)) l h.1 ag
        (λ s vs there ev n. hit s (IntValue z ∷ vs) there (ap (λ (u : ℤ). u ∷ map untagged vs) k ∙ ap (λ (us : List ℤ). value a x.term ∷ us) ev) (λ f. absurd (true≢false (sym some ∙ f))))
        (λ t' w. takes_off st _ (IntValue z) h.2 (miss some (and_right (holds c (value a x.term)) _ w))))
        (λ f. takes_off st _ (IntValue z) h.2 (miss some (ap (λ b. b && within cs (argument_values a xs)) (ap (holds c) (sym k) ∙ fails-range c x.shape r eo z f))))))
    behind c cs x xs run l st q ag v k None eo true el h hit miss =
        let some : any_tested (c ∷ cs) (x ∷ xs) ≡ true = or_right (is_some (tested_range c x.shape)) (any_tested cs xs) el in
        run (put p Q st q (v ∷ st.operands)) l h.0 ag
        (λ s vs there ev n. hit s (v ∷ vs) there (ap (λ (u : ℤ). u ∷ map untagged vs) k ∙ ap (λ (us : List ℤ). value a x.term ∷ us) ev) (λ f. absurd (true≢false (sym some ∙ f))))
        (λ t w. takes_off st _ v h.1 (miss some (and_right (holds c (value a x.term)) _ w)))
    behind c cs x xs run l st q ag v k None eo false el h hit miss =
        run (put p Q st q (v ∷ st.operands)) l h ag
        (λ s vs there ev n. hit s (v ∷ vs) there (ap (λ (u : ℤ). u ∷ map untagged vs) k ∙ ap (λ (us : List ℤ). value a x.term ∷ us) ev) (λ f. n el))
        (λ t w. absurd (true≢false (sym t ∙ el)))

    runs : (cs : List Carrier) (xs : List Argument) → Runs cs xs
    runs [] [] st l h ag hit miss = hit st.place [] h refl (λ n. refl)
    runs [] (x ∷ xs) st l h ag hit miss = absurd (omega arith)
    runs (c ∷ cs) [] st l h ag hit miss = absurd (omega arith)
    runs (c ∷ cs) (x ∷ xs) st l h ag hit miss =
        gives p Q x.term st e a h.0 ag (λ v k. behind c cs x xs (runs cs xs) (omega arith) st _ ag v k (tested_range c x.shape) refl (any_tested cs xs) refl h.1 hit miss)

  -- ---- the call itself

  called : (st : State) (q eq n : ℕ) (vs : List TaggedValue) (o : Option (List Carrier)) → length vs ≡ length (parameters o) → st.brackets ≡ suc n
      → (within (parameters o) (map untagged vs) ≡ true → Wins p Q (record st { place = q + 1; output = st.output ++ token.Call (Machine.number p eq vs) ∷ [] }))
      → After p Q (Machine.call_instance p (put p Q st q (onto vs st.operands)) eq o)
  called st q eq n vs None l br go = tt
  called st q eq n vs (Some cs) l br go =
      pops cs vs [] st.operands _ l (λ w. rooted p Q st.brackets st.roots n _ br
      (subst (λ (us : List TaggedValue). Wins p Q (record st { place = q + 1; output = st.output ++ token.Call (Machine.number p eq us) ∷ [] })) (sym (append-nil vs)) (go w)))

  module _ (k : Junction) (eq : ℕ) (xs : List Argument) (full : IsFullCall (slice_get p.callees eq) xs) where
    abbrev cs : List Carrier
    cs = parameters (slice_get p.callees eq)

    abbrev φ : Meaning
    φ a env = numbered_truth p a env (Call eq xs)

    writes_call : (st : State) (q n : ℕ) (a : Slots) (vs : List TaggedValue) → slice_get p.code q ≡ Some (op.Call eq) → map untagged vs ≡ argument_values a xs → st.brackets ≡ suc n
        → ((ts : List Token) → Joins k ts (φ a) → Wins p Q (record st { place = q + 1; output = st.output ++ ts })) → Wins p Q (put p Q st q (onto vs st.operands))
    writes_call st q n a vs h ev br go =
        one p Q (put p Q st q (onto vs st.operands)) (op.Call eq) h (called st q eq n vs (slice_get p.callees eq)
        (sym (length_untagged vs) ∙ ap length ev ∙ length_values a xs ∙ full_length (slice_get p.callees eq) xs full) br
        (λ w. go (token.Call (Machine.number p eq vs) ∷ []) (joins_same k _ _ _
        (λ env. ap (λ (zs : List ℤ). env (call_number p eq zs)) ev
        ∙ ap (λ b. b && env (call_number p eq (argument_values a xs))) (sym (ap (within cs) (sym ev) ∙ w)))
        (joins_call k (Machine.number p eq vs)))))

    by : (t : Bool) → any_tested cs xs ≡ t
        → Compiles p Q k
        (cond t (Block (Then (arguments_piece cs xs (Then (Plain (op.Call eq)) Leave)) (Plain (op.Emit leaf.Cut))))
        (arguments_piece cs xs (Plain (op.Call eq)))) φ
    by true et st e a n h ag br go =
        runs (Then (Plain (op.Call eq)) Leave) _ a cs xs st (full_length (slice_get p.callees eq) xs full) h.0 ag
        (λ q vs there ev m. writes_call st q n a vs there.0 ev br (λ ts j. one p Q (record st { place = q + 1; output = st.output ++ ts }) (op.Jump _) there.1 (go ts j)))
        (λ t w. at_emit p Q leaf.Cut (put p Q st _ st.operands) n h.1 br
        (go (token.Cut ∷ [])
        (joins_same k _ _ _ (λ env. ap (λ b. b && env (call_number p eq (argument_values a xs))) (sym w)) (joins_leaf k leaf.Cut))))
    by false et st e a n h ag br go =
        runs (Plain (op.Call eq)) e a cs xs st (full_length (slice_get p.callees eq) xs full) h ag
        (λ q vs there ev m. writes_call st q n a vs there ev br (λ ts j. subst (λ r. Wins p Q (record st { place = r; output = st.output ++ ts })) (sym (m et)) (go ts j)))
        (λ t w. absurd (true≢false (sym t ∙ et)))

    pub call_runs : Compiles p Q k (call_piece eq cs xs) φ
    call_runs = by (any_tested cs xs) refl
