-- The code of a call writes the number of the instance that its arguments' values make, where they
-- are within the parameters' carriers, and no other call.
use Rattle.std.proofs.Common.{◌≡◌, ℕ, suc, ◌+◌, Bool, true, false, cond, ◌&&◌, List, [], ◌∷◌, ◌++◌}
use Rattle.std.proofs.Common.{map, length, Option, Some, None, refl, sym, ap, ◌∙◌, subst, arith}
use Rattle.std.proofs.Common.{append-nil, ◌||◌, true≢false}
use Rattle.std.specs.Prelude.{ℤ, int_le, is_some, reverse}
use Rattle.std.specs.List.{slice_get}
use Rattle.std.proofs.lemmas.List.{length-map, reverse-append}
use Rattle.std.proofs.lemmas.Bool.{and_from, or_right}
use Rattle.pb_base_values.specs.Carrier as carriers
use Rattle.pb_sorts.specs.declared.carrier.Carrier.{Carrier}
use Rattle.pb_sorts.specs.Carrier.{values_of}
use Rattle.pb_fixpoint_trees.specs.declared.Token.{Token}
use Rattle.pb_fixpoint_trees.specs.declared.Token.TheVariants as token
use Rattle.pb_bytecode_program.specs.Values.{TaggedValue, IntValue, untagged}
use Rattle.pb_bytecode_program.specs.Machine
use Rattle.pb_bytecode_program.specs.Machine.{Program, State, Outcome, MachineFault, argument_fault}
use Rattle.pb_bytecode_program.specs.declared.instruction.Leaf.TheVariants as leaf
use Rattle.pb_bytecode_program.specs.declared.instruction.Op.TheVariants as op
use Rattle.pb_bytecode_program.proofs.CarrierValues.{untagged_contained}
use Rattle.pb_normal.specs.Normal.{Argument, Slots, value}
use Rattle.pb_assembler_scheme.specs.Pieces.{Piece, Plain, Then, Block, Leave, end, HasPieceAt}
use Rattle.pb_assembler_scheme.specs.Scheme.{any_tested, arguments_piece, call_piece, guarded}
use Rattle.pb_assembler_scheme.specs.Scheme.{parameters, tested_range}
use Rattle.pb_assembler_scheme.specs.Correct.{IsFullCall}
use Rattle.pb_assembler_scheme.proofs.Calls.{full_length}
use Rattle.pb_assembler_scheme.proofs.Formulas.{at_emit}
use Rattle.pb_assembler_scheme.proofs.Numbered.{argument_values, call_number}
use Rattle.pb_assembler_scheme.proofs.Terms.{Agrees, gives, put}
use Rattle.pb_assembler_scheme.proofs.Wins.{Wins, After, either_goes, one, popped_int, rooted}
use Rattle.pb_evidence_places.proofs.OnlyCalls.{OnlyCalls, one-more}

-- values that were pushed, the last one on top
abbrev stacked : List TaggedValue → List TaggedValue → List TaggedValue
stacked [] vs = vs
stacked (v ∷ args) vs = stacked args (v ∷ vs)

abbrev pub are_within : List Carrier → List ℤ → Bool
are_within cs zs = carriers.is_within (map values_of cs) zs

module _ (p : Program) (P : ℕ → Type 0) where
  abbrev Only : List Token → Type 0
  Only = OnlyCalls P

  -- from the piece on the run ends with such tokens, where it does from behind the piece
  abbrev pub Compiles : Piece → (Slots → Type 0) → Type 0
  Compiles x Named =
      (st : State) (e : ℕ) (a : Slots) (n : ℕ) → HasPieceAt p.code st.place e x → Agrees st a
      → st.brackets ≡ suc n → Named a → Only st.output
      → ((o : List Token) → Only o → Wins p Only (record st { place = end st.place x; output = o }))
      → Wins p Only st

  -- ---- the instruction

  unless-fault : (o : Option MachineFault) (x : Outcome) → (o ≡ None → After p Only x)
      → After p Only (Machine.fault_or o x)
  unless-fault None x h = h refl
  unless-fault (Some f) x h = tt

  or-fault : (o : Option MachineFault) (x y : Outcome) → (After p Only x → After p Only y)
      → After p Only (Machine.fault_or o x) → After p Only (Machine.fault_or o y)
  or-fault None x y f h = f h
  or-fault (Some g) x y f h = tt

  abbrev Pops : List Carrier → List TaggedValue → List TaggedValue
      → (List TaggedValue → List TaggedValue → Outcome) → Type 0
  Pops cs acc vs go = After p Only (Machine.pop_args cs acc vs go)

  more-popped : (cs ds : List Carrier) (acc vs : List TaggedValue)
      (go : List TaggedValue → List TaggedValue → Outcome)
      → Pops cs acc vs (λ bs us. Machine.pop_args ds bs us go) → Pops (cs ++ ds) acc vs go
  more-popped [] ds acc vs go h = h
  more-popped (c ∷ cs) ds acc [] go h = h
  more-popped (c ∷ cs) ds acc (v ∷ vs) go h =
      or-fault (argument_fault v c) _ _ (more-popped cs ds (v ∷ acc) vs go) h

  -- the arguments come off in their order, each in its carrier
  all-popped : (cs : List Carrier) (args acc vs : List TaggedValue)
      (go : List TaggedValue → List TaggedValue → Outcome) → length args ≡ length cs
      → (are_within cs (map untagged args) ≡ true → After p Only (go (args ++ acc) vs))
      → Pops (reverse cs) acc (stacked args vs) go
  all-popped [] [] acc vs go l h = h refl
  all-popped [] (v ∷ args) acc vs go l h = absurd (omega (arith, l))
  all-popped (c ∷ cs) [] acc vs go l h = absurd (omega (arith, l))
  all-popped (c ∷ cs) (v ∷ args) acc vs go l h =
      subst (λ (ds : List Carrier). Pops ds acc (stacked args (v ∷ vs)) go)
      (sym (reverse-append (c ∷ []) cs))
      (more-popped (reverse cs) (c ∷ []) acc (stacked args (v ∷ vs)) go
      (all-popped cs args acc (v ∷ vs) (λ bs us. Machine.pop_args (c ∷ []) bs us go)
      (omega (arith, l))
      (λ w. unless-fault (argument_fault v c) (go (v ∷ (args ++ acc)) vs)
      (λ o. h (and_from _ _ (untagged_contained v c o) w)))))

  called : (st : State) (q X n : ℕ) (vs : List TaggedValue) (o : Option (List Carrier))
      → length vs ≡ length (parameters o) → st.brackets ≡ suc n
      → (are_within (parameters o) (map untagged vs) ≡ true
      → Wins p Only (record st {
        place = q + 1;
        output = st.output ++ token.Call (Machine.number p X vs) ∷ [];
      }))
      → After p Only (Machine.call_instance p (put p Only st q (stacked vs st.operands)) X o)
  called st q X n vs None l br go = tt
  called st q X n vs (Some cs) l br go =
      all-popped cs vs [] st.operands _ l (λ w. rooted p Only st.brackets st.roots n _ br
      (subst (λ (us : List TaggedValue). Wins p Only (record st {
        place = q + 1;
        output = st.output ++ token.Call (Machine.number p X us) ∷ [];
      }))
      (sym (append-nil vs)) (go w)))

  -- ---- arguments

  module _ (last : Piece) (e : ℕ) (a : Slots) where
    -- where the last piece stands, behind all arguments
    abbrev Meets : State → ℕ → List Carrier → List Argument → Type 0
    Meets st r cs xs =
        (q : ℕ) (vs : List TaggedValue) → HasPieceAt p.code q e last
        → map untagged vs ≡ argument_values a xs → (any_tested cs xs ≡ false → end q last ≡ r)
        → Wins p Only (put p Only st q (stacked vs st.operands))

    -- where a test failed, and all arguments were taken off
    abbrev Leaves : State → ℕ → List Carrier → List Argument → Type 0
    Leaves st r cs xs = any_tested cs xs ≡ true → Wins p Only (put p Only st r st.operands)

    abbrev Runs : List Carrier → List Argument → Type 0
    Runs cs xs =
        (st : State) → length xs ≡ length cs
        → HasPieceAt p.code st.place e (arguments_piece cs xs last) → Agrees st a
        → Meets st (end st.place (arguments_piece cs xs last)) cs xs
        → Leaves st (end st.place (arguments_piece cs xs last)) cs xs → Wins p Only st

    off : (st : State) (q : ℕ) (v : TaggedValue) → slice_get p.code q ≡ Some op.Pop
        → Wins p Only (put p Only st (q + 1) st.operands)
        → Wins p Only (put p Only st q (v ∷ st.operands))
    off st q v h k = one p Only (put p Only st q (v ∷ st.operands)) op.Pop h k

    -- one value is in front of the others
    in-front : (x : Argument) (xs : List Argument) (v : TaggedValue) (vs : List TaggedValue)
        → untagged v ≡ value a x.term → map untagged vs ≡ argument_values a xs
        → map untagged (v ∷ vs) ≡ argument_values a (x ∷ xs)
    in-front x xs v vs k ev =
        ap (λ (u : ℤ). u ∷ map untagged vs) k ∙ ap (λ (us : List ℤ). value a x.term ∷ us) ev

    abbrev Behind : Carrier → List Carrier → Argument → List Argument → State → ℕ → TaggedValue
        → Option (ℤ × ℤ) → Bool → Type 0
    Behind c cs x xs st q v o later =
        HasPieceAt p.code q e (guarded o later (arguments_piece cs xs last))
        → Meets st (end q (guarded o later (arguments_piece cs xs last))) (c ∷ cs) (x ∷ xs)
        → Leaves st (end q (guarded o later (arguments_piece cs xs last))) (c ∷ cs) (x ∷ xs)
        → Wins p Only (put p Only st q (v ∷ st.operands))

    behind : (c : Carrier) (cs : List Carrier) (x : Argument) (xs : List Argument) → Runs cs xs
        → length xs ≡ length cs → (st : State) (q : ℕ) → Agrees st a → (v : TaggedValue)
        → untagged v ≡ value a x.term → (o : Option (ℤ × ℤ)) → tested_range c x.shape ≡ o
        → (later : Bool) → any_tested cs xs ≡ later → Behind c cs x xs st q v o later
    behind c cs x xs run l st q ag v k (Some r) eo later el h meet leave =
        let some : any_tested (c ∷ cs) (x ∷ xs) ≡ true =
        ap (λ o. is_some o || any_tested cs xs) eo in
        let z = untagged v in
        one p Only (put p Only st q (v ∷ st.operands)) (op.InRange r.0 r.1 _) h.0
        (popped_int p Only v st.operands _ (either_goes p Only (int_le r.0 z && int_le z r.1) _ _
        (λ t. run (put p Only st (q + 1) (IntValue z ∷ st.operands)) l h.1 ag
        (λ s vs there ev n. meet s (IntValue z ∷ vs) there (in-front x xs (IntValue z) vs k ev)
        (λ f. absurd (true≢false (sym some ∙ f))))
        (λ t'. off st _ (IntValue z) h.2 (leave some)))
        (λ f. off st _ (IntValue z) h.2 (leave some))))
    behind c cs x xs run l st q ag v k None eo true el h meet leave =
        let some : any_tested (c ∷ cs) (x ∷ xs) ≡ true =
        or_right (is_some (tested_range c x.shape)) (any_tested cs xs) el in
        run (put p Only st q (v ∷ st.operands)) l h.0 ag
        (λ s vs there ev n. meet s (v ∷ vs) there (in-front x xs v vs k ev)
        (λ f. absurd (true≢false (sym some ∙ f))))
        (λ t. off st _ v h.1 (leave some))
    behind c cs x xs run l st q ag v k None eo false el h meet leave =
        run (put p Only st q (v ∷ st.operands)) l h ag
        (λ s vs there ev n. meet s (v ∷ vs) there (in-front x xs v vs k ev) (λ f. n el))
        (λ t. absurd (true≢false (sym t ∙ el)))

    runs : (cs : List Carrier) (xs : List Argument) → Runs cs xs
    runs [] [] st l h ag meet leave = meet st.place [] h refl (λ n. refl)
    runs [] (x ∷ xs) st l h ag meet leave = absurd (omega (arith, l))
    runs (c ∷ cs) [] st l h ag meet leave = absurd (omega (arith, l))
    runs (c ∷ cs) (x ∷ xs) st l h ag meet leave =
        gives p Only x.term st e a h.0 ag
        (λ v k. behind c cs x xs (runs cs xs) (omega (arith, l)) st _ ag v k
        (tested_range c x.shape) refl (any_tested cs xs) refl h.1 meet leave)

  -- ---- the call

  module _ (X : ℕ) (xs : List Argument) (full : IsFullCall (slice_get p.callees X) xs) where
    abbrev cs : List Carrier
    cs = parameters (slice_get p.callees X)

    -- the instance of the arguments' values may be called, where there is one
    abbrev Allowed : Slots → Type 0
    Allowed a = are_within cs (argument_values a xs) ≡ true → P (call_number p X (argument_values a xs))

    length_values : (a : Slots) → length (argument_values a xs) ≡ length xs
    length_values a = length-map xs (λ (x : Argument). value a x.term)

    writes : (st : State) (q n : ℕ) (a : Slots) (vs : List TaggedValue)
        → slice_get p.code q ≡ Some (op.Call X) → map untagged vs ≡ argument_values a xs
        → st.brackets ≡ suc n → Allowed a → Only st.output
        → ((o : List Token) → Only o → Wins p Only (record st { place = q + 1; output = o }))
        → Wins p Only (put p Only st q (stacked vs st.operands))
    writes st q n a vs h ev br allowed only go =
        one p Only (put p Only st q (stacked vs st.operands)) (op.Call X) h
        (called st q X n vs (slice_get p.callees X)
        (sym (length-map vs untagged) ∙ (ap length ev ∙ (length_values a
        ∙ full_length (slice_get p.callees X) xs full))) br
        (λ w. go _ (one-more P st.output (token.Call (Machine.number p X vs)) only
        (subst (λ (zs : List ℤ). P (call_number p X zs)) (sym ev)
        (allowed (ap (are_within cs) (sym ev) ∙ w))))))

    by : (t : Bool) → any_tested cs xs ≡ t → Compiles (cond t
        (Block (Then (arguments_piece cs xs (Then (Plain (op.Call X)) Leave)) (Plain (op.Emit leaf.Cut))))
        (arguments_piece cs xs (Plain (op.Call X)))) Allowed
    by true et st e a n h ag br allowed only go =
        runs (Then (Plain (op.Call X)) Leave) _ a cs xs st
        (full_length (slice_get p.callees X) xs full) h.0 ag
        (λ q vs there ev m. writes st q n a vs there.0 ev br allowed only
        (λ o k. one p Only (record st { place = q + 1; output = o }) (op.Jump _) there.1 (go o k)))
        (λ t. at_emit p Only leaf.Cut (put p Only st _ st.operands) n h.1 br
        (go _ (one-more P st.output token.Cut only tt)))
    by false et st e a n h ag br allowed only go =
        runs (Plain (op.Call X)) e a cs xs st (full_length (slice_get p.callees X) xs full) h ag
        (λ q vs there ev m. writes st q n a vs there ev br allowed only
        (λ o k. subst (λ r. Wins p Only (record st { place = r; output = o })) (sym (m et)) (go o k)))
        (λ t. absurd (true≢false (sym t ∙ et)))

    pub call-runs : Compiles (call_piece X cs xs) Allowed
    call-runs = by (any_tested cs xs) refl
