-- What the normal form of a typed tree names, the tree makes a call for.
use Rattle.std.proofs.Common.{◌≡◌, ℕ, ◌+◌, Bool, true, false, not, ◌&&◌, ◌||◌}
use Rattle.std.proofs.Common.{List, [], ◌∷◌, Option, Some, None, length, map, take, drop, refl}
use Rattle.std.proofs.Common.{sym, ap, ◌∙◌, subst, arith}
use Rattle.std.specs.Prelude.{ℤ}
use Rattle.std.specs.Cmp.Rules.{signed_items}
use Rattle.std.specs.List.{slice_get}
use Rattle.std.proofs.lemmas.Bool.{and_from, and_right, eq-eqb, or_right}
use Rattle.std.proofs.lemmas.List.{length-drop, length-take-le}
use Rattle.pb_fixpoint.specs.Solution.{empty}
use Rattle.pb_text_tree.specs.declared.place.Place.{Place}
use Rattle.pb_text_tree.specs.declared.operator.Connective.{Connective}
use Rattle.pb_text_tree.specs.declared.operator.Connective.TheVariants as connective
use Rattle.pb_text_tree.specs.declared.operator.Quantifier.TheVariants.{Exists}
use Rattle.pb_sorts.specs.declared.carrier.Carrier.{Carrier}
use Rattle.pb_sorts.specs.Carrier.{values_of}
use Rattle.pb_sorts.specs.Instance.{Instance, is_instance, is_tuple_of}
use Rattle.pb_sorts.specs.Layout.{carriers_of}
use Rattle.pb_sorts.proofs.Places.{slice_get-mapped}
use Rattle.pb_text_meaning.specs.Syntax.{Spec}
use Rattle.pb_text_meaning.specs.Value.{is_true, of_values}
use Rattle.pb_text_meaning.proofs.Truths.{is_true-of_bool}
use Rattle.pb_typing_declarations.specs.Shapes.{shape_carrier}
use Rattle.pb_typing_rules.specs.Faults.{left_parity}
use Rattle.pb_typing_tree.specs.Calls.{calls}
use Rattle.pb_typing_tree.specs.Meaning.{Slots, set, truth, value}
use Rattle.pb_typing_tree.specs.Tree as tree
use Rattle.pb_typing_tree.specs.Tree.{Term, Argument, Formula, Test, Negation, Connected, Quantified, Call}
use Rattle.pb_bytecode_program.specs.Machine.{Program, carrier_of}
use Rattle.pb_normal.specs.Chains.{joins}
use Rattle.pb_normal.specs.Normal as normal
use Rattle.pb_normal.specs.Plain.{signed}
use Rattle.pb_normal.specs.SignedForm.{signed_form}
use Rattle.pb_assembler_scheme.specs.Correct.{HasFullCalls, IsFullCall}
use Rattle.pb_assembler_scheme.specs.Scheme.{neutral, parameters, test_of}
use Rattle.pb_assembler_scheme.proofs.Numbered.{HasSlots, argument_values, call_number}
use Rattle.pb_typing_calls.specs.Calls.{decides, same_place}
use Rattle.pb_typing_calls.specs.Made.{is_deciding, is_test, made}
use Rattle.pb_typing_calls.specs.declared.side.Side.TheVariants.{Left, Right}
use Rattle.pb_evidence_places.proofs.CallCode.{are_within}
use Rattle.pb_evidence_places.proofs.FormulaCode.{BothName, NamesOnly, OfEach}
use Rattle.pb_evidence_places.proofs.LoopValues.{values-of-loop}

-- ---- tests

neutral-left : (c : Connective) (even b : Bool) → signed (left_parity c even) b ≡ neutral (joins c even)
    → decides c Left b ≡ false
neutral-left connective.And true true e = refl
neutral-left connective.And true false e = cc
neutral-left connective.And false true e = refl
neutral-left connective.And false false e = cc
neutral-left connective.Or true true e = cc
neutral-left connective.Or true false e = refl
neutral-left connective.Or false true e = cc
neutral-left connective.Or false false e = refl
neutral-left connective.Implies true true e = refl
neutral-left connective.Implies true false e = cc
neutral-left connective.Implies false true e = refl
neutral-left connective.Implies false false e = cc

neutral-right : (c : Connective) (even b : Bool) → signed even b ≡ neutral (joins c even)
    → decides c Right b ≡ false
neutral-right connective.And true true e = refl
neutral-right connective.And true false e = cc
neutral-right connective.And false true e = refl
neutral-right connective.And false false e = cc
neutral-right connective.Or true true e = cc
neutral-right connective.Or true false e = refl
neutral-right connective.Or false true e = cc
neutral-right connective.Or false false e = refl
neutral-right connective.Implies true true e = cc
neutral-right connective.Implies true false e = refl
neutral-right connective.Implies false true e = cc
neutral-right connective.Implies false false e = refl

signed-not : (even b : Bool) → signed (not even) b ≡ signed even (not b)
signed-not true b = refl
signed-not false true = refl
signed-not false false = refl

module _ (spec : Spec) (a : Slots) where
  -- a test of the normal form has the truth of the formula that it comes from
  test-truth : (f : Formula) (even : Bool) (x : Term) → test_of (signed_form even f) ≡ Some x
      → is_true (value a x) ≡ signed even (truth spec a empty f)
  test-truth (Test y) true x e = let same : y ≡ x = cc in ap (λ (z : Term). is_true (value a z)) (sym same)
  test-truth (Test y) false x e =
      let same : tree.Term.Not y ≡ x = cc in
      ap (λ (z : Term). is_true (value a z)) (sym same) ∙ is_true-of_bool (not (is_true (value a y)))
  test-truth (Negation f) even x e =
      test-truth f (not even) x e ∙ signed-not even (truth spec a empty f)
  test-truth (Connected c f g) even x e = cc
  test-truth (Quantified q s shape f) even x e = cc
  test-truth (Call X es) even x e = cc

-- what isn't tested is no test
no-test : (f : Formula) (even : Bool) → test_of (signed_form even f) ≡ None → is_test f ≡ false
no-test (Test y) true e = cc
no-test (Test y) false e = cc
no-test (Negation f) even e = no-test f (not even) e
no-test (Connected c f g) even e = refl
no-test (Quantified q s shape f) even e = refl
no-test (Call X es) even e = refl

-- ---- operands

length-taken : (m n : ℕ) (ps : List Place) → length ps ≡ m + n → length (take m ps) ≡ m
length-taken m n ps long = length-take-le m ps (omega (arith, long))

length-left : (m n : ℕ) (ps : List Place) → length ps ≡ m + n → length (drop m ps) ≡ n
length-left m n ps long = omega (arith, length-drop m ps, long)

left-made : (r x l y : Bool) → r ≡ false → x ≡ true → ((not r && x) || (not l && y)) ≡ true
left-made r x l y e is = ap (λ b. (not b && x) || (not l && y)) e ∙ ap (λ b. b || (not l && y)) is

right-made : (r x l y : Bool) → l ≡ false → y ≡ true → ((not r && x) || (not l && y)) ≡ true
right-made r x l y e is =
    ap (λ b. (not r && x) || (not b && y)) e ∙ (ap (λ b. (not r && x) || b) is ∙ or_right (not r && x) true refl)

-- ---- formulas

module _ (spec : Spec) (p : Program) (P : ℕ → Type 0) where
  -- P holds of each instance for which the formula makes a call
  abbrev pub MakesOnly : Slots → Formula → List Place → Type 0
  MakesOnly a f ps =
      (i : Instance) (place : Place) → is_instance (carriers_of p.callees) i ≡ true
      → made spec i place a f ps ≡ true → P (call_number p i.equation i.values)

  -- of each value of a slot
  each-value : (F : Slots → Type 0) (f : Formula) (a : Slots) (s : ℕ) (ps : List Place)
      → ((b : Slots) → MakesOnly b f ps → F b) → (zs : List ℤ)
      → ((i : Instance) (place : Place) → is_instance (carriers_of p.callees) i ≡ true
      → of_values Exists (λ z. made spec i place (set a s z) f ps) zs ≡ true
      → P (call_number p i.equation i.values))
      → OfEach (λ z. F (set a s z)) zs
  each-value F f a s ps says [] only = tt
  each-value F f a s ps says (z ∷ zs) only = (
    says (set a s z) (λ i place known is. only i place known (ap (λ b. b || of_values Exists
        (λ z. made spec i place (set a s z) f ps) zs) is)),
    each-value F f a s ps says zs (λ i place known is. only i place known
        (or_right (made spec i place (set a s z) f ps) _ is)),
  )

  instance-called : (X : ℕ) (xs : List Argument) (vs : List ℤ) (o : Option (List Carrier))
      → slice_get p.callees X ≡ o → IsFullCall o xs → are_within (parameters o) vs ≡ true
      → is_instance (carriers_of p.callees) (record { equation = X; values = vs }) ≡ true
  instance-called X xs vs None at full within = absurd full
  instance-called X xs vs (Some cs) at full within =
      ap (λ o. is_tuple_of o vs) (slice_get-mapped (λ (ds : List Carrier). map values_of ds) p.callees X cs at)
      ∙ within

  place-is-itself : (q : Place) → same_place q q ≡ true
  place-is-itself q = and_from _ _ (eq-eqb q.line q.line refl) (eq-eqb q.column q.column refl)

  call-named : (X : ℕ) (xs : List Argument) (a : Slots) (ps : List Place) → length ps ≡ 1
      → IsFullCall (slice_get p.callees X) xs → MakesOnly a (Call X xs) ps
      → NamesOnly p P a (normal.Call X xs)
  call-named X xs a [] long full only = absurd (omega (arith, long))
  call-named X xs a (q ∷ qs) long full only = λ within.
      let vs = argument_values a xs in
      only (record { equation = X; values = vs }) q
      (instance-called X xs vs (slice_get p.callees X) refl full within)
      (and_from _ _ (place-is-itself q)
      (and_from _ _ (eq-eqb X X refl) ((signed_items vs vs).1 refl)))

  operands-named : (c : Connective) (even : Bool) (f g : Formula) (a : Slots) (ps : List Place)
      → length ps ≡ calls f + calls g
      → ((qs : List Place) → length qs ≡ calls f → MakesOnly a f qs
      → NamesOnly p P a (signed_form (left_parity c even) f))
      → ((qs : List Place) → length qs ≡ calls g → MakesOnly a g qs
      → NamesOnly p P a (signed_form even g))
      → MakesOnly a (Connected c f g) ps
      → NamesOnly p P a (signed_form even (Connected c f g))
  operands-named c even f g a ps long named_f named_g only =
      both (test_of (signed_form (left_parity c even) f)) (test_of (signed_form even g)) refl refl
    where
      fs : List Place
      fs = take (calls f) ps

      gs : List Place
      gs = drop (calls f) ps

      first : is_deciding spec a c Right g ≡ false
          → NamesOnly p P a (signed_form (left_parity c even) f)
      first e =
          named_f fs (length-taken (calls f) (calls g) ps long)
          (λ i place known is. only i place known
          (left-made (is_deciding spec a c Right g) (made spec i place a f fs)
          (is_deciding spec a c Left f) (made spec i place a g gs) e is))

      second : is_deciding spec a c Left f ≡ false → NamesOnly p P a (signed_form even g)
      second e =
          named_g gs (length-left (calls f) (calls g) ps long)
          (λ i place known is. only i place known
          (right-made (is_deciding spec a c Right g) (made spec i place a f fs)
          (is_deciding spec a c Left f) (made spec i place a g gs) e is))

      both : (o u : Option Term) → test_of (signed_form (left_parity c even) f) ≡ o
          → test_of (signed_form even g) ≡ u
          → BothName (joins c even) a o u (NamesOnly p P a (signed_form (left_parity c even) f))
          (NamesOnly p P a (signed_form even g))
      both (Some x) u is_left is_right = λ e.
          second (and_right (is_test f) (decides c Left (truth spec a empty f)) (neutral-left c even (truth spec a empty f)
          (sym (test-truth spec a f (left_parity c even) x is_left) ∙ e)))
      both None (Some x) is_left is_right = λ e.
          first (and_right (is_test g) (decides c Right (truth spec a empty g)) (neutral-right c even (truth spec a empty g)
          (sym (test-truth spec a g even x is_right) ∙ e)))
      both None None is_left is_right = (
        first (ap (λ b. b && decides c Right (truth spec a empty g)) (no-test g even is_right)),
        second (ap (λ b. b && decides c Left (truth spec a empty f))
            (no-test f (left_parity c even) is_left)),
      )

  pub makes-named : (f : Formula) (even : Bool) (a : Slots) (ps : List Place)
      → length ps ≡ calls f → HasSlots p (signed_form even f)
      → HasFullCalls p.callees (signed_form even f) → MakesOnly a f ps
      → NamesOnly p P a (signed_form even f)
  makes-named (Test x) true a ps long slots full only = tt
  makes-named (Test x) false a ps long slots full only = tt
  makes-named (Negation f) even a ps long slots full only =
      makes-named f (not even) a ps long slots full only
  makes-named (Connected c f g) even a ps long slots full only =
      operands-named c even f g a ps long
      (λ qs count makes. makes-named f (left_parity c even) a qs count slots.0 full.0 makes)
      (λ qs count makes. makes-named g even a qs count slots.1 full.1 makes) only
  makes-named (Quantified q s shape f) even a ps long slots full only =
      let F : Slots → Type 0 = λ b. NamesOnly p P b (signed_form even f) in
      subst (OfEach (λ z. F (set a s z)))
      (sym (values-of-loop (carrier_of p s) ∙ ap shape_carrier slots.0))
      (each-value F f a s ps
      (λ b makes. makes-named f even b ps long slots.1 full makes) (shape_carrier shape) only)
  makes-named (Call X xs) even a ps long slots full only = call-named X xs a ps long full only
