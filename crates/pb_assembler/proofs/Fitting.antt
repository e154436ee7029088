-- The instructions of compiled code fit the fields of a module.
use Rattle.std.proofs.Common.{◌≡◌, ℕ, zero, suc, ◌+◌, ◌<◌, ◌≤◌, ◌^◌, Bool, true, false, List, [], ◌∷◌, ◌++◌, length, Option, Some, None, refl, ap, ◌∙◌, subst, arith}
use Rattle.std.specs.Prelude.{nat_lt, ℤ, pos, negsuc, unwrap_or, if◌then◌else◌}
use Rattle.std.specs.List.{list_all, slice_get, All}
use Rattle.std.proofs.lemmas.Bool.{and_parts, and_from, lt-ltb, ltb-true}
use Rattle.std.proofs.lemmas.List.Folds.{list_all-append}
use Rattle.std.proofs.lemmas.Int.{ints}
use Rattle.std.proofs.lemmas.Option.{slice_get_within}
use Rattle.pb_base_values.proofs.Ends.{from_le}
use Rattle.pb_base_values.specs.Interval.{is_included}
use Rattle.pb_base.specs.declared.limits.TheConstants.{MAX_ENUMERATORS, MAX_INSTRUCTIONS}
use Rattle.pb_sorts.specs.declared.carrier.Carrier.{Carrier}
use Rattle.pb_sorts.specs.declared.carrier.Carrier.TheVariants as carrier
use Rattle.pb_text_meaning.specs.Syntax.{Operator}
use Rattle.pb_typing_declarations.specs.Shapes.{Shape, Unknown, Truths, Places, Wholes}
use Rattle.pb_typing_rules.specs.Shapes.{between}
use Rattle.pb_bytecode.specs.Limits.{is_byte, is_u16, enumerator_count, are_bounds, fits_op, fits_carrier}
use Rattle.pb_bytecode_program.specs.declared.version.Version.TheVariants as version
use Rattle.pb_bytecode_program.specs.declared.instruction.Leaf.TheVariants as leaf
use Rattle.pb_bytecode_program.specs.declared.instruction.Op.{Op}
use Rattle.pb_bytecode_program.specs.declared.instruction.Op.TheVariants as op
use Rattle.pb_normal.specs.Bounds.{FormulaBounds, is_bounded, are_bounded, is_bounded_formula}
use Rattle.pb_fixpoint_trees.specs.declared.junction.Junction.{Junction}
use Rattle.pb_fixpoint_trees.specs.declared.junction.Junction.TheVariants.{Conjunction, Disjunction}
use Rattle.pb_normal.specs.Normal.{Term, Number, Slot, Negative, Absolute, Successor, Predecessor, Binary, Maximum, Minimum, Choice, Recognised, Argument, Formula, Test, Join, Each, Call}
use Rattle.pb_normal.specs.Structs.{has_enumerator, AreFew}
use Rattle.pb_assembler_scheme.proofs.Flat.{long}
use Rattle.pb_assembler_scheme.specs.Pieces.{Piece, Empty, Plain, Then, Unless, Choose, Repeat, Block, Leave, Guard, end, flat}
use Rattle.pb_assembler_scheme.specs.Scheme.{junction_of, data_piece, binary_piece, tested_piece, test_of, join_piece, under, tested_range, any_tested, guarded, arguments_piece, call_piece, parameters, formula_piece, equation_piece, equation_code, head}
use Rattle.pb_normal.specs.Small.{is_small, are_small, is_small_formula}

-- ---- pieces

module _ (sizes : List ℕ) where
  abbrev FitsPiece : Piece → Type 0
  FitsPiece Empty = Unit {0}
  FitsPiece (Plain i) = fits_op version.One sizes i ≡ true
  FitsPiece (Then a b) = FitsPiece a × FitsPiece b
  FitsPiece (Unless on a) = FitsPiece a
  FitsPiece (Choose on a b) = FitsPiece a × FitsPiece b
  FitsPiece (Repeat s a) = (is_byte s ≡ true) × FitsPiece a
  FitsPiece (Block a) = FitsPiece a
  FitsPiece Leave = Unit {0}
  FitsPiece (Guard low high a) = (are_bounds low high ≡ true) × FitsPiece a

  abbrev Fit : List Op → Type 0
  Fit is = list_all (fits_op version.One sizes) is ≡ true

  fit_append : (is js : List Op) → Fit is → Fit js → Fit (is ++ js)
  fit_append is js h k = list_all-append (fits_op version.One sizes) is js ∙ and_from _ _ h k

  fit_cons : (i : Op) (is : List Op) → fits_op version.One sizes i ≡ true → Fit is → Fit (i ∷ is)
  fit_cons i is h k = and_from _ _ h k

  target : (q : ℕ) → q < 2 ^ 16 → is_u16 q ≡ true
  target q h = lt-ltb q (2 ^ 16) h

  flat_fits : (x : Piece) (q e : ℕ) → FitsPiece x → end q x < 2 ^ 16 → e < 2 ^ 16 → Fit (flat q e x)
  flat_fits Empty q e h short inside = refl
  flat_fits (Plain i) q e h short inside = fit_cons i [] h refl
  flat_fits (Then a b) q e h short inside =
      fit_append (flat q e a) (flat (end q a) e b) (flat_fits a q e h.0 (let l = long (end q a) e b in omega arith) inside) (flat_fits b (end q a) e h.1 short inside)
  flat_fits (Unless on a) q e h short inside = fit_cons (op.JumpIf on (end (q + 1) a)) (flat (q + 1) e a) (target (end (q + 1) a) short) (flat_fits a (q + 1) e h short inside)
  flat_fits (Choose on a b) q e h short inside =
      let mid = end (q + 1) a in
      let to = end (mid + 1) b in
      let l = long (mid + 1) e b in
      fit_cons (op.JumpIf on (mid + 1)) (flat (q + 1) e a ++ op.Jump to ∷ flat (mid + 1) e b) (target (mid + 1) (omega arith))
      (fit_append (flat (q + 1) e a) (op.Jump to ∷ flat (mid + 1) e b) (flat_fits a (q + 1) e h.0 (omega arith) inside)
      (fit_cons (op.Jump to) (flat (mid + 1) e b) (target to short) (flat_fits b (mid + 1) e h.1 short inside)))
  flat_fits (Repeat s a) q e h short inside =
      fit_cons (op.Loop s) (flat (q + 1) e a ++ op.Next ∷ []) h.0
      (fit_append (flat (q + 1) e a) (op.Next ∷ []) (flat_fits a (q + 1) e h.1 (omega arith) inside) refl)
  flat_fits (Block a) q e h short inside = flat_fits a q (end q a) h short short
  flat_fits Leave q e h short inside = fit_cons (op.Jump e) [] (target e inside) refl
  flat_fits (Guard low high a) q e h short inside =
      fit_cons (op.InRange low high (end (q + 1) a)) (flat (q + 1) e a ++ op.Pop ∷ []) (and_from _ _ h.0 (target (end (q + 1) a) (omega arith)))
      (fit_append (flat (q + 1) e a) (op.Pop ∷ []) (flat_fits a (q + 1) e h.1 (omega arith) inside) refl)

  -- ---- terms

  module _ (few : AreFew sizes) where
    enumerator_fits : (s i : ℕ) → has_enumerator sizes s i ≡ true → fits_op version.One sizes (op.PushEnum s i) ≡ true
    enumerator_fits s i h = by (slice_get sizes s) refl (ltb-true i (enumerator_count sizes s) h)
      where
        by : (o : Option ℕ) → slice_get sizes s ≡ o → i < enumerator_count sizes s → fits_op version.One sizes (op.PushEnum s i) ≡ true
        by None at below = absurd (omega (arith, below, ap (λ o. unwrap_or o 0) at))
        by (Some n) at below =
            let there = slice_get_within sizes s n at in
            let structs = few.structs in
            let count = ap (λ o. unwrap_or o 0) at in
            let most = among sizes s n at few.enumerators in
            and_from _ _ (and_from _ _ (lt-ltb s 256 (omega arith)) (lt-ltb s (length sizes) there)) (and_from _ _ (lt-ltb i 256 (omega (arith, below, count, most))) h)
          where
            among : (ns : List ℕ) (k n : ℕ) → slice_get ns k ≡ Some n → All (λ (m : ℕ). (0 < m) × (m ≤ MAX_ENUMERATORS)) ns → n ≤ MAX_ENUMERATORS
            among [] k n at all = cc
            among (m ∷ ns) zero n at all = let same : m ≡ n = cc in let w = (all 0 m (omega arith)).1 in omega arith
            among (m ∷ ns) (suc k) n at all = among ns k n at (λ j d l. all (suc j) d (omega arith))

    module _ (b : FormulaBounds) (same : b.counts ≡ sizes) where
      enumerated : (s i : ℕ) → has_enumerator b.counts s i ≡ true → fits_op version.One sizes (op.PushEnum s i) ≡ true
      enumerated s i h = enumerator_fits s i (subst (λ (ns : List ℕ). has_enumerator ns s i ≡ true) same h)

      number_fits : (n : ℕ) → n < 2 ^ 63 → fits_op version.One sizes (op.PushInt (pos n)) ≡ true
      number_fits n h = and_from _ _ (from_le (negsuc 9223372036854775807) (pos n) (omega (arith, ints))) (from_le (pos n) (pos 9223372036854775807) (omega (arith, ints, h)))

      binary_fits : (o : Operator) (x y : Piece) → FitsPiece x → FitsPiece y → FitsPiece (binary_piece o x y)
      binary_fits Operator.And x y h k = (k, (h, refl))
      binary_fits Operator.Or x y h k = (k, (h, refl))
      binary_fits Operator.Implies x y h k = (k, ((h, refl), refl))
      binary_fits Operator.Equal x y h k = (h, (k, refl))
      binary_fits Operator.NotEqual x y h k = (h, (k, refl))
      binary_fits Operator.Less x y h k = (h, (k, refl))
      binary_fits Operator.LessEqual x y h k = (h, (k, refl))
      binary_fits Operator.Greater x y h k = (h, (k, refl))
      binary_fits Operator.GreaterEqual x y h k = (h, (k, refl))
      binary_fits Operator.Plus x y h k = (h, (k, refl))
      binary_fits Operator.Minus x y h k = (h, (k, refl))
      binary_fits Operator.Times x y h k = (h, (k, refl))
      binary_fits Operator.Div x y h k = (h, (k, refl))
      binary_fits Operator.Mod x y h k = (h, (k, refl))

      term_fits : (t : Term) → is_small t ≡ true → is_bounded b t ≡ true → FitsPiece (data_piece t)
      term_fits (Term.Truth c) h k = refl
      term_fits (Number n) h k = number_fits n (ltb-true n (2 ^ 63) h)
      term_fits (Term.Enumerator s i) h k = enumerated s i k
      term_fits (Slot s) h k = h
      term_fits (Term.Not x) h k = (term_fits x h k, refl)
      term_fits (Negative x) h k = (term_fits x h k, refl)
      term_fits (Absolute x) h k = (term_fits x h k, refl)
      term_fits (Successor x) h k = (term_fits x h k, (refl, refl))
      term_fits (Predecessor x) h k = (term_fits x h k, (refl, refl))
      term_fits (Binary o x y) h k = let p = and_parts _ _ h in let q = and_parts _ _ k in binary_fits o (data_piece x) (data_piece y) (term_fits x p.0 q.0) (term_fits y p.1 q.1)
      term_fits (Maximum x y) h k = let p = and_parts _ _ h in let q = and_parts _ _ k in (term_fits x p.0 q.0, (term_fits y p.1 q.1, refl))
      term_fits (Minimum x y) h k = let p = and_parts _ _ h in let q = and_parts _ _ k in (term_fits x p.0 q.0, (term_fits y p.1 q.1, refl))
      term_fits (Choice c x y) h k =
          let p = and_parts _ _ h in
          let q = and_parts _ _ k in
          let r = and_parts _ _ p.1 in
          let s = and_parts _ _ q.1 in
          (term_fits c p.0 q.0, (term_fits x r.0 s.0, term_fits y r.1 s.1))
      term_fits (Recognised s i x) h k = let q = and_parts _ _ k in (term_fits x h q.1, (enumerated s i q.0, refl))

      -- ---- calls

      abbrev CarriersFit : List Carrier → Type 0
      CarriersFit cs = list_all (fits_carrier sizes) cs ≡ true

      abbrev RangeFits : Option (ℤ × ℤ) → Type 0
      RangeFits None = Unit {0}
      RangeFits (Some r) = are_bounds r.0 r.1 ≡ true

      range_fits : (c : Carrier) (s : Shape) → fits_carrier sizes c ≡ true → RangeFits (tested_range c s)
      range_fits carrier.Bool s h = tt
      range_fits (carrier.Enum e) s h = tt
      range_fits (carrier.Range r) Unknown h = tt
      range_fits (carrier.Range r) Truths h = tt
      range_fits (carrier.Range r) (Places s n) h = tt
      range_fits (carrier.Range r) (Wholes l g) h = by (is_included (between l g) (between r.low r.high))
        where
          by : (c : Bool) → RangeFits (if c then None else Some (r.low, r.high))
          by true = tt
          by false = h

      guarded_fits : (o : Option (ℤ × ℤ)) (after : Bool) (x : Piece) → RangeFits o → FitsPiece x → FitsPiece (guarded o after x)
      guarded_fits (Some r) after x h k = (h, k)
      guarded_fits None true x h k = (k, refl)
      guarded_fits None false x h k = k

      arguments_fit : (cs : List Carrier) (xs : List Argument) (last : Piece) → CarriersFit cs → are_small xs ≡ true → are_bounded b xs ≡ true → FitsPiece last → FitsPiece (arguments_piece cs xs last)
      arguments_fit [] [] last f h k l = l
      arguments_fit (c ∷ cs) [] last f h k l = l
      arguments_fit [] (x ∷ xs) last f h k l =
          let p = and_parts (is_small x.term) (are_small xs) h in
          let q = and_parts (is_bounded b x.term) (are_bounded b xs) k in
          (term_fits x.term p.0 q.0, arguments_fit [] xs last refl p.1 q.1 l)
      arguments_fit (c ∷ cs) (x ∷ xs) last f h k l =
          let p = and_parts (is_small x.term) (are_small xs) h in
          let q = and_parts (is_bounded b x.term) (are_bounded b xs) k in
          let r = and_parts (fits_carrier sizes c) (list_all (fits_carrier sizes) cs) f in
          (term_fits x.term p.0 q.0, guarded_fits (tested_range c x.shape) (any_tested cs xs) (arguments_piece cs xs last) (range_fits c x.shape r.0) (arguments_fit cs xs last r.1 p.1 q.1 l))

      call_fits : (equation : ℕ) (cs : List Carrier) (xs : List Argument) → is_byte equation ≡ true → CarriersFit cs
          → are_small xs ≡ true → are_bounded b xs ≡ true → FitsPiece (call_piece equation cs xs)
      call_fits equation cs xs e f h k = by (any_tested cs xs)
        where
          by : (c : Bool)
              → FitsPiece
              (if c then Block
              (Then (arguments_piece cs xs (Then (Plain (op.Call equation)) Leave)) (Plain (op.Emit leaf.Cut))) else
              arguments_piece cs xs (Plain (op.Call equation)))
          by true = (arguments_fit cs xs (Then (Plain (op.Call equation)) Leave) f h k (e, tt), refl)
          by false = arguments_fit cs xs (Plain (op.Call equation)) f h k e

      -- ---- formulas

      abbrev TestFits : Option Term → Type 0
      TestFits None = Unit {0}
      TestFits (Some t) = FitsPiece (data_piece t)

      test_fits : (f : Formula) → is_small_formula f ≡ true → is_bounded_formula b f ≡ true → TestFits (test_of f)
      test_fits (Test t) h k = term_fits t h k
      test_fits (Join m f g) h k = tt
      test_fits (Each q s shape f) h k = tt
      test_fits (Call X xs) h k = tt

      tested_fits : (m around : Junction) (t : Term) (x : Piece) → FitsPiece (data_piece t) → FitsPiece x → FitsPiece (tested_piece m around t x)
      tested_fits Conjunction Conjunction t x h k = (h, (refl, k))
      tested_fits Disjunction Disjunction t x h k = (h, (refl, k))
      tested_fits Conjunction Disjunction t x h k = (h, k)
      tested_fits Disjunction Conjunction t x h k = (h, k)

      under_fits : (m around : Junction) (x : Piece) → FitsPiece x → FitsPiece (under m around x)
      under_fits Conjunction Conjunction x h = h
      under_fits Disjunction Disjunction x h = h
      under_fits Conjunction Disjunction x h = (refl, (h, refl))
      under_fits Disjunction Conjunction x h = (refl, (h, refl))

      join_fits : (m around : Junction) (u v : Option Term) (fa ga fo go : Piece) → TestFits u → TestFits v
          → FitsPiece fa → FitsPiece ga → FitsPiece fo → FitsPiece go → FitsPiece (join_piece m around u v fa ga fo go)
      join_fits m around (Some t) v fa ga fo go h k a c d e = tested_fits m around t ga h c
      join_fits m around None (Some t) fa ga fo go h k a c d e = tested_fits m around t fa k a
      join_fits m around None None fa ga fo go h k a c d e = under_fits m around (Then fo go) (d, e)

      module _ (callees : List (List Carrier)) (fit : (k : ℕ) (cs : List Carrier) → slice_get callees k ≡ Some cs → CarriersFit cs) where
        callee_fits : (k : ℕ) → CarriersFit (parameters (slice_get callees k))
        callee_fits k = by (slice_get callees k) refl
          where
            by : (o : Option (List Carrier)) → slice_get callees k ≡ o → CarriersFit (parameters o)
            by None e = refl
            by (Some cs) e = fit k cs e

        formula_fits : (f : Formula) (around : Junction) → is_small_formula f ≡ true → is_bounded_formula b f ≡ true → FitsPiece (formula_piece callees around f)
        formula_fits (Test t) around h k = (term_fits t h k, refl)
        formula_fits (Join m f g) around h k =
            let p = and_parts (is_small_formula f) (is_small_formula g) h in
            let q = and_parts (is_bounded_formula b f) (is_bounded_formula b g) k in
            join_fits m around (test_of f) (test_of g) (formula_piece callees around f) (formula_piece callees around g) (formula_piece callees m f) (formula_piece callees m g)
            (test_fits f p.0 q.0) (test_fits g p.1 q.1)
            (formula_fits f around p.0 q.0) (formula_fits g around p.1 q.1) (formula_fits f m p.0 q.0) (formula_fits g m p.1 q.1)
        formula_fits (Each r s shape f) around h k =
            let p = and_parts (nat_lt s 256) (is_small_formula f) h in
            let q = and_parts (nat_lt s b.slots) (is_bounded_formula b f) k in
            under_fits (junction_of r) around (Repeat s (formula_piece callees (junction_of r) f)) (p.0, formula_fits f (junction_of r) p.1 q.1)
        formula_fits (Call equation xs) around h k =
            let p = and_parts (nat_lt equation 256) (are_small xs) h in
            let q = and_parts (nat_lt equation b.equations) (are_bounded b xs) k in
            call_fits equation (parameters (slice_get callees equation)) xs p.0 (callee_fits equation) p.1 q.1

        -- an equation's code, where it keeps the machine's limit
        pub code_fits : (f : Formula) → is_small_formula f ≡ true → is_bounded_formula b f ≡ true
            → length (equation_code callees f) ≤ MAX_INSTRUCTIONS → list_all (fits_op version.One sizes) (equation_code callees f) ≡ true
        code_fits f h k short =
            flat_fits (equation_piece callees f) 0 0 ((refl, (formula_fits f (head f) h k, refl)), refl)
            (let l = long 0 0 (equation_piece callees f) in omega (arith, short)) (omega arith)

        pub code_some : (f : Formula) → 0 < length (equation_code callees f)
        code_some f = let l = long 0 0 (equation_piece callees f) in omega arith
