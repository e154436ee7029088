-- Well-typed terms of a text are well typed over slots, with the intervals that typing gives them.
use Rattle.std.proofs.Common.{◌≡◌, ℕ, ◌<◌, ◌≤◌, max, Bool, true, false, cond, not, ◌&&◌, ◌||◌, List, [], ◌∷◌, length, Option, Some, None, refl, sym, ap, ◌∙◌, subst, arith, true≢false}
use Rattle.std.specs.Prelude.{ℤ, pos, int_lt, int_le, slice_get}
use Rattle.std.specs.Option.{option_map}
use Rattle.std.proofs.lemmas.Bool.{and_from, and_parts, eqb-true, eq-eqb}
use Rattle.std.proofs.lemmas.Int.{ints, clamps}
use Rattle.pb_bytecode_program.proofs.Ints.{from_le, le_true, from_below}
use Rattle.pb_base_values.specs.Interval.{IntegerInterval, is_included, within, literals, words, singleton}
use Rattle.pb_base_values.specs.Operation.{UnaryOperation, BinaryOperation, unary_interval, binary_interval}
use Rattle.pb_text_meaning.specs.Syntax as syntax
use Rattle.pb_text_meaning.specs.Syntax.{Name, Operator, Terms, Spec}
use Rattle.pb_text_meaning.specs.declared.function.NamedFunction.{NamedFunction}
use Rattle.pb_text_meaning.specs.declared.function.NamedFunction.TheVariants.{If, Succ, Pred, Abs, Max, Min, Pos2Nat, Pos2Int, Nat2Int}
use Rattle.pb_text_meaning.specs.Functions.{named_function}
use Rattle.pb_typing_declarations.specs.Shapes.{Shape, Unknown, Truths, Places, Wholes}
use Rattle.pb_typing_declarations.specs.Enumerators.{Position, position_shape, enumerator_of, recogniser_of, recogniser_shape}
use Rattle.pb_typing_rules.specs.Shapes.{may_be_truth, may_be_whole, may_be_alike, of_interval, between, unary_shape, unary_is_limited, may_divide, binary_shape, binary_is_limited, shape_hull, kind_of, outcome}
use Rattle.pb_typing_rules.specs.Functions.{Function, known_function, function_named, OfOne, OfTwo, Conversion, Recogniser, recogniser, kept}
use Rattle.pb_typing_rules.specs.Functions as functions
use Rattle.pb_typing_rules.specs.Scope.{Scope, shape_or, named_shape}
use Rattle.pb_typing_rules.specs.Term.{shape, shapes, shape_or_unknown, applied_shape, IsNamed, IsApplied, IsOperation, passes, IsTyped, AreTyped}
use Rattle.pb_typing_rules.proofs.Operations.{not_or}
use Rattle.pb_typing_rules.proofs.Functions.{may_follow}
use Rattle.pb_bytecode_program.specs.Values.{has_divisor, fits64, operation_of}
use Rattle.pb_bytecode_program.specs.Abstract.{same_kind, Covers}
use Rattle.pb_bytecode_program.specs.declared.domain.AbstractValue.{AbstractValue}
use Rattle.pb_bytecode_program.specs.declared.domain.AbstractValue.TheVariants as abstract
use Rattle.pb_bytecode_program.specs.Transfer.{abstract_slot}
use Rattle.pb_bytecode_program.specs.Accepted.{CoversEach, CoversLoops}
use Rattle.pb_bytecode_program.specs.declared.instruction.Arithmetic.{Arithmetic}
use Rattle.pb_bytecode_program.specs.declared.instruction.Arithmetic.TheVariants as arithmetic
use Rattle.pb_normal.specs.Normal.{Term, Slot, Negative, Absolute, Successor, Predecessor, Binary, Maximum, Minimum, Choice, Recognised}
use Rattle.pb_normal.specs.Normalisation as made
use Rattle.pb_normal.specs.Normalisation.{Slotting, slotted, slotted_all, applied_to_one, applied_to_two, applied_to_three, applied}
use Rattle.pb_assembler_scheme.specs.Made.{struct_counts}
use Rattle.pb_assembler_scheme.proofs.Typing.{Typed, Computes, Compares, Connects, Makes, instruction_of, IsEnumerator, solid}
use Rattle.pb_assembler_scheme.proofs.AcceptedFormulas.{known_of}
use Rattle.pb_assembler_scheme.proofs.Shapes.{IsPosition, struct_known, enumerator_known, recogniser_known}

-- ---- shapes that are known

abbrev pub IsKnown : List ℕ → Shape → Type 0
IsKnown counts Unknown = ⊥
IsKnown counts Truths = Unit {0}
IsKnown counts (Places s n) = slice_get counts s ≡ Some n
IsKnown counts (Wholes l h) = Unit {0}

pub truth_shape : (counts : List ℕ) (s : Shape) → IsKnown counts s → may_be_truth s ≡ true → s ≡ Truths
truth_shape counts Unknown k e = absurd k
truth_shape counts Truths k e = refl
truth_shape counts (Places s n) k e = absurd (true≢false (sym e))
truth_shape counts (Wholes l h) k e = absurd (true≢false (sym e))

-- ---- numbers

pub fits_words : (i : IntegerInterval) → is_included i literals ≡ true → fits64 i.low i.high ≡ true
fits_words i e =
    let two = and_parts (int_le literals.low i.low) (int_le i.high literals.high) e in
    let a = le_true literals.low i.low two.0 in
    let b = le_true i.high literals.high two.1 in
    and_from _ _ (from_le words.low i.low (omega (arith, ints))) (from_le i.high words.high (omega (arith, ints)))

limited_shape : (i : IntegerInterval) → is_included i literals ≡ true → of_interval (within literals i) ≡ Wholes i.low i.high
limited_shape i e = ap (λ b. of_interval (cond b (Some i) None)) e

-- a fact of the numbers of an interval within the limits
limited : (counts : List ℕ) (T : AbstractValue → Type 0) (i : IntegerInterval) → is_included i literals ≡ true
    → T (abstract.Int i.low i.high) → T (known_of (of_interval (within literals i))) × IsKnown counts (of_interval (within literals i))
limited counts T i e t = subst (λ (s : Shape). T (known_of s) × IsKnown counts s) (sym (limited_shape i e)) (t, tt)

no_divisor : (d : Bool) (m : ℤ) → (not d || int_le (pos 1) m) ≡ true → (d && int_lt m (pos 1)) ≡ false
no_divisor true m e = from_below m (le_true (pos 1) m e)
no_divisor false m e = refl

pub computed : (counts : List ℕ) (c : Arithmetic) (s t : Shape) → IsKnown counts s → IsKnown counts t
    → (may_be_whole s && may_be_whole t) ≡ true → may_divide (operation_of c) t ≡ true → binary_is_limited (operation_of c) s t ≡ true
    → Computes c (known_of s) (known_of t) (known_of (binary_shape (operation_of c) s t)) × IsKnown counts (binary_shape (operation_of c) s t)
computed counts c (Wholes l h) (Wholes m k) a b w d e =
    let i = binary_interval (operation_of c) (between l h) (between m k) in
    let fits : is_included i literals ≡ true = not_or (may_divide (operation_of c) (Wholes m k)) (is_included i literals) d e in
    subst (λ z. Computes c (abstract.Int l h) (abstract.Int m k)
    (known_of (cond z (of_interval (within literals i)) Unknown))
    × IsKnown counts (cond z (of_interval (within literals i)) Unknown)) (sym d)
    (limited counts (λ v. Computes c (abstract.Int l h) (abstract.Int m k) v) i fits (no_divisor (has_divisor c) m d, fits_words i fits, refl))
computed counts c Unknown t a b w d e = absurd a
computed counts c Truths t a b w d e = absurd (true≢false (sym w))
computed counts c (Places s n) t a b w d e = absurd (true≢false (sym w))
computed counts c (Wholes l h) Unknown a b w d e = absurd b
computed counts c (Wholes l h) Truths a b w d e = absurd (true≢false (sym w))
computed counts c (Wholes l h) (Places s n) a b w d e = absurd (true≢false (sym w))

-- where a name is in scope, its slot is known to have its shape
abbrev pub InSlot : List ℕ → List (ℕ × AbstractValue) → List AbstractValue → ℕ → Option ℕ → Option Shape → Type 0
InSlot counts ls ps n None None = Unit {0}
InSlot counts ls ps n (Some i) (Some s) = (i < n) × (abstract_slot ls ps i ≡ Some (known_of s)) × IsKnown counts s
InSlot counts ls ps n None (Some s) = ⊥
InSlot counts ls ps n (Some i) None = ⊥

module _ (counts : List ℕ) (ls : List (ℕ × AbstractValue)) (ps : List AbstractValue) (cl : CoversLoops ls ls) (cp : CoversEach ps ps) where
  -- the term has the shape, which is known
  abbrev pub Fits : Term → Shape → Type 0
  Fits t s = Typed counts ls ps t (known_of s) × IsKnown counts s

  pub fits_truth : (t : Term) (s : Shape) → Fits t s → may_be_truth s ≡ true → Typed counts ls ps t abstract.Bool
  fits_truth t s f e = subst (λ (u : Shape). Typed counts ls ps t (known_of u)) (truth_shape counts s f.1 e) f.0

  -- ---- one whole number

  negative : (t : Term) (s : Shape) → Fits t s → may_be_whole s ≡ true → unary_is_limited UnaryOperation.Negation s ≡ true → Fits (Negative t) (unary_shape UnaryOperation.Negation s)
  negative t (Wholes l h) f w e =
      let i = unary_interval UnaryOperation.Negation (between l h) in
      limited counts (λ v. Typed counts ls ps (Negative t) v) i e (record { l = l; h = h; operand = f.0; fits = fits_words i e; result = refl })
  negative t Unknown f w e = absurd f.1
  negative t Truths f w e = absurd (true≢false (sym w))
  negative t (Places s n) f w e = absurd (true≢false (sym w))

  absolute : (t : Term) (s : Shape) → Fits t s → may_be_whole s ≡ true → unary_is_limited UnaryOperation.AbsoluteValue s ≡ true → Fits (Absolute t) (unary_shape UnaryOperation.AbsoluteValue s)
  absolute t (Wholes l h) f w e =
      let i = unary_interval UnaryOperation.AbsoluteValue (between l h) in
      limited counts (λ v. Typed counts ls ps (Absolute t) v) i e (record { l = l; h = h; operand = f.0; fits = fits_words i e; result = refl })
  absolute t Unknown f w e = absurd f.1
  absolute t Truths f w e = absurd (true≢false (sym w))
  absolute t (Places s n) f w e = absurd (true≢false (sym w))

  successor : (t : Term) (s : Shape) → Fits t s → may_be_whole s ≡ true → unary_is_limited UnaryOperation.Successor s ≡ true → Fits (Successor t) (unary_shape UnaryOperation.Successor s)
  successor t (Wholes l h) f w e =
      let i = unary_interval UnaryOperation.Successor (between l h) in
      limited counts (λ v. Typed counts ls ps (Successor t) v) i e (abstract.Int l h, f.0, (refl, fits_words i e, refl))
  successor t Unknown f w e = absurd f.1
  successor t Truths f w e = absurd (true≢false (sym w))
  successor t (Places s n) f w e = absurd (true≢false (sym w))

  predecessor : (t : Term) (s : Shape) → Fits t s → may_be_whole s ≡ true → unary_is_limited UnaryOperation.Predecessor s ≡ true → Fits (Predecessor t) (unary_shape UnaryOperation.Predecessor s)
  predecessor t (Wholes l h) f w e =
      let i = unary_interval UnaryOperation.Predecessor (between l h) in
      limited counts (λ v. Typed counts ls ps (Predecessor t) v) i e (abstract.Int l h, f.0, (refl, fits_words i e, refl))
  predecessor t Unknown f w e = absurd f.1
  predecessor t Truths f w e = absurd (true≢false (sym w))
  predecessor t (Places s n) f w e = absurd (true≢false (sym w))

  conversion : (t : Term) (s : Shape) → Fits t s → may_be_whole s ≡ true → Fits t (kept s)
  conversion t (Wholes l h) f w = f
  conversion t Unknown f w = absurd f.1
  conversion t Truths f w = absurd (true≢false (sym w))
  conversion t (Places s n) f w = absurd (true≢false (sym w))

  -- ---- recognisers

  alike : (s t : Shape) → IsKnown counts s → IsKnown counts t → may_be_alike s t ≡ true → same_kind (known_of s) (known_of t) ≡ true
  alike Truths Truths a b e = refl
  alike (Wholes l h) (Wholes m k) a b e = refl
  alike (Places s n) (Places t m) a b e = e
  alike Unknown t a b e = absurd a
  alike Truths Unknown a b e = absurd b
  alike Truths (Places s n) a b e = e
  alike Truths (Wholes l h) a b e = e
  alike (Places s n) Unknown a b e = absurd b
  alike (Places s n) Truths a b e = e
  alike (Places s n) (Wholes l h) a b e = e
  alike (Wholes l h) Unknown a b e = absurd b
  alike (Wholes l h) Truths a b e = e
  alike (Wholes l h) (Places s n) a b e = e

  same_back : (s t : AbstractValue) → same_kind s t ≡ true → same_kind t s ≡ true
  same_back abstract.Bool abstract.Bool e = refl
  same_back (abstract.Int l h) (abstract.Int m k) e = refl
  same_back (abstract.Enum s n) (abstract.Enum t m) e = eq-eqb t s (sym (eqb-true s t e))
  same_back abstract.Bool (abstract.Int m k) e = e
  same_back abstract.Bool (abstract.Enum t m) e = e
  same_back (abstract.Int l h) abstract.Bool e = e
  same_back (abstract.Int l h) (abstract.Enum t m) e = e
  same_back (abstract.Enum s n) abstract.Bool e = e
  same_back (abstract.Enum s n) (abstract.Int m k) e = e

  abbrev position_enumerator : (p : Position) → IsPosition 0 counts p → IsEnumerator counts p.sort p.place
  position_enumerator p h = record { count = p.count; declared = struct_known counts p.sort p.count h.struct; below = h.below }

  recognised : (p : Position) → IsPosition 0 counts p → (t : Term) (s : Shape) → Fits t s → may_be_alike (Places p.sort p.count) s ≡ true → Fits (Recognised p.sort p.place t) Truths
  recognised p h t s f e = (
    (known_of s, position_enumerator p h, f.0, same_back (abstract.Enum p.sort p.count) (known_of s) (alike (Places p.sort p.count) s (struct_known counts p.sort p.count h.struct) f.1 e), refl),
    tt,
  )

  -- ---- choices

  solid_shape : (t : Term) (s : Shape) → Fits t s → Covers (known_of s) (known_of s)
  solid_shape t s f = solid counts ls ps cl cp t (known_of s) f.0

  choice : (c x y : Term) (r s t : Shape) → Fits c r → Fits x s → Fits y t → may_be_truth r ≡ true → may_be_alike s t ≡ true → Fits (Choice c x y) (shape_hull s t)
  choice c x y r Truths Truths fc fx fy b e = ((fits_truth c r fc b, (abstract.Bool, fx.0, tt), (abstract.Bool, fy.0, tt)), tt)
  choice c x y r (Wholes l h) (Wholes m k) fc fx fy b e =
      let sx = solid_shape x (Wholes l h) fx in
      let sy = solid_shape y (Wholes m k) fy in
      let ex = sx.1 in
      let ey = sy.1 in (
        (
          fits_truth c r fc b,
          (abstract.Int l h, fx.0, (omega (arith, ints, clamps), ex, omega (arith, ints, clamps))),
          (abstract.Int m k, fy.0, (omega (arith, ints, clamps), ey, omega (arith, ints, clamps))),
        ),
        tt,
      )
  choice c x y r (Places s n) (Places t m) fc fx fy b e =
      let same : s ≡ t = eqb-true s t e in
      let counted : slice_get counts t ≡ Some n = ap (slice_get counts) (sym same) ∙ fx.1 in
      let equal : n ≡ m = some_same n m (sym counted ∙ fy.1) in
      let most : max n m ≡ n = omega arith in
      subst (λ z. Fits (Choice c x y) (cond z (Places s (max n m)) Unknown)) (sym e) (
        (fits_truth c r fc b, (abstract.Enum s n, fx.0, (refl, omega arith)), (abstract.Enum t m, fy.0, (sym same, omega arith))),
        fx.1 ∙ ap Some (sym most),
      )
    where
      some_same : (i j : ℕ) → Some i ≡ Some j → i ≡ j
      some_same i j k = cc
  choice c x y r Unknown t fc fx fy b e = absurd fx.1
  choice c x y r Truths Unknown fc fx fy b e = absurd fy.1
  choice c x y r Truths (Places s n) fc fx fy b e = absurd (true≢false (sym e))
  choice c x y r Truths (Wholes l h) fc fx fy b e = absurd (true≢false (sym e))
  choice c x y r (Wholes l h) Unknown fc fx fy b e = absurd fy.1
  choice c x y r (Wholes l h) Truths fc fx fy b e = absurd (true≢false (sym e))
  choice c x y r (Wholes l h) (Places s n) fc fx fy b e = absurd (true≢false (sym e))
  choice c x y r (Places s n) Unknown fc fx fy b e = absurd fy.1
  choice c x y r (Places s n) Truths fc fx fy b e = absurd (true≢false (sym e))
  choice c x y r (Places s n) (Wholes l h) fc fx fy b e = absurd (true≢false (sym e))

  -- ---- operators

  wholes : (s t : Shape) → IsKnown counts s → IsKnown counts t → (may_be_whole s && may_be_whole t) ≡ true → (v : AbstractValue) → v ≡ abstract.Bool → Compares (known_of s) (known_of t) v
  wholes (Wholes l h) (Wholes m k) a b w v e = e
  wholes Unknown t a b w v e = absurd a
  wholes Truths t a b w v e = absurd (true≢false (sym w))
  wholes (Places s n) t a b w v e = absurd (true≢false (sym w))
  wholes (Wholes l h) Unknown a b w v e = absurd b
  wholes (Wholes l h) Truths a b w v e = absurd (true≢false (sym w))
  wholes (Wholes l h) (Places s n) a b w v e = absurd (true≢false (sym w))

  truths : (s t : Shape) → IsKnown counts s → IsKnown counts t → (may_be_truth s && may_be_truth t) ≡ true → Connects (known_of s) (known_of t) abstract.Bool
  truths Truths Truths a b w = refl
  truths Unknown t a b w = absurd a
  truths (Wholes l h) t a b w = absurd (true≢false (sym w))
  truths (Places s n) t a b w = absurd (true≢false (sym w))
  truths Truths Unknown a b w = absurd b
  truths Truths (Wholes l h) a b w = absurd (true≢false (sym w))
  truths Truths (Places s n) a b w = absurd (true≢false (sym w))

  arithmetic_fits : (o : Operator) (c : Arithmetic) (x y : Term) (s t : Shape)
      → ((v : AbstractValue) → Computes c (known_of s) (known_of t) v
      → Makes (instruction_of o) (known_of s) (known_of t) v) → Fits x s → Fits y t
      → (may_be_whole s && may_be_whole t) ≡ true → may_divide (operation_of c) t ≡ true → binary_is_limited (operation_of c) s t ≡ true → Fits (Binary o x y) (binary_shape (operation_of c) s t)
  arithmetic_fits o c x y s t is fx fy w d e =
      let r = computed counts c s t fx.1 fy.1 w d e in ((known_of s, known_of t, fx.0, fy.0, is _ r.0), r.1)

  binary : (o : Operator) (x y : Term) (s t : Shape) → Fits x s → Fits y t → IsOperation (kind_of o) s t → Fits (Binary o x y) (outcome (kind_of o) s t)
  binary Operator.And x y s t fx fy h = ((known_of s, known_of t, fx.0, fy.0, truths s t fx.1 fy.1 h.0), tt)
  binary Operator.Or x y s t fx fy h = ((known_of s, known_of t, fx.0, fy.0, truths s t fx.1 fy.1 h.0), tt)
  binary Operator.Implies x y s t fx fy h = ((known_of s, known_of t, fx.0, fy.0, truths s t fx.1 fy.1 h.0), tt)
  binary Operator.Equal x y s t fx fy h = ((known_of s, known_of t, fx.0, fy.0, (alike s t fx.1 fy.1 h.0, refl)), tt)
  binary Operator.NotEqual x y s t fx fy h = ((known_of s, known_of t, fx.0, fy.0, (alike s t fx.1 fy.1 h.0, refl)), tt)
  binary Operator.Less x y s t fx fy h = ((known_of s, known_of t, fx.0, fy.0, wholes s t fx.1 fy.1 h.0 _ refl), tt)
  binary Operator.LessEqual x y s t fx fy h = ((known_of s, known_of t, fx.0, fy.0, wholes s t fx.1 fy.1 h.0 _ refl), tt)
  binary Operator.Greater x y s t fx fy h = ((known_of s, known_of t, fx.0, fy.0, wholes s t fx.1 fy.1 h.0 _ refl), tt)
  binary Operator.GreaterEqual x y s t fx fy h = ((known_of s, known_of t, fx.0, fy.0, wholes s t fx.1 fy.1 h.0 _ refl), tt)
  binary Operator.Plus x y s t fx fy h = arithmetic_fits Operator.Plus arithmetic.Add x y s t (λ v m. m) fx fy h.0 h.1 h.2
  binary Operator.Minus x y s t fx fy h = arithmetic_fits Operator.Minus arithmetic.Sub x y s t (λ v m. m) fx fy h.0 h.1 h.2
  binary Operator.Times x y s t fx fy h = arithmetic_fits Operator.Times arithmetic.Mul x y s t (λ v m. m) fx fy h.0 h.1 h.2
  binary Operator.Div x y s t fx fy h = arithmetic_fits Operator.Div arithmetic.Div x y s t (λ v m. m) fx fy h.0 h.1 h.2
  binary Operator.Mod x y s t fx fy h = arithmetic_fits Operator.Mod arithmetic.Mod x y s t (λ v m. m) fx fy h.0 h.1 h.2

  extreme : (c : Arithmetic) (u : Term) (x y : Term) (s t : Shape)
      → ((v : AbstractValue)
      → ((a : AbstractValue) × (b : AbstractValue) × Typed counts ls ps x a × Typed counts ls ps y b × Computes c a b v)
      → Typed counts ls ps u v)
      → Fits x s → Fits y t → (may_be_whole s && may_be_whole t) ≡ true → may_divide (operation_of c) t ≡ true
      → binary_is_limited (operation_of c) s t ≡ true → Fits u (binary_shape (operation_of c) s t)
  extreme c u x y s t is fx fy w d e = let r = computed counts c s t fx.1 fy.1 w d e in (is _ (known_of s, known_of t, fx.0, fy.0, r.0), r.1)

  -- ---- functions

  abbrev pub AllFit : List Term → List Shape → Type 0
  AllFit [] [] = Unit {0}
  AllFit (t ∷ ts) (s ∷ ss) = Fits t s × AllFit ts ss
  AllFit [] (s ∷ ss) = ⊥
  AllFit (t ∷ ts) [] = ⊥

  abbrev Positioned : Option Position → Type 0
  Positioned o = (p : Position) → o ≡ Some p → IsPosition 0 counts p

  abbrev shape_there : Option Position → Option Shape
  shape_there o = option_map position_shape o

  recognised_applied : (o : Option Position) (x : Term) (s : Shape) → Positioned o → Fits x s
      → IsApplied (recogniser (shape_there o)) (s ∷ []) → Fits (made.recognised o x) (applied_shape (recogniser (shape_there o)) (s ∷ []))
  recognised_applied None x s known f h = absurd h
  recognised_applied (Some p) x s known f h = recognised p (known p refl) x s f h.1

  one_applied : (spec : Spec) (name : Name) (g : Option NamedFunction) (x : Term) (s : Shape)
      → Positioned (recogniser_of spec name) → Fits x s → IsApplied (known_function g (recogniser_shape spec name)) (s ∷ [])
      → Fits (applied_to_one spec name g x) (applied_shape (known_function g (recogniser_shape spec name)) (s ∷ []))
  one_applied spec name (Some If) x s known f h = absurd (omega (arith, h.0))
  one_applied spec name (Some Succ) x s known f h = successor x s f h.1 h.2
  one_applied spec name (Some Pred) x s known f h = predecessor x s f h.1 h.2
  one_applied spec name (Some Abs) x s known f h = absolute x s f h.1 h.2
  one_applied spec name (Some Max) x s known f h = absurd (omega (arith, h.0))
  one_applied spec name (Some Min) x s known f h = absurd (omega (arith, h.0))
  one_applied spec name (Some Pos2Nat) x s known f h = conversion x s f h.1
  one_applied spec name (Some Pos2Int) x s known f h = conversion x s f h.1
  one_applied spec name (Some Nat2Int) x s known f h = conversion x s f h.1
  one_applied spec name None x s known f h = recognised_applied (recogniser_of spec name) x s known f h

  two_applied : (g : Option NamedFunction) (r : Option Shape) (x y : Term) (s t : Shape) → Fits x s → Fits y t → IsApplied (known_function g r) (s ∷ t ∷ [])
      → Fits (applied_to_two g x y) (applied_shape (known_function g r) (s ∷ t ∷ []))
  two_applied (Some If) r x y s t f g h = absurd (omega (arith, h.0))
  two_applied (Some Succ) r x y s t f g h = absurd (omega (arith, h.0))
  two_applied (Some Pred) r x y s t f g h = absurd (omega (arith, h.0))
  two_applied (Some Abs) r x y s t f g h = absurd (omega (arith, h.0))
  two_applied (Some Max) r x y s t f g h = extreme arithmetic.Max (Maximum x y) x y s t (λ v m. m) f g h.1 (may_follow BinaryOperation.Maximum t refl) h.2
  two_applied (Some Min) r x y s t f g h = extreme arithmetic.Min (Minimum x y) x y s t (λ v m. m) f g h.1 (may_follow BinaryOperation.Minimum t refl) h.2
  two_applied (Some Pos2Nat) r x y s t f g h = absurd (omega (arith, h.0))
  two_applied (Some Pos2Int) r x y s t f g h = absurd (omega (arith, h.0))
  two_applied (Some Nat2Int) r x y s t f g h = absurd (omega (arith, h.0))
  two_applied None None x y s t f g h = absurd h
  two_applied None (Some r) x y s t f g h = absurd (omega (arith, h.0))

  three_applied : (g : Option NamedFunction) (u : Option Shape) (x y z : Term) (r s t : Shape) → Fits x r → Fits y s → Fits z t → IsApplied (known_function g u) (r ∷ s ∷ t ∷ [])
      → Fits (applied_to_three g x y z) (applied_shape (known_function g u) (r ∷ s ∷ t ∷ []))
  three_applied (Some If) u x y z r s t f g k h = let two = and_parts (may_be_truth r) (may_be_alike s t) h.1 in choice x y z r s t f g k two.0 two.1
  three_applied (Some Succ) u x y z r s t f g k h = absurd (omega (arith, h.0))
  three_applied (Some Pred) u x y z r s t f g k h = absurd (omega (arith, h.0))
  three_applied (Some Abs) u x y z r s t f g k h = absurd (omega (arith, h.0))
  three_applied (Some Max) u x y z r s t f g k h = absurd (omega (arith, h.0))
  three_applied (Some Min) u x y z r s t f g k h = absurd (omega (arith, h.0))
  three_applied (Some Pos2Nat) u x y z r s t f g k h = absurd (omega (arith, h.0))
  three_applied (Some Pos2Int) u x y z r s t f g k h = absurd (omega (arith, h.0))
  three_applied (Some Nat2Int) u x y z r s t f g k h = absurd (omega (arith, h.0))
  three_applied None None x y z r s t f g k h = absurd h
  three_applied None (Some u) x y z r s t f g k h = absurd (omega (arith, h.0))

  -- no function takes none, or more than three
  takes_some : (o : Option Function) (ss : List Shape) → IsApplied o ss → (1 ≤ length ss) × (length ss ≤ 3)
  takes_some None ss h = absurd h
  takes_some (Some functions.Choice) ss h = (omega (arith, h.0), omega (arith, h.0))
  takes_some (Some Conversion) ss h = (omega (arith, h.0), omega (arith, h.0))
  takes_some (Some (OfOne o)) ss h = (omega (arith, h.0), omega (arith, h.0))
  takes_some (Some (OfTwo o)) ss h = (omega (arith, h.0), omega (arith, h.0))
  takes_some (Some (Recogniser r)) ss h = (omega (arith, h.0), omega (arith, h.0))

  applied_fits : (spec : Spec) → counts ≡ struct_counts spec.sorts → (f : Name) (ts : List Term) (ss : List Shape)
      → AllFit ts ss → IsApplied (function_named spec f) ss → Fits (applied spec f ts) (applied_shape (function_named spec f) ss)
  applied_fits spec same f [] [] fit h = absurd (omega (arith, (takes_some (function_named spec f) [] h).0))
  applied_fits spec same f (x ∷ []) (s ∷ []) fit h =
      one_applied spec f (named_function f) x s (λ p e. subst (λ (c : List ℕ). IsPosition 0 c p) (sym same) (recogniser_known spec f p e)) fit.0 h
  applied_fits spec same f (x ∷ y ∷ []) (s ∷ t ∷ []) fit h = two_applied (named_function f) (recogniser_shape spec f) x y s t fit.0 fit.1.0 h
  applied_fits spec same f (x ∷ y ∷ z ∷ []) (r ∷ s ∷ t ∷ []) fit h =
      three_applied (named_function f) (recogniser_shape spec f) x y z r s t fit.0 fit.1.0 fit.1.1.0 h
  applied_fits spec same f (x ∷ y ∷ z ∷ w ∷ ts) (r ∷ s ∷ t ∷ u ∷ ss) fit h = absurd (omega (arith, (takes_some (function_named spec f) (r ∷ s ∷ t ∷ u ∷ ss) h).1))
  applied_fits spec same f [] (s ∷ ss) fit h = absurd fit
  applied_fits spec same f (x ∷ ts) [] fit h = absurd fit
  applied_fits spec same f (x ∷ []) (s ∷ t ∷ ss) fit h = absurd fit.1
  applied_fits spec same f (x ∷ y ∷ ts) (s ∷ []) fit h = absurd fit.1
  applied_fits spec same f (x ∷ y ∷ []) (s ∷ t ∷ u ∷ ss) fit h = absurd fit.1.1
  applied_fits spec same f (x ∷ y ∷ z ∷ ts) (s ∷ t ∷ []) fit h = absurd fit.1.1
  applied_fits spec same f (x ∷ y ∷ z ∷ []) (s ∷ t ∷ u ∷ w ∷ ss) fit h = absurd fit.1.1.1
  applied_fits spec same f (x ∷ y ∷ z ∷ w ∷ ts) (s ∷ t ∷ u ∷ []) fit h = absurd fit.1.1.1

  -- ---- names

  abbrev named_by : Option ℕ → Option Position → Term
  named_by (Some i) e = Slot i
  named_by None e = made.term_of_enumerator e

  named_fits : (spec : Spec) → counts ≡ struct_counts spec.sorts → (x : Name) (n : ℕ) (o : Option ℕ) (s : Option Shape)
      → InSlot counts ls ps n o s → (e : Option Position) → enumerator_of spec x ≡ e → IsNamed (shape_or s (option_map position_shape e))
      → Fits (named_by o e) (shape_or_unknown (shape_or s (option_map position_shape e)))
  named_fits spec same x n (Some i) (Some s) slot e is h = (slot.1, slot.2)
  named_fits spec same x n None None slot (Some p) is h =
      let known = subst (λ (c : List ℕ). IsPosition 0 c p) (sym same) (enumerator_known spec x p is) in
      ((position_enumerator p known, refl), struct_known counts p.sort p.count known.struct)
  named_fits spec same x n None None slot None is h = absurd h
  named_fits spec same x n (Some i) None slot e is h = absurd slot
  named_fits spec same x n None (Some s) slot e is h = absurd slot

  named_same : (spec : Spec) (x : Name) (o : Option ℕ) → named_by o (enumerator_of spec x) ≡ made.term_of_name spec o x
  named_same spec x (Some i) = refl
  named_same spec x None = refl

  -- ---- all terms

  module _ (spec : Spec) (same : counts ≡ struct_counts spec.sorts) (scope : Scope) (c : Slotting) (n : ℕ) (agree : (x : Name) → InSlot counts ls ps n (c x) (scope x)) where
    mutual
      pub term_fits : (stands : Bool) (x : syntax.Term) → IsTyped spec stands scope x → Fits (slotted spec c x) (shape spec scope x)
      term_fits stands (syntax.Term.Truth b) h = (refl, tt)
      term_fits stands (syntax.Term.Number m) h = limited counts (λ v. v ≡ abstract.Int (pos m) (pos m)) (singleton (pos m)) h refl
      term_fits stands (syntax.Term.Named x) h =
          subst (λ (t : Term). Fits t (shape_or_unknown (named_shape spec scope x))) (named_same spec x (c x))
          (named_fits spec same x n (c x) (scope x) (agree x) (enumerator_of spec x) refl h)
      term_fits stands (syntax.Term.Not x) h = ((fits_truth (slotted spec c x) (shape spec scope x) (term_fits stands x h.0) h.1, refl), tt)
      term_fits stands (syntax.Term.Negative x) h = negative (slotted spec c x) (shape spec scope x) (term_fits false x h.0) h.1 h.2
      term_fits stands (syntax.Term.Binary o x y) h =
          binary o (slotted spec c x) (slotted spec c y) (shape spec scope x) (shape spec scope y)
          (term_fits (passes (kind_of o) stands) x h.0) (term_fits (passes (kind_of o) stands) y h.1) h.2
      term_fits stands (syntax.Term.Apply f xs) h = applied_fits spec same f (slotted_all spec c xs) (shapes spec scope xs) (terms_fit xs h.0) h.1
      term_fits stands (syntax.Term.Quantified q xs x) h = (refl, tt)

      terms_fit : (xs : Terms) → AreTyped spec scope xs → AllFit (slotted_all spec c xs) (shapes spec scope xs)
      terms_fit Terms.NoTerms h = tt
      terms_fit (Terms.Then x xs) h = (term_fits false x h.0, terms_fit xs h.1)
