-- Chains of formulas, operand by operand, and quantifiers, slot by slot.
use Rattle.std.proofs.Common.{◌≡◌, ℕ, zero, suc, ◌+◌, ◌<◌, ◌==◌, Bool, true, false, List, [], ◌∷◌, ◌++◌, length, get_or, take, drop}
use Rattle.std.proofs.Common.{◌-◌, ◌≤◌, Option, Some, None, IfSome, refl, sym, ap, ◌∙◌, subst, arith, true≢false, inl, inr, Vec, Global, Box}
use Rattle.std.proofs.lemmas.Bool.{and_parts, eqb-false, eqb-true, ltb-true}
use Rattle.std.specs.Prelude.{box_value, nat_lt}
use Rattle.std.specs.List.{slice_set}
use Rattle.std.proofs.lemmas.List.{nil_from_length, take_rest}
use denote.Enum.Bare.{sameb}
use Rattle.pb_sorts.specs.declared.carrier.Carrier.{Carrier}
use Rattle.pb_text_tree.specs.declared.operator.Quantifier.{Quantifier}
use Rattle.pb_normal.specs.Normal as normal
use Rattle.pb_normal.specs.Normal.{Term, Test, Join, Each, Call}
use Rattle.pb_fixpoint_trees.specs.contracts.junction.Junction.{the_type}
use Rattle.pb_fixpoint_trees.specs.declared.junction.Junction.{Junction}
use Rattle.pb_fixpoint_trees.specs.declared.junction.Junction.TheVariants.{Conjunction, Disjunction}
use Rattle.pb_normal.specs.declared.formula.Formula as formula
use Rattle.pb_normal.specs.declared.formula.Formula.{Formula}
use Rattle.pb_normal.specs.Normalisation.{dual}
use Rattle.pb_normal.specs.View.{chained_formula, nested, formula_view, formula_views}
use Rattle.pb_bytecode_program.specs.declared.instruction.Op.TheVariants as op
use Rattle.pb_assembler_scheme.specs.Pieces.{Piece, Plain, Then, Unless, Choose, Repeat}
use Rattle.pb_assembler_scheme.specs.Scheme.{data_piece, neutral, junction_of, test_of, tested_piece, join_piece, under, bracketed, deciding_leaf, formula_piece}
use Rattle.pb_assembler_builder.specs.Draft.{Draft}
use Rattle.pb_assembler_builder.specs.declared.instruction.Instruction.{Instruction}
use Rattle.pb_assembler_builder.specs.declared.instruction.Instruction.TheVariants as instruction
use Rattle.pb_assembler.specs.Emitted.{Emits, nowhere}
use Rattle.pb_assembler.specs.Operands.{Guarded, early_test, guarded_by, IsLeft, other_of}
use Rattle.pb_normal.specs.Small.{is_small, is_small_formula}
use Rattle.pb_assembler.proofs.Awaited.{Awaits, awaits_all, awaits_then, awaits_no_more}
use Rattle.pb_assembler.proofs.Emitting.{emits_repeat, adds_from}
use Rattle.pb_assembler_measures.proofs.FormulaWeight.{weight, formulas_weight, join_is, join_weighs, positive}

-- ---- the first test decides

module _ (callees : List (List Carrier)) where
  -- the code of a chain is that of its test, which guards the chain that is left
  abbrev IsDecided : (m a : Junction) → normal.Formula → Guarded → Type 0
  IsDecided m a f r = formula_piece callees a f ≡ tested_piece m a r.0 (formula_piece callees a (chained_formula (Join m) r.1.0 r.1.1))

  decided : (m a : Junction) (f : normal.Formula) (gs : List normal.Formula) → IfSome (early_test f gs) (IsDecided m a (chained_formula (Join m) f gs))
  decided m a f [] = tt
  decided m a f (g ∷ gs) = by (test_of f) (test_of g) refl refl gs
    where
      by : (u v : Option Term) → u ≡ test_of f → v ≡ test_of g → (gs : List normal.Formula) → IfSome (guarded_by u v f g gs) (IsDecided m a (chained_formula (Join m) f (g ∷ gs)))
      by (Some t) v e k gs =
          let R = chained_formula (Join m) g gs in
          ap (λ o. join_piece m a o (test_of R) (formula_piece callees a f) (formula_piece callees a R) (formula_piece callees m f) (formula_piece callees m R)) (sym e)
      by None (Some t) e k [] =
          ap (λ o. join_piece m a o (test_of g) (formula_piece callees a f) (formula_piece callees a g) (formula_piece callees m f) (formula_piece callees m g)) (sym e)
          ∙ ap (λ o. join_piece m a None o (formula_piece callees a f) (formula_piece callees a g) (formula_piece callees m f) (formula_piece callees m g)) (sym k)
      by None (Some t) e k (h ∷ hs) = tt
      by None None e k gs = tt

  -- where no test comes first, the operands stand one behind the other
  undecided : (m a : Junction) (f g : normal.Formula) (gs : List normal.Formula) → early_test f (g ∷ gs) ≡ None
      → formula_piece callees a (chained_formula (Join m) f (g ∷ gs)) ≡ under m a (Then (formula_piece callees m f) (formula_piece callees m (chained_formula (Join m) g gs)))
  undecided m a f g gs n = by (test_of f) (test_of g) refl refl gs n
    where
      by : (u v : Option Term) → u ≡ test_of f → v ≡ test_of g → (gs : List normal.Formula) → guarded_by u v f g gs ≡ None
          → formula_piece callees a (chained_formula (Join m) f (g ∷ gs)) ≡ under m a (Then (formula_piece callees m f) (formula_piece callees m (chained_formula (Join m) g gs)))
      by (Some t) v e k gs n = cc
      by None (Some t) e k [] n = cc
      by None (Some t) e k (h ∷ hs) n =
          let R = chained_formula (Join m) g (h ∷ hs) in
          ap (λ o. join_piece m a o None (formula_piece callees a f) (formula_piece callees a R) (formula_piece callees m f) (formula_piece callees m R)) (sym e)
      by None None e k [] n =
          ap (λ o. join_piece m a o (test_of g) (formula_piece callees a f) (formula_piece callees a g) (formula_piece callees m f) (formula_piece callees m g)) (sym e)
          ∙ ap (λ o. join_piece m a None o (formula_piece callees a f) (formula_piece callees a g) (formula_piece callees m f) (formula_piece callees m g)) (sym k)
      by None None e k (h ∷ hs) n =
          let R = chained_formula (Join m) g (h ∷ hs) in
          ap (λ o. join_piece m a o None (formula_piece callees a f) (formula_piece callees a R) (formula_piece callees m f) (formula_piece callees m R)) (sym e)

under_own : (m : Junction) (x : Piece) → under m m x ≡ x
under_own Conjunction x = refl
under_own Disjunction x = refl

under_other : (a : Junction) (x : Piece) → under (dual a) a x ≡ bracketed (dual a) x
under_other Conjunction x = refl
under_other Disjunction x = refl

pub tested_own : (m : Junction) (t : Term) (x : Piece) → tested_piece m m t x ≡ Then (data_piece t) (Choose (neutral m) (Plain (op.Emit (deciding_leaf m))) x)
tested_own Conjunction t x = refl
tested_own Disjunction t x = refl

pub tested_other : (a : Junction) (t : Term) (x : Piece) → tested_piece (dual a) a t x ≡ Then (data_piece t) (Unless (neutral a) x)
tested_other Conjunction t x = refl
tested_other Disjunction t x = refl

-- ---- numbers stay small, and work less

small_test : (f : normal.Formula) → is_small_formula f ≡ true → IfSome (test_of f) (λ t. is_small t ≡ true)
small_test (Test t) h = h
small_test (Join m f g) h = tt
small_test (Each q s shape f) h = tt
small_test (Call X xs) h = tt

abbrev AreSmall : Junction → Guarded → Type 0
AreSmall m r = (is_small r.0 ≡ true) × (is_small_formula (chained_formula (Join m) r.1.0 r.1.1) ≡ true)

small_parts : (m : Junction) (f : normal.Formula) (gs : List normal.Formula) → is_small_formula (chained_formula (Join m) f gs) ≡ true → IfSome (early_test f gs) (AreSmall m)
small_parts m f [] h = tt
small_parts m f (g ∷ gs) h =
    let both = and_parts (is_small_formula f) (is_small_formula (chained_formula (Join m) g gs)) h in
    by (test_of f) (test_of g) refl refl gs both.0 both.1
  where
    by : (u v : Option Term) → u ≡ test_of f → v ≡ test_of g → (gs : List normal.Formula) → is_small_formula f ≡ true
        → is_small_formula (chained_formula (Join m) g gs) ≡ true → IfSome (guarded_by u v f g gs) (AreSmall m)
    by (Some t) v e k gs h i = (subst (λ o. IfSome o (λ t. is_small t ≡ true)) (sym e) (small_test f h), i)
    by None (Some t) e k [] h i = (subst (λ o. IfSome o (λ t. is_small t ≡ true)) (sym k) (small_test g i), h)
    by None (Some t) e k (x ∷ xs) h i = tt
    by None None e k gs h i = tt

small_rest : (m : Junction) (f g : normal.Formula) (gs : List normal.Formula) → is_small_formula (chained_formula (Join m) f (g ∷ gs)) ≡ true → is_small_formula (chained_formula (Join m) g gs) ≡ true
small_rest m f g gs h = (and_parts (is_small_formula f) (is_small_formula (chained_formula (Join m) g gs)) h).1

left_weighs : (first : Formula) (rest : List Formula) (f : Formula) (gs : List Formula) → IsLeft first rest f gs
    → (length gs < length rest) × (weight f + formulas_weight gs < weight first + formulas_weight rest)
left_weighs first rest f gs (inl e) =
    let p = positive first in (omega (arith, ap (λ (zs : List Formula). length zs) e), omega (arith, p, ap formulas_weight e))
left_weighs first rest f gs (inr (same, none, some)) =
    let p = more rest some in (omega (arith, ap (λ (zs : List Formula). length zs) none, some), omega (arith, p, ap weight same, ap formulas_weight none))
  where
    more : (xs : List Formula) → 0 < length xs → 0 < formulas_weight xs
    more [] l = absurd (omega arith)
    more (x ∷ xs) l = let p = positive x in omega arith

all_other : (callees : List (List Carrier)) (a : Junction) (f : normal.Formula) (gs : List normal.Formula) → 0 < length gs → early_test f gs ≡ None
    → formula_piece callees a (chained_formula (Join (dual a)) f gs) ≡ bracketed (dual a) (formula_piece callees (dual a) (chained_formula (Join (dual a)) f gs))
all_other callees a f [] l n = absurd (omega arith)
all_other callees a f (g ∷ gs) l n =
    undecided callees (dual a) a f g gs n ∙ under_other a _
    ∙ ap (bracketed (dual a)) (sym (undecided callees (dual a) (dual a) f g gs n ∙ under_own (dual a) _))

-- ---- quantifiers

-- loops over as many slots, from s on
abbrev pub repeated : ℕ → ℕ → Piece → Piece
repeated s zero y = y
repeated s (suc k) y = repeated s k (Repeat (s + k) y)

repeated_front : (s k : ℕ) (y : Piece) → Repeat s (repeated (suc s) k y) ≡ repeated s (suc k) y
repeated_front s zero y = ap (λ i. Repeat i y) (omega arith)
repeated_front s (suc k) y = repeated_front s k (Repeat (suc s + k) y) ∙ ap (λ i. repeated s (suc k) (Repeat i y)) (omega arith)

pub each_repeated : (callees : List (List Carrier)) (q : Quantifier) (s : ℕ) (cs : List Carrier) (f : normal.Formula)
    → formula_piece callees (junction_of q) (nested q s cs f) ≡ repeated s (length cs) (formula_piece callees (junction_of q) f)
each_repeated callees q s [] f = refl
each_repeated callees q s (c ∷ cs) f =
    under_own (junction_of q) (Repeat s (formula_piece callees (junction_of q) (nested q (suc s) cs f)))
    ∙ ap (Repeat s) (each_repeated callees q (suc s) cs f)
    ∙ repeated_front s (length cs) (formula_piece callees (junction_of q) f)

differ : (m a : Junction) (x : Piece) → m ≡ dual a → under m a x ≡ bracketed m x
differ m a x n = subst (λ (k : Junction). under k a x ≡ bracketed k x) (sym n) (under_other a x)

pub each_other : (callees : List (List Carrier)) (q : Quantifier) (a : Junction) (s : ℕ) (cs : List Carrier) (f : normal.Formula) → junction_of q ≡ dual a → 0 < length cs
    → formula_piece callees a (nested q s cs f) ≡ bracketed (junction_of q) (formula_piece callees (junction_of q) (nested q s cs f))
each_other callees q a s [] f n l = absurd (omega arith)
each_other callees q a s (c ∷ cs) f n l =
    let m = junction_of q in
    differ m a (Repeat s (formula_piece callees m (nested q (suc s) cs f))) n
    ∙ ap (bracketed m) (sym (under_own m (Repeat s (formula_piece callees m (nested q (suc s) cs f)))))

pub small_body : (q : Quantifier) (s : ℕ) (cs : List Carrier) (f : normal.Formula) → is_small_formula (nested q s cs f) ≡ true → is_small_formula f ≡ true
small_body q s [] f h = h
small_body q s (c ∷ cs) f h = small_body q (suc s) cs f (and_parts (nat_lt s 256) (is_small_formula (nested q (suc s) cs f)) h).1

pub small_slot : (q : Quantifier) (s : ℕ) (cs : List Carrier) (f : normal.Formula) (k : ℕ) → k < length cs → is_small_formula (nested q s cs f) ≡ true → s + k < 256
small_slot q s [] f k l h = absurd (omega arith)
small_slot q s (c ∷ cs) f zero l h = let a = ltb-true s 256 (and_parts (nat_lt s 256) (is_small_formula (nested q (suc s) cs f)) h).0 in omega (arith, a)
small_slot q s (c ∷ cs) f (suc k) l h = let a = small_slot q (suc s) cs f k (omega arith) (and_parts (nat_lt s 256) (is_small_formula (nested q (suc s) cs f)) h).1 in omega (arith, a)

-- one more instruction
abbrev pub plus : Draft → Instruction → Draft
plus d o = record d { ops = d.ops ++ o ∷ [] }

-- so many ends of loops
abbrev pub Closes : ℕ → Draft → Draft → Type 0
Closes zero d d' = d' ≡ d
Closes (suc k) d d' = Closes k (plus d (instruction.Plain op.Next)) d'

pub closes_more : (k : ℕ) (d d1 d2 : Draft) → Closes k d d1 → d2 ≡ plus d1 (instruction.Plain op.Next) → Closes (suc k) d d2
closes_more zero d d1 d2 c e = e ∙ ap (λ (x : Draft). plus x (instruction.Plain op.Next)) c
closes_more (suc k) d d1 d2 c e = closes_more k (plus d (instruction.Plain op.Next)) d1 d2 c e

-- loops are begun: a body and their ends make the whole
abbrev pub Begins : ℕ → ℕ → Draft → Draft → Type 0
Begins s k d0 d = (y : Piece) (d1 d2 : Draft) → Emits y nowhere d d1 → Closes k d1 d2 → Emits (repeated s k y) nowhere d0 d2

pub begins_more : (s k : ℕ) (d0 d d' : Draft) → Begins s k d0 d → d' ≡ plus d (instruction.Plain (op.Loop (s + k))) → Begins s (suc k) d0 d'
begins_more s k d0 d d' b e = λ y d1 d2 h c.
    b (Repeat (s + k) y) (plus d1 (instruction.Plain op.Next)) d2
    (emits_repeat (s + k) y nowhere d d' d1 (plus d1 (instruction.Plain op.Next))
    (adds_from d d' (instruction.Plain (op.Loop (s + k))) e) h
    (adds_from d1 (plus d1 (instruction.Plain op.Next)) (instruction.Plain op.Next) refl)) c

pub other_kind : (m a : Junction) (b : Bool) → b ≡ sameb the_type m a → b ≡ false → m ≡ dual a
other_kind Conjunction Conjunction b e n = absurd (true≢false (sym e ∙ n))
other_kind Conjunction Disjunction b e n = refl
other_kind Disjunction Conjunction b e n = refl
other_kind Disjunction Disjunction b e n = absurd (true≢false (sym e ∙ n))

pub untested : (callees : List (List Carrier)) (a : Junction) (f : normal.Formula) (gs : List Formula) → 0 < length gs → early_test f (formula_views gs) ≡ None
    → formula_piece callees a (chained_formula (Join (dual a)) f (formula_views gs)) ≡ bracketed (dual a) (formula_piece callees (dual a) (chained_formula (Join (dual a)) f (formula_views gs)))
untested callees a f [] l n = absurd (omega arith)
untested callees a f (g ∷ gs) l n = all_other callees a f (formula_view g ∷ formula_views gs) (omega arith) n

pub same_kind : (m a : Junction) (b : Bool) → b ≡ sameb the_type m a → b ≡ true → m ≡ a
same_kind Conjunction Conjunction b e is = refl
same_kind Conjunction Disjunction b e is = absurd (true≢false (sym is ∙ e))
same_kind Disjunction Conjunction b e is = absurd (true≢false (sym is ∙ e))
same_kind Disjunction Disjunction b e is = refl

-- ---- a join, as it is read

-- a formula joins a first operand and the rest
pub record IsJoinOf (t : Formula) (m : Junction) (f : Formula) (fs : List Formula) : Type 0 where
  pub view : chained_formula (Join m) (formula_view f) (formula_views fs) ≡ formula_view t
  pub weighs : weight t ≡ 8 + (weight f + formulas_weight fs)

pub join_read : {t f : Formula} {m : Junction} {fs : List Formula} (k : Junction) (b : Box Formula Global) (v : Vec Formula Global)
    → t ≡ formula.Join k b v → f ≡ box_value b → fs ≡ v.items → k ≡ m → IsJoinOf t m f fs
join_read {t} {f} {m} {fs} k b v is first rest kind = record {
  view =
      ap (λ (n : Junction). chained_formula (Join n) (formula_view f) (formula_views fs)) (sym kind)
      ∙ join_is t f k b v fs is first rest;
  weighs = join_weighs t f k b v fs is first rest;
}

-- ---- slices, as they are tested

pub some_there : {X : Type 0} (xs : List X) {b : Bool} → b ≡ (length xs == 0) → b ≡ false → 0 < length xs
some_there xs e f = omega (arith, eqb-false (length xs) 0 (sym e ∙ f))

pub none_there : {X : Type 0} (xs : List X) {b : Bool} → b ≡ (length xs == 0) → b ≡ true → xs ≡ []
none_there xs e t = nil_from_length xs (eqb-true (length xs) 0 (sym e ∙ t))

pub second_left : (b : Bool) (f : Formula) (fs : List Formula) (x : Formula) → b ≡ true → IsLeft f fs (other_of b f fs) (drop 1 fs) → x ≡ get_or fs 0 x → x ≡ other_of b f fs
second_left b f [] x e left is = let w = (left_weighs f [] (other_of b f []) [] left).0 in absurd (omega arith)
second_left true f (g ∷ gs) x e left is = is
second_left false f (g ∷ gs) x e left is = absurd (true≢false (sym e))

pub first_left : (b : Bool) (f : Formula) (fs : List Formula) → b ≡ false → f ≡ other_of b f fs
first_left b f [] e = refl
first_left true f (g ∷ gs) e = absurd (true≢false e)
first_left false f (g ∷ gs) e = refl

behind_first : (fs : List Formula) (x : Formula) → 0 < length fs → x ≡ get_or fs 0 x → fs ≡ x ∷ drop 1 fs
behind_first [] x l is = absurd (omega arith)
behind_first (g ∷ gs) x l is = ap (λ (y : Formula). y ∷ gs) (sym is)

-- ---- the operands that are left

-- the code of a chain of this kind, in a bracket of the kind a
abbrev pub operands_piece : List (List Carrier) → (m a : Junction) → Formula → List Formula → Piece
operands_piece callees m a f fs = formula_piece callees a (chained_formula (Join m) (formula_view f) (formula_views fs))

-- the whole chain of first and rest awaits the code of these operands, which keep what is asked of them
pub record AreLeft (callees : List (List Carrier)) (m a : Junction) (first : Formula) (rest : List Formula) (l : ℕ) (d0 d : Draft) (f : Formula) (fs : List Formula) : Type 0 where
  pub awaits : Awaits (operands_piece callees m a first rest) (operands_piece callees m a f fs) l d0 d
  pub small : is_small_formula (chained_formula (Join m) (formula_view f) (formula_views fs)) ≡ true
  pub lighter : weight f + formulas_weight fs ≤ weight first + formulas_weight rest

-- in the code's words
are_left : {callees : List (List Carrier)} {m a : Junction} {first : Formula} {rest : List Formula} {l : ℕ} {d0 d : Draft} {f g : Formula} (fs : List Formula) → g ≡ f
    → AreLeft callees m a first rest l d0 d f (drop 1 fs) → AreLeft callees m a first rest l d0 d g (take (length fs - 1) (drop 1 fs))
are_left {callees} {m} {a} {first} {rest} {l} {d0} {d} {f} fs same h =
    subst (λ (x : Formula). AreLeft callees m a first rest l d0 d x (take (length fs - 1) (drop 1 fs))) (sym same)
    (subst (λ (xs : List Formula). AreLeft callees m a first rest l d0 d f xs) (sym (take_rest fs 1)) h)

-- at the beginning all are
pub all_left : {callees : List (List Carrier)} {m a : Junction} {first : Formula} {rest : List Formula} {l : ℕ} {d0 d : Draft}
    → is_small_formula (chained_formula (Join m) (formula_view first) (formula_views rest)) ≡ true
    → l ≡ length d0.places → d ≡ record d0 { places = d0.places ++ None ∷ [] } → AreLeft callees m a first rest l d0 d first rest
all_left small label made = record { awaits = awaits_all label made; small = small; lighter = omega arith }

module _ {callees : List (List Carrier)} {m a : Junction} {first : Formula} {rest : List Formula} {l : ℕ} {d0 d : Draft} {f : Formula} {fs : List Formula} where
  -- a test was emitted, which guards some of them
  pub guarded_left : AreLeft callees m a first rest l d0 d f fs → (b : Bool) (t : Term)
      → Some (t, (formula_view (other_of b f fs), formula_views (drop 1 fs))) ≡ early_test (formula_view f) (formula_views fs)
      → IsLeft f fs (other_of b f fs) (drop 1 fs) → {g : Formula} → g ≡ other_of b f fs → {d1 d2 : Draft} → Emits (data_piece t) nowhere d d1
      → (guarding : Piece → Piece) → ((x : Piece) → tested_piece m a t x ≡ Then (data_piece t) (guarding x))
      → ((x : Piece) → Awaits (operands_piece callees m a first rest) (guarding x) l d0 d1 → Awaits (operands_piece callees m a first rest) x l d0 d2)
      → AreLeft callees m a first rest l d0 d2 g (take (length fs - 1) (drop 1 fs))
  guarded_left w b t told left same {d1} {d2} tested guarding is goes =
      let other = other_of b f fs in
      let more = drop 1 fs in
      let step = subst (λ o. IfSome o (IsDecided callees m a (chained_formula (Join m) (formula_view f) (formula_views fs)))) (sym told) (decided callees m a (formula_view f) (formula_views fs)) in
      let lighter = left_weighs f fs other more left in
      are_left fs same (record {
        awaits = goes _ (awaits_then (subst (λ (q : Piece). Awaits (operands_piece callees m a first rest) q l d0 d)
            (step ∙ is (operands_piece callees m a other more)) w.awaits) tested);
        small = (subst (λ o. IfSome o (AreSmall m)) (sym told) (small_parts m (formula_view f) (formula_views fs) w.small)).1;
        lighter = omega (arith, lighter.1, w.lighter);
      })

module _ {callees : List (List Carrier)} {m : Junction} {first : Formula} {rest : List Formula} {l : ℕ} {d0 d : Draft} {f : Formula} {fs : List Formula} where
  -- the first one was emitted, where no test decides
  pub next_left : AreLeft callees m m first rest l d0 d f fs → (g : Formula) → 0 < length fs → g ≡ get_or fs 0 g
      → early_test (formula_view f) (formula_views fs) ≡ None
      → {d1 : Draft} → Emits (formula_piece callees m (formula_view f)) nowhere d d1
      → AreLeft callees m m first rest l d0 d1 g (take (length fs - 1) (drop 1 fs))
  next_left w g some at none h =
      let split = behind_first fs g some at in
      let x = formula_view f in
      let gs = formula_views (drop 1 fs) in
      let same =
      ap (λ (zs : List Formula). operands_piece callees m m f zs) split
      ∙ undecided callees m m x (formula_view g) gs (sym (ap (λ (zs : List Formula). early_test x (formula_views zs)) split) ∙ none)
      ∙ under_own m _ in
      are_left fs refl (record {
        awaits = awaits_then (subst (λ (q : Piece). Awaits (operands_piece callees m m first rest) q l d0 d) same w.awaits) h;
        small = small_rest m x (formula_view g) gs (subst (λ (zs : List Formula). is_small_formula (chained_formula (Join m) x (formula_views zs)) ≡ true) split w.small);
        lighter = omega (arith, w.lighter, ap formulas_weight split);
      })

  -- it was emitted, and is the last
  pub last_left : AreLeft callees m m first rest l d0 d f fs → fs ≡ [] → {d1 d2 : Draft} → Emits (formula_piece callees m (formula_view f)) nowhere d d1
      → d2 ≡ record d1 { places = slice_set d1.places l (Some (length d1.ops)) } → Emits (operands_piece callees m m first rest) nowhere d0 d2
  last_left w none h placed =
      awaits_no_more (subst (λ (zs : List Formula). Awaits (operands_piece callees m m first rest) (operands_piece callees m m f zs) l d0 d) none w.awaits) h placed
