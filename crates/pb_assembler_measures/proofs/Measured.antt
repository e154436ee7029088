-- Measures that stop just above the limits tell which limit is exceeded first, if one is.
use Rattle.std.proofs.Common.{◌≡◌, ℕ, suc, ◌<◌, ◌⊎◌, inl, inr, Bool, true, false, ◌||◌, cond, List, [], ◌∷◌, length, Some, None, refl, sym, ap, ◌∙◌, arith, ⊎_elim}
use Rattle.std.specs.Prelude.{min, nat_lt}
use Rattle.std.specs.List.{find}
use Rattle.std.proofs.lemmas.Bool.{ltb-true, ltb-false, lt-ltb, le-ltb}
use Rattle.pb_base.specs.declared.limits.TheConstants.{MAX_LOOP_SLOTS, MAX_INSTRUCTIONS}
use Rattle.pb_base.specs.declared.limits.TheConstants.{MAX_OPERANDS, MAX_BRACKETS, MAX_LOOPS, MAX_STEPS, MAX_TOKENS}
use Rattle.pb_bytecode_program.specs.Machine.{Program}
use Rattle.pb_bytecode_program.specs.Counts.{static_steps, static_tokens}
use Rattle.pb_bytecode.specs.declared.limit.Limit.{Limit}
use Rattle.pb_bytecode.specs.declared.limit.Limit.TheVariants as limit
use Rattle.pb_normal.specs.Normal.{Formula}
use Rattle.pb_assembler_scheme.specs.Scheme.{head}
use Rattle.pb_assembler_scheme.specs.Limits.{formula_operands, formula_brackets, formula_loops, exceeds, KeepsLimits}
use Rattle.pb_assembler_measures.specs.declared.measures.Measures.{Measures}
use Rattle.pb_assembler_measures.specs.Excess.{ExceedsFirst, order}
use Rattle.pb_assembler_measures.specs.Measures.{AreMeasures, limits, are_above, first_excess}

-- ---- limits in order

abbrev IsAmong : Limit → List Limit → Type 0
IsAmong k [] = ⊥
IsAmong k (l ∷ ls) = (k ≡ l) ⊎ IsAmong k ls

-- each comes behind those before it, and all of them behind n
abbrev AreInOrder : ℕ → List Limit → Type 0
AreInOrder n [] = Unit {0}
AreInOrder n (l ∷ ls) = (n < order l) × AreInOrder (order l) ls

comes_behind : (n : ℕ) (ls : List Limit) → AreInOrder n ls → (k : Limit) → IsAmong k ls → n < order k
comes_behind n [] o k m = absurd m
comes_behind n (l ∷ ls) o k m =
    ⊎_elim (λ (e : k ≡ l). let first = o.0 in omega (arith, first, ap order e))
    (λ (later : IsAmong k ls). let first = o.0 in let rest = comes_behind (order l) ls o.1 k later in omega (arith, first, rest)) m

each_among : (l : Limit) → IsAmong l limits
each_among limit.Instructions = inl refl
each_among limit.Operands = inr (inl refl)
each_among limit.Brackets = inr (inr (inl refl))
each_among limit.Loops = inr (inr (inr (inl refl)))
each_among limit.Steps = inr (inr (inr (inr (inl refl))))
each_among limit.Tokens = inr (inr (inr (inr (inr (inl refl)))))

in_order : AreInOrder 0 limits
in_order = (omega arith, (omega arith, (omega arith, (omega arith, (omega arith, (omega arith, tt))))))

-- ---- the first one that a test holds of

module _ (test : Limit → Bool) where
  found : (ls : List Limit) (l : Limit) → find test ls ≡ Some l → test l ≡ true
  found [] l e = cc
  found (k ∷ ls) l e = by (test k) (found ls l) refl e
    where
      by : (b : Bool) → (find test ls ≡ Some l → test l ≡ true) → test k ≡ b → cond b (Some k) (find test ls) ≡ Some l → test l ≡ true
      by true later h f = let same : k ≡ l = cc in ap test (sym same) ∙ h
      by false later h f = later f

  none_before : (n : ℕ) (ls : List Limit) (l : Limit) → AreInOrder n ls → find test ls ≡ Some l → (k : Limit) → IsAmong k ls → order k < order l → test k ≡ false
  none_before n [] l o e k m less = absurd m
  none_before n (x ∷ ls) l o e k m less = by (test x) (λ f later. none_before (order x) ls l o.1 f k later less) refl e
    where
      by : (b : Bool) → (find test ls ≡ Some l → IsAmong k ls → test k ≡ false) → test x ≡ b → cond b (Some x) (find test ls) ≡ Some l → test k ≡ false
      by true rest h f =
          let same : x ≡ l = cc in
          ⊎_elim (λ (here : k ≡ x). absurd (omega (arith, less, ap order here, ap order same)))
          (λ (later : IsAmong k ls). let behind = comes_behind (order x) ls o.1 k later in absurd (omega (arith, less, behind, ap order same))) m
      by false rest h f = ⊎_elim (λ (here : k ≡ x). ap test here ∙ h) (λ (later : IsAmong k ls). rest f later) m

  none_at_all : (ls : List Limit) → find test ls ≡ None → (k : Limit) → IsAmong k ls → test k ≡ false
  none_at_all [] e k m = absurd m
  none_at_all (x ∷ ls) e k m = by (test x) (λ f later. none_at_all ls f k later) refl e
    where
      by : (b : Bool) → (find test ls ≡ None → IsAmong k ls → test k ≡ false) → test x ≡ b → cond b (Some x) (find test ls) ≡ None → test k ≡ false
      by true rest h f = cc
      by false rest h f = ⊎_elim (λ (here : k ≡ x). ap test here ∙ h) (λ (later : IsAmong k ls). rest f later) m

-- ---- what is measured exceeds what is counted

capped_above : (n k : ℕ) → nat_lt n (min k (suc n)) ≡ nat_lt n k
capped_above n k = by (nat_lt n k) refl
  where
    by : (b : Bool) → nat_lt n k ≡ b → nat_lt n (min k (suc n)) ≡ b
    by true e = let above = ltb-true n k e in lt-ltb n (min k (suc n)) (omega (arith, above))
    by false e = let within = ltb-false n k e in le-ltb n (min k (suc n)) (omega (arith, within))

above_as : (n m k : ℕ) → m ≡ min k (suc n) → nat_lt n m ≡ nat_lt n k
above_as n m k e = ap (nat_lt n) e ∙ capped_above n k

module _ (m : Measures) (p : Program) (f : Formula) (a : AreMeasures m p f) where
  same_excess : (l : Limit) → are_above m l ≡ exceeds p f l
  same_excess limit.Instructions = above_as MAX_INSTRUCTIONS m.instructions (length p.code) a.instructions
  same_excess limit.Operands = above_as MAX_OPERANDS m.operands (formula_operands f) a.operands
  same_excess limit.Brackets = above_as MAX_BRACKETS m.brackets (suc (formula_brackets (head f) f)) a.brackets
  same_excess limit.Loops =
      ap (λ b. b || nat_lt MAX_LOOP_SLOTS m.slots) (above_as MAX_LOOPS m.nesting (formula_loops f) a.nesting)
      ∙ ap (λ b. nat_lt MAX_LOOPS (formula_loops f) || b) (above_as MAX_LOOP_SLOTS m.slots (length p.loops) a.slots)
  same_excess limit.Steps = above_as MAX_STEPS m.steps (static_steps p) a.steps
  same_excess limit.Tokens = above_as MAX_TOKENS m.tokens (static_tokens p) a.tokens

  pub none_exceeded : first_excess m ≡ None → KeepsLimits p f
  none_exceeded e = record { none = λ l. sym (same_excess l) ∙ none_at_all (are_above m) limits e l (each_among l) }

  pub exceeded_first : (l : Limit) → first_excess m ≡ Some l → ExceedsFirst p f l
  exceeded_first l e = record {
    exceeded = sym (same_excess l) ∙ found (are_above m) limits l e;
    earlier = λ k before. sym (same_excess k) ∙ none_before (are_above m) 0 limits l in_order e k (each_among k) before;
  }
