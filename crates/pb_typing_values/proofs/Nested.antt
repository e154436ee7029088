-- A quantifier over several slots: its truth by the tuples of its carriers, and why its body fits at each of them.
use Rattle.std.proofs.Common.{◌≡◌, ℕ, zero, suc, ◌+◌, ◌<◌, ◌≤◌, Bool, true, false, not, ◌&&◌, ◌||◌, List, [], ◌∷◌, map, length, flat_map, Some, refl, sym, ◌∙◌, ap, arith, pos, true≢false}
use Rattle.std.specs.Prelude.{if◌then◌else◌}
use Rattle.std.specs.List.{slice_get, list_all, list_any}
use Rattle.std.proofs.lemmas.Bool.{and_parts, ne_eqb}
use Rattle.std.proofs.lemmas.Option.{none-some, same_Some}
use Rattle.std.proofs.lemmas.List.Folds.{list_all-append, list_any-append, list_all-map}
use Rattle.pb_fixpoint.specs.Solution.{Environment}
use Rattle.pb_base_values.specs.Carrier as carriers
use Rattle.pb_base_values.specs.Carrier.{Value, Tuple, contains, is_within, tuples}
use Rattle.pb_sorts.specs.declared.carrier.Carrier.{Carrier}
use Rattle.pb_sorts.specs.declared.carrier.Carrier.TheVariants as variants
use Rattle.pb_sorts.specs.Carrier.{values_of}
use Rattle.pb_text_tree.specs.declared.operator.Quantifier.{Quantifier}
use Rattle.pb_text_tree.specs.declared.operator.Quantifier.TheVariants.{Forall, Exists}
use Rattle.pb_text_meaning.specs.Syntax.{Spec}
use Rattle.pb_text_meaning.specs.Value.{of_values}
use Rattle.pb_text_meaning.specs.Formula.{Instance}
use Rattle.pb_typing_declarations.specs.Shapes.{shape_carrier}
use Rattle.pb_typing_declarations.specs.Entries.{shape_of}
use Rattle.pb_typing_tree.specs.Tree.{Formula}
use Rattle.pb_typing_tree.specs.Meaning.{Slots, set, truth}
use Rattle.pb_typing_tree.specs.View.{nested}
use Rattle.pb_typing_tree.specs.Fits.{FormulaFits}
use Rattle.pb_typing_tree.proofs.Expanded.{same-of-values}
use Rattle.pb_typing_values.specs.Quantifier.{deciding_truth}
use Rattle.pb_typing_values.proofs.Slots.{placed}
use Rattle.pb_typing_values.proofs.Runs.{all_tuples, least, run-contains}

-- the values of a carrier's shape are its own
pub shape-values : (c : Carrier) → shape_carrier (shape_of c) ≡ values_of c
shape-values variants.Bool = refl
shape-values (variants.Enum e) = refl
shape-values (variants.Range r) = refl

-- ---- truth

-- a fact of all or of some tuples
abbrev pub of_tuples : Quantifier → (Tuple → Bool) → List Tuple → Bool
of_tuples Forall p ts = list_all p ts
of_tuples Exists p ts = list_any p ts

pub any-map : {X Y : Type 0} (p : X → Bool) (h : Y → X) (ys : List Y) → list_any p (map h ys) ≡ list_any (λ y. p (h y)) ys
any-map p h [] = refl
any-map p h (y ∷ ys) = ap (λ b. p (h y) || b) (any-map p h ys)

of-fronts : (q : Quantifier) (p : Tuple → Bool) (c : carriers.Carrier) (ts : List Tuple)
    → of_tuples q p (flat_map (λ v. map (λ vs. v ∷ vs) ts) c) ≡ of_values q (λ v. of_tuples q (λ vs. p (v ∷ vs)) ts) c
of-fronts Forall p [] ts = refl
of-fronts Forall p (v ∷ c) ts =
    list_all-append p (map (λ vs. v ∷ vs) ts) (flat_map (λ u. map (λ vs. u ∷ vs) ts) c)
    ∙ (ap (λ b. b && list_all p (flat_map (λ u. map (λ vs. u ∷ vs) ts) c)) (list_all-map p (λ vs. v ∷ vs) ts)
    ∙ ap (λ b. list_all (λ vs. p (v ∷ vs)) ts && b) (of-fronts Forall p c ts))
of-fronts Exists p [] ts = refl
of-fronts Exists p (v ∷ c) ts =
    list_any-append p (map (λ vs. v ∷ vs) ts) (flat_map (λ u. map (λ vs. u ∷ vs) ts) c)
    ∙ (ap (λ b. b || list_any p (flat_map (λ u. map (λ vs. u ∷ vs) ts) c)) (any-map p (λ vs. v ∷ vs) ts)
    ∙ ap (λ b. list_any (λ vs. p (v ∷ vs)) ts || b) (of-fronts Exists p c ts))

one-tuple : (q : Quantifier) (p : Tuple → Bool) → of_tuples q p ([] ∷ []) ≡ p []
one-tuple Forall p = and-true (p [])
  where
    and-true : (b : Bool) → b && true ≡ b
    and-true true = refl
    and-true false = refl
one-tuple Exists p = or-false (p [])
  where
    or-false : (b : Bool) → b || false ≡ b
    or-false true = refl
    or-false false = refl

pub truth-nested : (S : Spec) (t : Environment Instance) (q : Quantifier) (f : Formula) (cs : List Carrier) (s : ℕ) (a : Slots)
    → truth S a t (nested q s cs f) ≡ of_tuples q (λ vs. truth S (placed a s vs) t f) (all_tuples cs)
truth-nested S t q f [] s a = sym (one-tuple q (λ vs. truth S (placed a s vs) t f))
truth-nested S t q f (c ∷ cs) s a =
    ap (of_values q (λ v. truth S (set a s v) t (nested q (suc s) cs f))) (shape-values c)
    ∙ (same-of-values q (λ v. truth S (set a s v) t (nested q (suc s) cs f)) (λ v. of_tuples q (λ vs. truth S (placed a s (v ∷ vs)) t f) (all_tuples cs))
    (λ v. truth-nested S t q f cs (suc s) (set a s v)) (values_of c)
    ∙ sym (of-fronts q (λ vs. truth S (placed a s vs) t f) (values_of c) (all_tuples cs)))

-- ---- one tuple after the other

-- a tuple that decides
pub decided : (q : Quantifier) (p : Tuple → Bool) (ts : List Tuple) (k : ℕ) (vs : Tuple) → slice_get ts k ≡ Some vs → p vs ≡ deciding_truth q → of_tuples q p ts ≡ deciding_truth q
decided q p [] k vs at is = absurd (none-some vs at)
decided Forall p (u ∷ ts) zero vs at is = ap (λ b. b && list_all p ts) (ap p (same_Some u vs at) ∙ is)
decided Exists p (u ∷ ts) zero vs at is = ap (λ b. b || list_any p ts) (ap p (same_Some u vs at) ∙ is)
decided Forall p (u ∷ ts) (suc k) vs at is = ap (λ b. p u && b) (decided Forall p ts k vs at is) ∙ and-false (p u)
  where
    and-false : (b : Bool) → b && false ≡ false
    and-false true = refl
    and-false false = refl
decided Exists p (u ∷ ts) (suc k) vs at is = ap (λ b. p u || b) (decided Exists p ts k vs at is) ∙ or-true (p u)
  where
    or-true : (b : Bool) → b || true ≡ true
    or-true true = refl
    or-true false = refl

-- no tuple decides
pub undecided : (q : Quantifier) (p : Tuple → Bool) (ts : List Tuple) → ((k : ℕ) (vs : Tuple) → slice_get ts k ≡ Some vs → p vs ≡ not (deciding_truth q)) → of_tuples q p ts ≡ not (deciding_truth q)
undecided Forall p [] h = refl
undecided Exists p [] h = refl
undecided Forall p (u ∷ ts) h = ap (λ b. b && list_all p ts) (h 0 u refl) ∙ undecided Forall p ts (λ k vs at. h (suc k) vs at)
undecided Exists p (u ∷ ts) h = ap (λ b. b || list_any p ts) (h 0 u refl) ∙ undecided Exists p ts (λ k vs at. h (suc k) vs at)

-- ---- the body fits

pub fits-placed : (k n : ℕ) (q : Quantifier) (f : Formula) (cs : List Carrier) (s : ℕ) (a : Slots) (vs : Tuple)
    → FormulaFits k n a (nested q s cs f) → is_within (map values_of cs) vs ≡ true → FormulaFits k n (placed a s vs) f
fits-placed k n q f [] s a [] h within = h
fits-placed k n q f [] s a (v ∷ vs) h within = absurd (true≢false (sym within))
fits-placed k n q f (c ∷ cs) s a [] h within = absurd (true≢false (sym within))
fits-placed k n q f (c ∷ cs) s a (v ∷ vs) h within =
    let p = and_parts (contains (values_of c) v) (is_within (map values_of cs) vs) within in
    fits-placed k n q f cs (suc s) (set a s v) vs (h.2 v (ap (λ (us : carriers.Carrier). contains us v) (shape-values c) ∙ p.0)) p.1

-- the slots are there and hold 0
pub record HasRoom (n s count : ℕ) (a : Slots) : Type 0 where
  pub within : 0 < count → s + count ≤ n
  pub clear : (i : ℕ) → i < count → a (s + i) ≡ pos 0

pub room : (k n : ℕ) (q : Quantifier) (f : Formula) (cs : List Carrier) (s : ℕ) (a : Slots) → FormulaFits k n a (nested q s cs f) → HasRoom n s (length cs) a
room k n q f [] s a h = record { within = λ some. absurd (omega (arith, some)); clear = λ i lt. absurd (omega (arith, lt)) }
room k n q f (c ∷ cs) s a h =
    let v : Value = least c in
    let rest : HasRoom n (suc s) (length cs) (set a s v) =
    room k n q f cs (suc s) (set a s v) (h.2 v (ap (λ (us : carriers.Carrier). contains us v) (shape-values c) ∙ run-contains c)) in
    record { within = λ some. fits (length cs) rest.within; clear = at rest.clear }
  where
    fits : (m : ℕ) → (0 < m → suc s + m ≤ n) → s + suc m ≤ n
    fits zero h' = omega (arith, h.0)
    fits (suc m) h' = omega (arith, h' (omega arith))

    at : ((i : ℕ) → i < length cs → set a s (least c) (suc s + i) ≡ pos 0) → (i : ℕ) → i < suc (length cs) → a (s + i) ≡ pos 0
    at clear zero lt = ap a (omega arith) ∙ h.1
    at clear (suc i) lt =
        let here : s + suc i ≡ suc s + i = omega arith in
        ap a here ∙ (ap (λ b. if b then least c else a (suc s + i)) (sym (ne_eqb (suc s + i) s (λ e. omega (arith, e)))) ∙ clear i (omega (arith, lt)))
