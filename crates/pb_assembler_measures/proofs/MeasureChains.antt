-- Loops and chains, measured part by part.
use Rattle.std.proofs.Common.{◌≡◌, ℕ, zero, suc, ◌-◌, ◌<◌, ◌≤◌, Bool, true, false, cond, List, [], ◌∷◌, length, length-drop, get_or, take, drop, Option, Some, None, refl, sym, ap, ◌∙◌, arith, true≢false}
use Rattle.std.specs.Prelude.{nat_le, unwrap_or}
use Rattle.std.proofs.lemmas.Bool.{le-leb, leb-true}
use Rattle.std.proofs.lemmas.List.{take_all}
use Rattle.pb_sorts.specs.Carrier.{values_of}
use Rattle.pb_sorts.specs.declared.carrier.Carrier.{Carrier}
use Rattle.pb_sorts.specs.declared.carrier.Carrier.TheVariants as carriers
use Rattle.pb_text_tree.specs.declared.operator.Quantifier.{Quantifier}
use Rattle.pb_typing_declarations.specs.Entries.{carrier_shape}
use Rattle.pb_normal.specs.Normal as normal
use Rattle.pb_normal.specs.Normal.{Join}
use Rattle.pb_fixpoint_trees.specs.declared.junction.Junction.{Junction}
use Rattle.pb_fixpoint_trees.specs.declared.junction.Junction.TheVariants.{Conjunction, Disjunction}
use Rattle.pb_normal.specs.declared.formula.Formula.{Formula}
use Rattle.pb_normal.specs.View.{formula_view, nested}
use Rattle.pb_assembler_scheme.specs.Scheme.{junction_of, test_of}
use Rattle.pb_assembler_measures.specs.declared.measure_load.Load.{Load}
use Rattle.pb_assembler_measures.specs.declared.measure_tally.Tally.{Tally}
use Rattle.pb_assembler_measures.specs.MeasureTerms.{capped_load, term_load}
use Rattle.pb_assembler_measures.specs.MeasureFormulas.{after, capped_tally, form_chain, formula_tally, join_tally, kind_at, kind_by, leading_tests, load_by, looped, loops_tally, more_tests, shape_size, tested_tally, under_tally}
use Rattle.pb_assembler_measures.proofs.MeasureTallies.{tested_by, under_by, after_by}

-- ---- loops

under_same : (m : Junction) (x : Tally) → under_tally m m x ≡ x
under_same Conjunction x = refl
under_same Disjunction x = refl

pub carrier_count : (c : Carrier) → shape_size (carrier_shape (Some c)) ≡ length (values_of c)
carrier_count carriers.Bool = refl
carrier_count (carriers.Enum e) = refl
carrier_count (carriers.Range r) = refl

nested_own : (callees : List (List Carrier)) (q : Quantifier) (s : ℕ) (cs : List Carrier) (f : normal.Formula)
    → formula_tally callees (junction_of q) (nested q s cs f) ≡ loops_tally cs (formula_tally callees (junction_of q) f)
nested_own callees q s [] f = refl
nested_own callees q s (c ∷ cs) f =
    let m = junction_of q in
    under_same m (looped (shape_size (carrier_shape (Some c))) (formula_tally callees m (nested q (suc s) cs f)))
    ∙ ap (λ n. looped n (formula_tally callees m (nested q (suc s) cs f))) (carrier_count c)
    ∙ ap (looped (length (values_of c))) (nested_own callees q (suc s) cs f)

pub nested_tally : (callees : List (List Carrier)) (q : Quantifier) (around : Junction) (s : ℕ) (cs : List Carrier) (f : normal.Formula) → 0 < length cs
    → formula_tally callees around (nested q s cs f) ≡ under_tally (junction_of q) around (loops_tally cs (formula_tally callees (junction_of q) f))
nested_tally callees q around s [] f l = absurd (omega arith)
nested_tally callees q around s (c ∷ cs) f l =
    let m = junction_of q in
    ap (λ n. under_tally m around (looped n (formula_tally callees m (nested q (suc s) cs f)))) (carrier_count c)
    ∙ ap (λ (x : Tally). under_tally m around (looped (length (values_of c)) x)) (nested_own callees q (suc s) cs f)

pub loops_step : (cs : List Carrier) (k : ℕ) (c : Carrier) (x : Tally) → k < length cs → c ≡ get_or cs k c → loops_tally (drop k cs) x ≡ looped (length (values_of c)) (loops_tally (drop (suc k) cs) x)
loops_step [] k c x l e = absurd (omega arith)
loops_step (d ∷ ds) zero c x l e = ap (λ (b : Carrier). looped (length (values_of b)) (loops_tally ds x)) (sym e)
loops_step (d ∷ ds) (suc k) c x l e = loops_step ds k c x (omega arith) e

pub all_loops : (cs : List Carrier) (k : ℕ) (x : Tally) → k ≡ 0 → loops_tally (drop k cs) x ≡ loops_tally cs x
all_loops cs zero x e = refl
all_loops cs (suc k) x e = absurd (omega arith)

-- ---- chains

-- what a slice from a place on holds
pub all_from : (fs : List Formula) (k : ℕ) → take (length fs - k) (drop k fs) ≡ drop k fs
all_from fs k = take_all (length fs - k) (drop k fs) (omega (arith, length-drop k fs))

le_same : (a b c d : ℕ) → (a ≤ b → c ≤ d) → (c ≤ d → a ≤ b) → nat_le a b ≡ nat_le c d
le_same a b c d f g = by (nat_le a b) (nat_le c d) refl refl
  where
    by : (p q : Bool) → nat_le a b ≡ p → nat_le c d ≡ q → p ≡ q
    by true true e h = refl
    by false false e h = refl
    by true false e h = absurd (true≢false (sym (le-leb c d (f (leb-true a b e))) ∙ h))
    by false true e h = absurd (true≢false (sym (le-leb a b (g (leb-true c d h))) ∙ e))

le_none : (k : ℕ) → nat_le (suc k) 0 ≡ false
le_none k = by (nat_le (suc k) 0) refl
  where
    by : (p : Bool) → nat_le (suc k) 0 ≡ p → p ≡ false
    by false e = refl
    by true e = let l = leb-true (suc k) 0 e in absurd (omega (arith, l))

pub kind_step : (m kind : Junction) (fs : List Formula) (k : ℕ) (f : Formula) → k < length fs → f ≡ get_or fs k f
    → kind_at m kind (leading_tests fs) (suc k) ≡ kind_by (test_of (formula_view f)) m (kind_at m kind (leading_tests fs) k)
kind_step m kind [] k f l e = absurd (omega arith)
kind_step m kind (g ∷ gs) zero f l e = by (test_of (formula_view g)) ∙ ap (λ (y : Formula). kind_by (test_of (formula_view y)) m (kind_at m kind (leading_tests (g ∷ gs)) 0)) (sym e)
  where
    by : (o : Option normal.Term) → kind_at m kind (more_tests o (leading_tests gs)) 1 ≡ kind_by o m (kind_at m kind (more_tests o (leading_tests gs)) 0)
    by (Some t) = ap (λ b. cond b kind m) (le_same 1 (suc (leading_tests gs)) 0 (suc (leading_tests gs)) (λ h. omega arith) (λ h. omega arith))
    by None = ap (λ b. cond b kind m) (le_none 0)
kind_step m kind (g ∷ gs) (suc k) f l e = by (test_of (formula_view g)) (kind_step m kind gs k f (omega arith) e)
  where
    same : (a b : ℕ) → kind_at m kind (suc b) (suc a) ≡ kind_at m kind b a
    same a b = ap (λ c. cond c kind m) (le_same (suc a) (suc b) a b (λ h. omega (arith, h)) (λ h. omega (arith, h)))

    own : (o : Option normal.Term) → m ≡ kind_by o m m
    own (Some t) = refl
    own None = refl

    by : (o : Option normal.Term)
        → kind_at m kind (leading_tests gs) (suc k)
        ≡ kind_by (test_of (formula_view f)) m (kind_at m kind (leading_tests gs) k)
        → kind_at m kind (more_tests o (leading_tests gs)) (suc (suc k))
        ≡ kind_by (test_of (formula_view f)) m (kind_at m kind (more_tests o (leading_tests gs)) (suc k))
    by (Some t) rest = same (suc k) (leading_tests gs) ∙ rest ∙ ap (kind_by (test_of (formula_view f)) m) (sym (same k (leading_tests gs)))
    by None rest = ap (λ b. cond b kind m) (le_none (suc k)) ∙ own (test_of (formula_view f)) ∙ ap (λ b. kind_by (test_of (formula_view f)) m (cond b kind m)) (sym (le_none k))

pub link_step : (m : Junction) (fs : List Formula) (k : ℕ) (f : Formula) → suc k < length fs → f ≡ get_or fs k f → Join m (formula_view f) (form_chain m (drop (suc k) fs)) ≡ form_chain m (drop k fs)
link_step m [] k f l e = absurd (omega arith)
link_step m (g ∷ []) k f l e = absurd (omega arith)
link_step m (g ∷ h ∷ hs) zero f l e = ap (λ (y : Formula). Join m (formula_view y) (form_chain m (h ∷ hs))) e
link_step m (g ∷ h ∷ hs) (suc k) f l e = link_step m (h ∷ hs) k f (omega arith) e

pub link_last : (m : Junction) (fs : List Formula) (k : ℕ) (f : Formula) → suc k ≡ length fs → f ≡ get_or fs k f → form_chain m (drop k fs) ≡ formula_view f
link_last m [] k f l e = absurd (omega arith)
link_last m (g ∷ []) zero f l e = ap formula_view (sym e)
link_last m (g ∷ []) (suc k) f l e = absurd (omega arith)
link_last m (g ∷ h ∷ hs) zero f l e = absurd (omega arith)
link_last m (g ∷ h ∷ hs) (suc k) f l e = link_last m (h ∷ hs) k f (omega arith) e

pub many_no_test : (m : Junction) (fs : List Formula) → 1 < length fs → None ≡ load_by (test_of (form_chain m fs))
many_no_test m [] l = absurd (omega arith)
many_no_test m (f ∷ []) l = absurd (omega arith)
many_no_test m (f ∷ g ∷ gs) l = refl

pub only_load : (m : Junction) (fs : List Formula) (f : Formula) → length fs ≡ 1 → f ≡ get_or fs 0 f → load_by (test_of (formula_view f)) ≡ load_by (test_of (form_chain m fs))
only_load m [] f l e = absurd (omega arith)
only_load m (g ∷ []) f l e = ap (λ (x : Formula). load_by (test_of (formula_view x))) e
only_load m (g ∷ h ∷ hs) f l e = absurd (omega arith)

some_load : (o : Option normal.Term) (load : Load) → Some load ≡ load_by o → (t : normal.Term) × ((o ≡ Some t) × (load ≡ capped_load (term_load t)))
some_load (Some t) load e = (t, (refl, ap (λ o. unwrap_or o load) e))
some_load None load e = cc

none_load : (o : Option normal.Term) → None ≡ load_by o → o ≡ None
none_load (Some t) e = cc
none_load None e = refl

module _ (callees : List (List Carrier)) (m around : Junction) (f g : normal.Formula) where
  joined_by : (o p : Option normal.Term) → test_of f ≡ o → test_of g ≡ p
      → formula_tally callees around (Join m f g)
      ≡ join_tally m around o p (formula_tally callees around f) (formula_tally callees around g)
      (formula_tally callees m f) (formula_tally callees m g)
  joined_by o p e h =
      ap (λ o. join_tally m around o (test_of g) (formula_tally callees around f) (formula_tally callees around g) (formula_tally callees m f) (formula_tally callees m g)) e
      ∙ ap (λ p. join_tally m around o p (formula_tally callees around f) (formula_tally callees around g) (formula_tally callees m f) (formula_tally callees m g)) h

  pub second_test : (load : Load) (own : Tally) → None ≡ load_by (test_of f) → Some load ≡ load_by (test_of g)
      → own ≡ capped_tally (formula_tally callees around f)
      → capped_tally (tested_tally m around load own) ≡ capped_tally (formula_tally callees around (Join m f g))
  second_test load own n e h =
      let s = some_load (test_of g) load e in
      tested_by m around load (term_load s.0) own (formula_tally callees around f) s.1.1 h
      ∙ sym (ap capped_tally (joined_by None (Some s.0) (none_load (test_of f) n) s.1.0))

  pub no_test : (own rest : Tally) → None ≡ load_by (test_of f) → None ≡ load_by (test_of g)
      → own ≡ capped_tally (formula_tally callees m f) → rest ≡ capped_tally (formula_tally callees (kind_by (test_of f) m around) g)
      → capped_tally (under_tally m around (capped_tally (after own rest))) ≡ capped_tally (formula_tally callees around (Join m f g))
  no_test own rest n k e h =
      let none = none_load (test_of f) n in
      under_by m around (capped_tally (after own rest)) (after (formula_tally callees m f) (formula_tally callees m g))
      (after_by own rest (formula_tally callees m f) (formula_tally callees m g) e
      (h ∙ ap (λ o. capped_tally (formula_tally callees (kind_by o m around) g)) none))
      ∙ sym (ap capped_tally (joined_by None None none (none_load (test_of g) k)))
