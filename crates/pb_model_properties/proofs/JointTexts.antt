-- Where a model satisfies what invariants say together, it satisfies each of their properties.
use Rattle.std.proofs.Common.{◌≡◌, ◌∙◌, ℕ, ◌+◌, ◌<◌, Bool, true, false, List, [], ◌∷◌, ◌++◌, drop, get_or, length, sym, ap, subst, refl, arith, Some, Option}
use Rattle.std.specs.Prelude.{Contains, filter, slice_index_or}
use Rattle.std.specs.List.{All, slice_get}
use Rattle.std.specs.Option.{option_map_or}
use Rattle.std.proofs.lemmas.List.{append_assoc, at_drop_more}
use Rattle.std.proofs.lemmas.List.Elements.{All-contains_itself, filter_passes}
use Rattle.std.proofs.Math.Bool.{cond}
use Rattle.pb_model_tree.specs.Form.{FormulaForm, ModelForm, PropertyForm}
use Rattle.pb_model_meaning.specs.Erase.{erase}
use Rattle.pb_model_runs.proofs.Elements.{of-some}
use Rattle.pb_model_invariants.specs.Invariants.{is_invariant}
use Rattle.pb_model_invariants.specs.Laws.{JointInvariantsHold}
use Rattle.pb_model_properties.specs.Joint.{formula_in, formulas_at, is_invariant_at, joint_property_at, says_invariant, IsSatisfiedAt}
use Rattle.pb_model_properties.specs.Said.{tree_satisfies}

pub each-satisfied : JointInvariantsHold → (model : ModelForm) (places all : List ℕ) → places ≡ filter (is_invariant_at model.properties) all
    → tree_satisfies model (joint_property_at model places).formula ≡ true → All (IsSatisfiedAt model) places
each-satisfied holds model places all same sat = λ k d below p there.
    let place = slice_index_or places k d in
    let passes : All (λ (q : ℕ). is_invariant_at model.properties q ≡ true) places = subst (λ (qs : List ℕ). All (λ (q : ℕ). is_invariant_at model.properties q ≡ true) qs) (sym same)
    (filter_passes (is_invariant_at model.properties) all) in
    let invariant : is_invariant p.formula ≡ true = ap (λ (o : Option PropertyForm). option_map_or says_invariant o false) (sym there) ∙ passes k d below in
    let formulas = λ (q : ℕ). option_map_or formula_in (slice_get model.properties q) [] in
    let here : Contains (formulas place) p.formula = subst (λ (o : Option PropertyForm). Contains (option_map_or formula_in o []) p.formula) (sym there) (0, omega arith, refl) in
    holds (erase model) model.initial.place (formulas_at model.properties places) p.formula (of-some formulas places place p.formula (All-contains_itself places k d below) here) invariant sat

-- ---- one place more

-- its formula is the next one
pub next-formula : (ps : List PropertyForm) (places : List ℕ) (i : ℕ) (f : PropertyForm) → i < length places → slice_get ps (get_or places i 0) ≡ Some f
    → formulas_at ps (drop i places) ≡ f.formula ∷ formulas_at ps (drop (i + 1) places)
next-formula ps places i f within there =
    at_drop_more (formulas_at ps) places i 0 within
    ∙ ap (λ (o : Option PropertyForm). option_map_or formula_in o [] ++ formulas_at ps (drop (i + 1) places)) there

pub one-more : {X : Type 0} (before new : List X) (x : X) (rest whole left : List X) → new ≡ before ++ x ∷ [] → left ≡ x ∷ rest → before ++ left ≡ whole → new ++ rest ≡ whole
one-more before new x rest whole left pushed is now =
    ap (λ (zs : List _). zs ++ rest) pushed ∙ (append_assoc before (x ∷ []) rest ∙ (ap (λ (zs : List _). before ++ zs) (sym is) ∙ now))

-- a place that passes a test, and one that doesn't
filter-next : (test : ℕ → Bool) (places : List ℕ) (i : ℕ) (b : Bool) → i < length places → test (get_or places i 0) ≡ b
    → filter test (drop i places) ≡ cond b (get_or places i 0 ∷ filter test (drop (i + 1) places)) (filter test (drop (i + 1) places))
filter-next test places i b within is =
    at_drop_more (filter test) places i 0 within ∙ ap (λ (c : Bool). cond c (get_or places i 0 ∷ filter test (drop (i + 1) places)) (filter test (drop (i + 1) places))) is

pub passes-next : (test : ℕ → Bool) (places : List ℕ) (i : ℕ) → i < length places → test (get_or places i 0) ≡ true
    → filter test (drop i places) ≡ get_or places i 0 ∷ filter test (drop (i + 1) places)
passes-next test places i within is = filter-next test places i true within is

pub fails-next : (test : ℕ → Bool) (places : List ℕ) (i : ℕ) → i < length places → test (get_or places i 0) ≡ false → filter test (drop i places) ≡ filter test (drop (i + 1) places)
fails-next test places i within is = filter-next test places i false within is
