-- What the joint invariant says of each of the invariants.
use Rattle.std.proofs.Common.{◌≡◌, ◌∙◌, ℕ, zero, suc, Bool, true, false, true≢false, not, ◌&&◌, ◌||◌, if◌then◌else◌, List, [], ◌∷◌, ◌++◌, map, refl, sym, subst, ap}
use Rattle.std.specs.Prelude.{⊤, flat_map, codes}
use Rattle.std.proofs.Math.Bool.{cond}
use Rattle.std.specs.List.{All, list_all}
use Rattle.std.specs.Cmp.Lexicographic.{same_text}
use Rattle.std.proofs.lemmas.Bool.{and_parts, and_from}
use Rattle.std.proofs.lemmas.List.Elements.{All-nil, All-cons, All-contains}
use Rattle.std.proofs.lemmas.Slice.Eq.{bytes_eq-Decides}
use Rattle.pb_fixpoint.specs.declared.Sign.TheVariants.{Mu, Nu}
use Rattle.pb_fixpoint.specs.Solution.{iterate, full}
use Rattle.pb_text_tree.specs.declared.place.Place.{Place}
use Rattle.pb_text_tree.specs.declared.operator.Connective.TheVariants.{And, Or, Implies}
use Rattle.pb_text_tree.specs.Form.{chained}
use Rattle.pb_text_meaning.specs.Syntax.{Name, same_name}
use Rattle.pb_model_tree.specs.declared.formula.Modality.TheVariants.{Box, Diamond}
use Rattle.pb_model_tree.specs.Form.{FormulaForm, StepSetForm}
use Rattle.pb_model_meaning.specs.Syntax.{Formula, Model, StepSet}
use Rattle.pb_model_meaning.specs.Erase.{erased_formula, erased_steps}
use Rattle.pb_model_meaning.specs.Steps.{State, is_state, initial_state, state_count, successors}
use Rattle.pb_model_meaning.specs.Satisfaction.{States, Valuation, no_sets, with_set, holds_at, satisfying}
use Rattle.pb_model_meaning.specs.Laws.{WithinModel}
use Rattle.pb_model_meaning.proofs.Same.{all-same, any-same, holds_at-same}
use Rattle.pb_model_invariants.specs.Invariants.{conjuncts, is_fixpoint_free, is_onward, is_part}
use Rattle.pb_model_invariants.specs.Invariants.{is_single_invariant, parts_besides, parts_of_single, parts, placed_at, onward, joint_variable, joint_body}
use Rattle.pb_model_invariants.specs.Laws.{JointInvariantsHold}

-- ---- lists

-- P holds of each element
abbrev Each : {X : Type 0} → (X → Type 0) → List X → Type 0
Each P [] = ⊤
Each P (x ∷ xs) = P x × Each P xs

each-all : {X : Type 0} (P : X → Type 0) (xs : List X) → Each P xs → All P xs
each-all P [] h = All-nil P
each-all P (x ∷ xs) h = All-cons P x xs h.0 (each-all P xs h.1)

each-split : {X : Type 0} (P : X → Type 0) (xs ys : List X) → Each P (xs ++ ys) → Each P xs × Each P ys
each-split P [] ys h = (tt, h)
each-split P (x ∷ xs) ys h = let rest = each-split P xs ys h.1 in ((h.0, rest.0), rest.1)

each-mapped : {X Y : Type 0} (P : Y → Type 0) (f : X → List Y) (xs : List X) → Each P (flat_map f xs) → Each (λ x. Each P (f x)) xs
each-mapped P f [] h = tt
each-mapped P f (x ∷ xs) h = let both = each-split P (f x) (flat_map f xs) h in (both.0, each-mapped P f xs both.1)

chosen-within : (b x y : Bool) → (b ≡ true → x ≡ true → y ≡ true) → (if b then x else false) ≡ true → (if b then y else false) ≡ true
chosen-within true x y h e = h refl e
chosen-within false x y h e = absurd (true≢false (sym e))

-- the set of X under ρ[X := T]
with-same : (ρ : Valuation) (X : Name) (T : States) (Y : Name) → Y ≡ X → with_set ρ X T Y ≡ T
with-same ρ X T Y is = by (same_name X Y) (subst (λ (Z : Name). same_name X Z ≡ true) (sym is) ((bytes_eq-Decides X X).1 refl))
  where
    by : (b : Bool) → b ≡ true → (if b then T else ρ Y) ≡ T
    by true e = refl
    by false e = absurd (true≢false (sym e))

module _ (m : Model) where
  -- a formula is satisfied under these sets
  abbrev Sat : Valuation → State → FormulaForm → Type 0
  Sat ρ s f = satisfying m ρ (erased_formula f) s ≡ true

  -- as many steps of two operators, of which one stays within the other
  iterate-within : (g h : States → States) → ((S T : States) → WithinModel m S T → WithinModel m (g S) (h T)) → (n : ℕ) (S : States) → WithinModel m (iterate n g S) (iterate n h S)
  iterate-within g h step zero S = λ s is e. e
  iterate-within g h step (suc n) S = step (iterate n g S) (iterate n h S) (iterate-within g h step n S)

  -- ---- formulas without fixpoints

  free-same : (f : FormulaForm) → is_fixpoint_free f ≡ true → (ρ τ : Valuation) (s : State) → satisfying m ρ (erased_formula f) s ≡ satisfying m τ (erased_formula f) s
  free-same (FormulaForm.constant p b) e ρ τ s = refl
  free-same (FormulaForm.«data» p x) e ρ τ s = refl
  free-same (FormulaForm.variable x) e ρ τ s = absurd (true≢false (sym e))
  free-same (FormulaForm.negation p f) e ρ τ s = ap not (free-same f e ρ τ s)
  free-same (FormulaForm.connected And p f g) e ρ τ s =
      let both = and_parts (is_fixpoint_free f) (is_fixpoint_free g) e in
      ap (λ b. b && satisfying m ρ (erased_formula g) s) (free-same f both.0 ρ τ s) ∙ ap (λ b. satisfying m τ (erased_formula f) s && b) (free-same g both.1 ρ τ s)
  free-same (FormulaForm.connected Or p f g) e ρ τ s =
      let both = and_parts (is_fixpoint_free f) (is_fixpoint_free g) e in
      ap (λ b. b || satisfying m ρ (erased_formula g) s) (free-same f both.0 ρ τ s) ∙ ap (λ b. satisfying m τ (erased_formula f) s || b) (free-same g both.1 ρ τ s)
  free-same (FormulaForm.connected Implies p f g) e ρ τ s =
      let both = and_parts (is_fixpoint_free f) (is_fixpoint_free g) e in
      ap (λ b. not b || satisfying m ρ (erased_formula g) s) (free-same f both.0 ρ τ s)
      ∙ ap (λ b. not (satisfying m τ (erased_formula f) s) || b) (free-same g both.1 ρ τ s)
  free-same (FormulaForm.modal Box p A f) e ρ τ s =
      let S = satisfying m ρ (erased_formula f) in
      let T = satisfying m τ (erased_formula f) in
      all-same m (holds_at m (erased_formula f) S) (holds_at m (erased_formula f) T) (holds_at-same m (erased_formula f) S T (λ t is. free-same f e ρ τ t)) (successors m (erased_steps A) s)
  free-same (FormulaForm.modal Diamond p A f) e ρ τ s =
      let S = satisfying m ρ (erased_formula f) in
      let T = satisfying m τ (erased_formula f) in
      any-same m (holds_at m (erased_formula f) S) (holds_at m (erased_formula f) T) (holds_at-same m (erased_formula f) S T (λ t is. free-same f e ρ τ t)) (successors m (erased_steps A) s)
  free-same (FormulaForm.fixpoint sign p x f) e ρ τ s = absurd (true≢false (sym e))

  -- ---- conjunctions

  conjunction-sat : (f : FormulaForm) (ρ : Valuation) (s : State) → Each (Sat ρ s) (conjuncts f) → Sat ρ s f
  conjunction-sat (FormulaForm.constant p b) ρ s h = h.0
  conjunction-sat (FormulaForm.«data» p x) ρ s h = h.0
  conjunction-sat (FormulaForm.variable x) ρ s h = h.0
  conjunction-sat (FormulaForm.negation p f) ρ s h = h.0
  conjunction-sat (FormulaForm.connected And p f g) ρ s h =
      let both = each-split (Sat ρ s) (conjuncts f) (conjuncts g) h in
      and_from (satisfying m ρ (erased_formula f) s) (satisfying m ρ (erased_formula g) s) (conjunction-sat f ρ s both.0) (conjunction-sat g ρ s both.1)
  conjunction-sat (FormulaForm.connected Or p f g) ρ s h = h.0
  conjunction-sat (FormulaForm.connected Implies p f g) ρ s h = h.0
  conjunction-sat (FormulaForm.modal k p A f) ρ s h = h.0
  conjunction-sat (FormulaForm.fixpoint sign p x f) ρ s h = h.0

  -- the operands of the joint invariant's body, and what follows them
  chain-sat : (p : Place) (ρ : Valuation) (s : State) (first : FormulaForm) (fs : List FormulaForm) (last : FormulaForm)
      → Sat ρ s (chained (FormulaForm.connected And) first (map (placed_at p) (fs ++ last ∷ []))) → Sat ρ s first × Each (Sat ρ s) fs × Sat ρ s last
  chain-sat p ρ s first [] last e = let both = and_parts (satisfying m ρ (erased_formula first) s) (satisfying m ρ (erased_formula last) s) e in (both.0, tt, both.1)
  chain-sat p ρ s first (f ∷ fs) last e =
      let rest = chained (FormulaForm.connected And) f (map (placed_at p) (fs ++ last ∷ [])) in
      let both = and_parts (satisfying m ρ (erased_formula first) s) (satisfying m ρ (erased_formula rest) s) e in
      let more = chain-sat p ρ s f fs last both.1 in
      (both.0, (more.0, more.1), more.2)

  -- ---- bodies

  all-within : (S T : States) → WithinModel m S T → (X Y : Name) (ts : List State) → list_all (holds_at m (Formula.Named X) S) ts ≡ true
      → list_all (holds_at m (Formula.Named Y) T) ts ≡ true
  all-within S T ST X Y [] e = refl
  all-within S T ST X Y (t ∷ ts) e =
      let both = and_parts (holds_at m (Formula.Named X) S t) (list_all (holds_at m (Formula.Named X) S) ts) e in
      and_from (holds_at m (Formula.Named Y) T t) (list_all (holds_at m (Formula.Named Y) T) ts)
      (chosen-within (is_state m t) (S t) (T t) (ST t) both.0) (all-within S T ST X Y ts both.1)

  -- `[true] X` under a set T for X
  onward-sat : (X : Name) (T : States) (ρ : Valuation) (s : State) (f : FormulaForm) → is_onward X f ≡ true
      → ((Y : Name) → list_all (holds_at m (Formula.Named Y) T) (successors m StepSet.All s) ≡ true) → Sat (with_set ρ X T) s f
  onward-sat X T ρ s (FormulaForm.modal Box p (StepSetForm.all q) (FormulaForm.variable x)) e h =
      let same : with_set ρ X T x.text ≡ T = with-same ρ X T x.text (same_text x.text X (sym e)) in
      ap (λ (U : States). list_all (holds_at m (Formula.Named x.text) U) (successors m StepSet.All s)) same ∙ h x.text
  onward-sat X T ρ s (FormulaForm.modal Box p (StepSetForm.all q) (FormulaForm.constant r b)) e h = absurd (true≢false (sym e))
  onward-sat X T ρ s (FormulaForm.modal Box p (StepSetForm.all q) (FormulaForm.«data» r x)) e h = absurd (true≢false (sym e))
  onward-sat X T ρ s (FormulaForm.modal Box p (StepSetForm.all q) (FormulaForm.negation r f)) e h = absurd (true≢false (sym e))
  onward-sat X T ρ s (FormulaForm.modal Box p (StepSetForm.all q) (FormulaForm.connected c r f g)) e h = absurd (true≢false (sym e))
  onward-sat X T ρ s (FormulaForm.modal Box p (StepSetForm.all q) (FormulaForm.modal k r A f)) e h = absurd (true≢false (sym e))
  onward-sat X T ρ s (FormulaForm.modal Box p (StepSetForm.all q) (FormulaForm.fixpoint sign r x f)) e h = absurd (true≢false (sym e))
  onward-sat X T ρ s (FormulaForm.modal Box p (StepSetForm.step x) f) e h = absurd (true≢false (sym e))
  onward-sat X T ρ s (FormulaForm.modal Box p (StepSetForm.complement q A) f) e h = absurd (true≢false (sym e))
  onward-sat X T ρ s (FormulaForm.modal Box p (StepSetForm.union q A B) f) e h = absurd (true≢false (sym e))
  onward-sat X T ρ s (FormulaForm.constant q b) e h = absurd (true≢false (sym e))
  onward-sat X T ρ s (FormulaForm.«data» q x) e h = absurd (true≢false (sym e))
  onward-sat X T ρ s (FormulaForm.variable x) e h = absurd (true≢false (sym e))
  onward-sat X T ρ s (FormulaForm.negation q f) e h = absurd (true≢false (sym e))
  onward-sat X T ρ s (FormulaForm.connected c q f g) e h = absurd (true≢false (sym e))
  onward-sat X T ρ s (FormulaForm.fixpoint sign q x f) e h = absurd (true≢false (sym e))
  onward-sat X T ρ s (FormulaForm.modal Diamond p A f) e h = absurd (true≢false (sym e))

  -- each conjunct of a body, by the parts of it and by where its steps lead
  body-sat : (X : Name) (T : States) (ρ τ : Valuation) (s : State) (fs : List FormulaForm) → list_all (is_part X) fs ≡ true → Each (Sat τ s) (parts_besides X fs)
      → ((Y : Name) → list_all (holds_at m (Formula.Named Y) T) (successors m StepSet.All s) ≡ true) → Each (Sat (with_set ρ X T) s) fs
  body-sat X T ρ τ s [] e h on = tt
  body-sat X T ρ τ s (f ∷ fs) e h on =
      let both = and_parts (is_part X f) (list_all (is_part X) fs) e in
      by (is_onward X f) refl both.0 h (body-sat X T ρ τ s fs both.1)
    where
      by : (b : Bool) → is_onward X f ≡ b → is_part X f ≡ true → Each (Sat τ s) (cond (not b) (f ∷ parts_besides X fs) (parts_besides X fs))
          → (Each (Sat τ s) (parts_besides X fs) → ((Y : Name) → list_all (holds_at m (Formula.Named Y) T) (successors m StepSet.All s) ≡ true) → Each (Sat (with_set ρ X T) s) fs)
          → Each (Sat (with_set ρ X T) s) (f ∷ fs)
      by true is part h rest = (onward-sat X T ρ s f is on, rest h on)
      by false is part h rest =
          let free : is_fixpoint_free f ≡ true = ap (λ b. b || is_fixpoint_free f) (sym is) ∙ part in
          (free-same f free (with_set ρ X T) τ s ∙ h.0, rest h.1 on)

  -- ---- the joint invariant

  module _ (p : Place) (all : List FormulaForm) where
    abbrev joint_step : States → States
    joint_step S = satisfying m (with_set no_sets (codes "X") S) (erased_formula (joint_body p all))

    -- states from which the joint one goes on are states from which an invariant does whose parts are among its own
    goes-on : (X : Name) (body : FormulaForm) → list_all (is_part X) (conjuncts body) ≡ true → ((P : FormulaForm → Type 0) → Each P all → Each P (parts_besides X (conjuncts body)))
        → (S T : States) → WithinModel m S T → WithinModel m (joint_step S) (λ t. satisfying m (with_set no_sets X T) (erased_formula body) t)
    goes-on X body e h S T ST t is sat =
        let ρ = with_set no_sets (codes "X") S in
        let got = chain-sat p ρ t (FormulaForm.constant p true) all (onward p) sat in
        conjunction-sat body (with_set no_sets X T) t
        (body-sat X T no_sets ρ t (conjuncts body) e (h (Sat ρ t) got.1) (λ Y. all-within S T ST (codes "X") Y (successors m StepSet.All t) got.2))

    single-sat : (f : FormulaForm) → is_single_invariant f ≡ true → ((P : FormulaForm → Type 0) → Each P all → Each P (parts_of_single f))
        → (s : State) → is_state m s ≡ true → Sat no_sets s (FormulaForm.fixpoint Nu p (joint_variable p) (joint_body p all)) → Sat no_sets s f
    single-sat (FormulaForm.fixpoint Nu q x body) e h s is sat =
        iterate-within joint_step (λ T t. satisfying m (with_set no_sets x.text T) (erased_formula body) t) (goes-on x.text body e h) (state_count m) full s is sat
    single-sat (FormulaForm.fixpoint Mu q x body) e h s is sat = absurd (true≢false (sym e))
    single-sat (FormulaForm.constant q b) e h s is sat = absurd (true≢false (sym e))
    single-sat (FormulaForm.«data» q x) e h s is sat = absurd (true≢false (sym e))
    single-sat (FormulaForm.variable x) e h s is sat = absurd (true≢false (sym e))
    single-sat (FormulaForm.negation q f) e h s is sat = absurd (true≢false (sym e))
    single-sat (FormulaForm.connected c q f g) e h s is sat = absurd (true≢false (sym e))
    single-sat (FormulaForm.modal k q A f) e h s is sat = absurd (true≢false (sym e))

    -- the same of each conjunct
    singles-sat : (fs : List FormulaForm) → list_all is_single_invariant fs ≡ true → ((P : FormulaForm → Type 0) → Each P all → Each P (flat_map parts_of_single fs))
        → (s : State) → is_state m s ≡ true → Sat no_sets s (FormulaForm.fixpoint Nu p (joint_variable p) (joint_body p all)) → Each (Sat no_sets s) fs
    singles-sat [] e h s is sat = tt
    singles-sat (f ∷ fs) e h s is sat =
        let both = and_parts (is_single_invariant f) (list_all is_single_invariant fs) e in (
          single-sat f both.0 (λ P k. (each-split P (parts_of_single f) (flat_map parts_of_single fs) (h P k)).0) s is sat,
          singles-sat fs both.1 (λ P k. (each-split P (parts_of_single f) (flat_map parts_of_single fs) (h P k)).1) s is sat,
        )

pub joint_invariants_hold : JointInvariantsHold
joint_invariants_hold m p fs f inside e sat =
    let s = initial_state m in
    let j = FormulaForm.fixpoint Nu p (joint_variable p) (joint_body p (flat_map parts fs)) in
    let both = and_parts (is_state m s) (satisfying m no_sets (erased_formula j) s) sat in
    let among : (P : FormulaForm → Type 0) → Each P (flat_map parts fs) → Each P (parts f) = λ P k. All-contains (λ (g : FormulaForm). Each P (parts g)) fs f
    (each-all (λ (g : FormulaForm). Each P (parts g)) fs (each-mapped P parts fs k)) inside in
    and_from (is_state m s) (satisfying m no_sets (erased_formula f) s) both.0
    (conjunction-sat m f no_sets s (singles-sat m p (flat_map parts fs) (conjuncts f) e among s both.0 both.1))
