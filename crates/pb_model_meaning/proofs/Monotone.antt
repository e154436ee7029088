-- Larger sets for the variables that are positive in a formula make more states satisfy it.
use Rattle.std.proofs.Common.{◌≡◌, ℕ, zero, suc, Bool, true, false, not, ◌&&◌, ◌||◌, ◌⊎◌, inl, inr, if◌then◌else◌, List, [], ◌∷◌, refl, sym, subst, true≢false}
use Rattle.std.specs.List.{list_any, list_all}
use Rattle.std.proofs.lemmas.Bool.{and_parts, and_from, or_cases, or_left, or_right}
use Rattle.std.specs.Cmp.Lexicographic.{same_text}
use Rattle.std.proofs.lemmas.Slice.Eq.{bytes_eq-Decides}
use Rattle.pb_fixpoint.specs.Solution.{iterate, start}
use Rattle.pb_text_meaning.specs.Syntax.{Name, same_name}
use Rattle.pb_model_meaning.specs.Syntax.{Formula, Model}
use Rattle.pb_model_meaning.specs.Steps.{State, is_state, state_count, successors}
use Rattle.pb_model_meaning.specs.Satisfaction.{States, Valuation, with_set, is_truth, holds_at, satisfying}
use Rattle.pb_model_meaning.specs.Positive.{IsPositiveIn, IsPositive}
use Rattle.pb_model_meaning.specs.Laws.{WithinModel}

-- x is at most y
abbrev Below : Bool → Bool → Type 0
Below x y = x ≡ true → y ≡ true

not-below : (x y : Bool) → Below y x → Below (not x) (not y)
not-below true y h e = absurd (true≢false (sym e))
not-below false true h e = absurd (true≢false (sym (h refl)))
not-below false false h e = refl

all-below : (p q : State → Bool) → ((s : State) → Below (p s) (q s)) → (xs : List State) → Below (list_all p xs) (list_all q xs)
all-below p q h [] e = e
all-below p q h (x ∷ xs) e =
    let parts = and_parts (p x) (list_all p xs) e in and_from (q x) (list_all q xs) (h x parts.0) (all-below p q h xs parts.1)

any-below : (p q : State → Bool) → ((s : State) → Below (p s) (q s)) → (xs : List State) → Below (list_any p xs) (list_any q xs)
any-below p q h [] e = e
any-below p q h (x ∷ xs) e =
    elim (or_cases (p x) (list_any p xs) e) [
      | inl here ↦ or_left (q x) (list_any q xs) (h x here)
      | inr later ↦ or_right (q x) (list_any q xs) (any-below p q h xs later)
    ]

chosen-below : (b x y z : Bool) → (b ≡ true → Below x y) → Below (if b then x else z) (if b then y else z)
chosen-below true x y z h = h refl
chosen-below false x y z h = λ e. e

module _ (m : Model) where
  and-within : (S T U V : States) → WithinModel m S U → WithinModel m T V → WithinModel m (λ s. S s && T s) (λ s. U s && V s)
  and-within S T U V SU TV s e x =
      let parts = and_parts (S s) (T s) x in and_from (U s) (V s) (SU s e parts.0) (TV s e parts.1)

  or-within : (S T U V : States) → WithinModel m S U → WithinModel m T V → WithinModel m (λ s. S s || T s) (λ s. U s || V s)
  or-within S T U V SU TV s e x =
      elim (or_cases (S s) (T s) x) [ inl l ↦ or_left (U s) (V s) (SU s e l) | inr r ↦ or_right (U s) (V s) (TV s e r) ]

  not-within : (S T : States) → WithinModel m T S → WithinModel m (λ s. not (S s)) (λ s. not (T s))
  not-within S T TS s e = not-below (S s) (T s) (TS s e)

  holds_at-below : (f : Formula) (S T : States) → WithinModel m S T → (s : State) → Below (holds_at m f S s) (holds_at m f T s)
  holds_at-below f S T ST s = chosen-below (is_state m s) (S s) (T s) (is_truth f) (ST s)

  pub iterate-within : (g h : States → States) → ((S T : States) → WithinModel m S T → WithinModel m (g S) (h T)) →
      (n : ℕ) (S : States) → WithinModel m (iterate n g S) (iterate n h S)
  iterate-within g h step zero S = λ s e x. x
  iterate-within g h step (suc n) S = step _ _ (iterate-within g h step n S)

  -- S is at most T, or the other way round
  abbrev Ordered : Bool → States → States → Type 0
  Ordered true S T = WithinModel m S T
  Ordered false S T = WithinModel m T S

  -- two sets for X, either equal or ordered as X stands in f
  abbrev pub Related : Formula → Name → States → States → Type 0
  Related f X S T = (WithinModel m S T × WithinModel m T S) ⊎ ((even : Bool) × IsPositiveIn X even f × Ordered even S T)

  part : (f g : Formula) (X : Name) → ((even : Bool) → IsPositiveIn X even f → IsPositiveIn X even g) →
      (S T : States) → Related f X S T → Related g X S T
  part f g X h S T (inl w) = inl w
  part f g X h S T (inr (even, positive, w)) = inr (even, h even positive, w)

  turned : (f g : Formula) (X : Name) → ((even : Bool) → IsPositiveIn X even f → IsPositiveIn X (not even) g) →
      (S T : States) → Related f X S T → Related g X T S
  turned f g X h S T (inl w) = inl (w.1, w.0)
  turned f g X h S T (inr (true, positive, w)) = inr (false, h true positive, w)
  turned f g X h S T (inr (false, positive, w)) = inr (true, h false positive, w)

  named : (X : Name) (S T : States) → Related (Formula.Named X) X S T → WithinModel m S T
  named X S T (inl w) = w.0
  named X S T (inr (true, positive, w)) = w
  named X S T (inr (false, positive, w)) = absurd (true≢false (sym (positive ((bytes_eq-Decides X X).1 refl))))

  pub set-related : (b : Bool) (f : Formula) (Y : Name) (S T U V : States) → (b ≡ true → Related f Y S T) → (b ≡ false → Related f Y U V) →
      Related f Y (if b then S else U) (if b then T else V)
  set-related true f Y S T U V h k = h refl
  set-related false f Y S T U V h k = k refl

  pub inner : (f : Formula) (X Y : Name) (S T : States) → IsPositiveIn X true f → WithinModel m S T → same_name X Y ≡ true → Related f Y S T
  inner f X Y S T positive w e = inr (true, subst (λ (Z : Name). IsPositiveIn Z true f) (same_text X Y (sym e)) positive, w)

  pub satisfying-within : (f : Formula) → IsPositive f → (ρ τ : Valuation) → ((X : Name) → Related f X (ρ X) (τ X)) → WithinModel m (satisfying m ρ f) (satisfying m τ f)
  satisfying-within (Formula.Truth b) p ρ τ h = λ s e x. x
  satisfying-within (Formula.Data x) p ρ τ h = λ s e y. y
  satisfying-within (Formula.Named X) p ρ τ h = named X (ρ X) (τ X) (h X)
  satisfying-within (Formula.Not f) p ρ τ h =
      let below = satisfying-within f p τ ρ (λ X. turned (Formula.Not f) f X (λ even r. r) (ρ X) (τ X) (h X)) in
      not-within (satisfying m ρ f) (satisfying m τ f) below
  satisfying-within (Formula.And f g) p ρ τ h =
      let left = satisfying-within f p.0 ρ τ (λ X. part (Formula.And f g) f X (λ even r. r.0) (ρ X) (τ X) (h X)) in
      let right = satisfying-within g p.1 ρ τ (λ X. part (Formula.And f g) g X (λ even r. r.1) (ρ X) (τ X) (h X)) in
      and-within (satisfying m ρ f) (satisfying m ρ g) (satisfying m τ f) (satisfying m τ g) left right
  satisfying-within (Formula.Or f g) p ρ τ h =
      let left = satisfying-within f p.0 ρ τ (λ X. part (Formula.Or f g) f X (λ even r. r.0) (ρ X) (τ X) (h X)) in
      let right = satisfying-within g p.1 ρ τ (λ X. part (Formula.Or f g) g X (λ even r. r.1) (ρ X) (τ X) (h X)) in
      or-within (satisfying m ρ f) (satisfying m ρ g) (satisfying m τ f) (satisfying m τ g) left right
  satisfying-within (Formula.Implies f g) p ρ τ h =
      let left = satisfying-within f p.0 τ ρ (λ X. turned (Formula.Implies f g) f X (λ even r. r.0) (ρ X) (τ X) (h X)) in
      let right = satisfying-within g p.1 ρ τ (λ X. part (Formula.Implies f g) g X (λ even r. r.1) (ρ X) (τ X) (h X)) in
      or-within (λ s. not (satisfying m ρ f s)) (satisfying m ρ g) (λ s. not (satisfying m τ f s)) (satisfying m τ g)
      (not-within (satisfying m ρ f) (satisfying m τ f) left) right
  satisfying-within (Formula.Box A f) p ρ τ h =
      let below = satisfying-within f p ρ τ (λ X. part (Formula.Box A f) f X (λ even r. r) (ρ X) (τ X) (h X)) in
      λ s e. all-below _ _ (holds_at-below f (satisfying m ρ f) (satisfying m τ f) below) (successors m A s)
  satisfying-within (Formula.Diamond A f) p ρ τ h =
      let below = satisfying-within f p ρ τ (λ X. part (Formula.Diamond A f) f X (λ even r. r) (ρ X) (τ X) (h X)) in
      λ s e. any-below _ _ (holds_at-below f (satisfying m ρ f) (satisfying m τ f) below) (successors m A s)
  satisfying-within (Formula.Fixpoint sign X f) p ρ τ h =
      iterate-within (λ S. satisfying m (with_set ρ X S) f) (λ S. satisfying m (with_set τ X S) f)
      (λ S T w. satisfying-within f p.1 (with_set ρ X S) (with_set τ X T)
      (λ Y. set-related (same_name X Y) f Y S T (ρ Y) (τ Y) (inner f X Y S T p.0 w)
      (λ apart. part (Formula.Fixpoint sign X f) f Y (λ even r. r apart) (ρ Y) (τ Y) (h Y))))
      (state_count m) (start sign)
