-- Which states satisfy a formula depends on the sets of its variables at the states of the model alone.
use Rattle.std.proofs.Common.{◌≡◌, ℕ, zero, suc, Bool, true, false, true≢false, not, ◌&&◌, ◌||◌, if◌then◌else◌, List, [], ◌∷◌, refl, sym, ap, ◌∙◌}
use Rattle.std.specs.List.{list_any, list_all}
use Rattle.pb_fixpoint.specs.Solution.{iterate, start}
use Rattle.pb_fixpoint.proofs.Solved.{cond_same}
use Rattle.pb_text_meaning.specs.Syntax.{Name, same_name}
use Rattle.pb_model_meaning.specs.Syntax.{Formula, Model}
use Rattle.pb_model_meaning.specs.Steps.{State, is_state, state_count, successors}
use Rattle.pb_model_meaning.specs.Satisfaction.{States, Valuation, with_set, is_truth, holds_at, satisfying}

-- S and T have the same states of the model
abbrev pub Agree : Model → States → States → Type 0
Agree m S T = (s : State) → is_state m s ≡ true → S s ≡ T s

pub chosen : (b x y : Bool) → b ≡ true → (if b then x else y) ≡ x
chosen true x y e = refl
chosen false x y e = absurd (true≢false (sym e))

module _ (m : Model) where
  pub holds_at-same : (f : Formula) (S T : States) → Agree m S T → (s : State) → holds_at m f S s ≡ holds_at m f T s
  holds_at-same f S T ST s = cond_same (is_state m s) (S s) (T s) (is_truth f) (ST s)

  pub all-same : (p q : State → Bool) → ((s : State) → p s ≡ q s) → (xs : List State) → list_all p xs ≡ list_all q xs
  all-same p q h [] = refl
  all-same p q h (x ∷ xs) = ap (λ b. b && list_all p xs) (h x) ∙ ap (λ b. q x && b) (all-same p q h xs)

  pub any-same : (p q : State → Bool) → ((s : State) → p s ≡ q s) → (xs : List State) → list_any p xs ≡ list_any q xs
  any-same p q h [] = refl
  any-same p q h (x ∷ xs) = ap (λ b. b || list_any p xs) (h x) ∙ ap (λ b. q x || b) (any-same p q h xs)

  pub iterate-same : (g h : States → States) → ((S T : States) → Agree m S T → Agree m (g S) (h T)) →
      (n : ℕ) (S : States) → Agree m (iterate n g S) (iterate n h S)
  iterate-same g h step zero S = λ s e. refl
  iterate-same g h step (suc n) S = step _ _ (iterate-same g h step n S)

  set-same : (b : Bool) (S T U V : States) → Agree m S T → Agree m U V → Agree m (if b then S else U) (if b then T else V)
  set-same true S T U V ST UV = ST
  set-same false S T U V ST UV = UV

  pub with_set-same : (ρ τ : Valuation) → ((Y : Name) → Agree m (ρ Y) (τ Y)) → (X : Name) (S T : States) → Agree m S T →
      (Y : Name) → Agree m (with_set ρ X S Y) (with_set τ X T Y)
  with_set-same ρ τ h X S T ST Y = set-same (same_name X Y) S T (ρ Y) (τ Y) ST (h Y)

  pub satisfying-same : (f : Formula) (ρ τ : Valuation) → ((Y : Name) → Agree m (ρ Y) (τ Y)) → Agree m (satisfying m ρ f) (satisfying m τ f)
  satisfying-same (Formula.Truth b) ρ τ h = λ s e. refl
  satisfying-same (Formula.Data x) ρ τ h = λ s e. refl
  satisfying-same (Formula.Named X) ρ τ h = h X
  satisfying-same (Formula.Not f) ρ τ h = λ s e. ap not (satisfying-same f ρ τ h s e)
  satisfying-same (Formula.And f g) ρ τ h =
      λ s e. ap (λ b. b && satisfying m ρ g s) (satisfying-same f ρ τ h s e) ∙ ap (λ b. satisfying m τ f s && b) (satisfying-same g ρ τ h s e)
  satisfying-same (Formula.Or f g) ρ τ h =
      λ s e. ap (λ b. b || satisfying m ρ g s) (satisfying-same f ρ τ h s e) ∙ ap (λ b. satisfying m τ f s || b) (satisfying-same g ρ τ h s e)
  satisfying-same (Formula.Implies f g) ρ τ h =
      λ s e. ap (λ b. not b || satisfying m ρ g s) (satisfying-same f ρ τ h s e) ∙ ap (λ b. not (satisfying m τ f s) || b) (satisfying-same g ρ τ h s e)
  satisfying-same (Formula.Box A f) ρ τ h =
      λ s e. all-same _ _ (holds_at-same f (satisfying m ρ f) (satisfying m τ f) (satisfying-same f ρ τ h)) (successors m A s)
  satisfying-same (Formula.Diamond A f) ρ τ h =
      λ s e. any-same _ _ (holds_at-same f (satisfying m ρ f) (satisfying m τ f) (satisfying-same f ρ τ h)) (successors m A s)
  satisfying-same (Formula.Fixpoint sign X f) ρ τ h =
      iterate-same (λ S. satisfying m (with_set ρ X S) f) (λ S. satisfying m (with_set τ X S) f)
      (λ S T ST. satisfying-same f (with_set ρ X S) (with_set τ X T) (with_set-same ρ τ h X S T ST))
      (state_count m) (start sign)
