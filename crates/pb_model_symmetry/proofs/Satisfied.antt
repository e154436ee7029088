-- A state satisfies a formula exactly where its image under a symmetry does.
use Rattle.std.proofs.Common.{◌≡◌, ℕ, zero, suc, Bool, true, false, not, ◌&&◌, ◌||◌, if◌then◌else◌, refl, sym, ap, ◌∙◌}
use Rattle.std.specs.List.{list_any, list_all}
use Rattle.pb_fixpoint.specs.declared.Sign.{Sign}
use Rattle.pb_fixpoint.specs.declared.Sign.TheVariants.{Mu, Nu}
use Rattle.pb_fixpoint.specs.Solution.{iterate, start}
use Rattle.pb_fixpoint.proofs.Solved.{cond_same}
use Rattle.pb_text_tree.specs.declared.operator.Quantifier.TheVariants.{Forall, Exists}
use Rattle.pb_text_meaning.specs.Syntax.{Name, same_name}
use Rattle.pb_model_meaning.specs.Syntax.{StepSet, Formula, Model}
use Rattle.pb_model_meaning.specs.Steps.{State, is_state, state_count, successors}
use Rattle.pb_model_meaning.specs.Satisfaction.{States, Valuation, with_set, is_truth, holds_at, satisfying}
use Rattle.pb_model_meaning.proofs.Same.{all-same, any-same}
use Rattle.pb_model_translation.proofs.Lists.{of_list-map}
use Rattle.pb_model_symmetry.specs.Symmetry.{seen, KeepsSteps, Follow, KeepsFormula, OfWhole, OfNot, OfAnd, OfOr, OfImplies, OfBox, OfDiamond, OfFixpoint}
use Rattle.pb_model_symmetry.specs.Laws.{SatisfactionIsInvariant}

pub two : (o : Bool → Bool → Bool) (x y x' y' : Bool) → x ≡ x' → y ≡ y' → o x y ≡ o x' y'
two o x y x' y' p q = ap (λ b. o b y) p ∙ ap (o x') q

module _ (m : Model) (f : State → State) (states : (s : State) → is_state m (f s) ≡ is_state m s) where
  -- all successors of the image, where those of the state are read in its place
  pub all-carried : (A : StepSet) → KeepsSteps m f A → (S : States) (b : Bool) (p q : State → Bool) → ((r : State) → p r ≡ seen m S b r) → ((r : State) → p (f r) ≡ q r) →
      (s : State) → is_state m s ≡ true → list_all p (successors m A (f s)) ≡ list_all q (successors m A s)
  all-carried A keeps S b p q see h s e =
      all-same m p (seen m S b) see (successors m A (f s)) ∙ ((keeps s e S b).0 ∙ (of_list-map Forall (seen m S b) f (successors m A s) ∙
      all-same m (λ r. seen m S b (f r)) q (λ r. sym (see (f r)) ∙ h r) (successors m A s)))

  pub any-carried : (A : StepSet) → KeepsSteps m f A → (S : States) (b : Bool) (p q : State → Bool) → ((r : State) → p r ≡ seen m S b r) → ((r : State) → p (f r) ≡ q r) →
      (s : State) → is_state m s ≡ true → list_any p (successors m A (f s)) ≡ list_any q (successors m A s)
  any-carried A keeps S b p q see h s e =
      any-same m p (seen m S b) see (successors m A (f s)) ∙ ((keeps s e S b).1 ∙ (of_list-map Exists (seen m S b) f (successors m A s) ∙
      any-same m (λ r. seen m S b (f r)) q (λ r. sym (see (f r)) ∙ h r) (successors m A s)))

  abbrev Follows : States → States → Type 0
  Follows S T = (s : State) → is_state m s ≡ true → T (f s) ≡ S s

  held-kept : (g : Formula) (S T : States) → Follows S T → (r : State) → holds_at m g T (f r) ≡ holds_at m g S r
  held-kept g S T h r =
      ap (λ b. if b then T (f r) else is_truth g) (states r) ∙ cond_same (is_state m r) (T (f r)) (S r) (is_truth g) (h r)

  start-follows : (sign : Sign) → Follows (start sign) (start sign)
  start-follows Mu s e = refl
  start-follows Nu s e = refl

  iterate-follows : (g h : States → States) → ((S T : States) → Follows S T → Follows (g S) (h T)) → (n : ℕ) (S T : States) → Follows S T → Follows (iterate n g S) (iterate n h T)
  iterate-follows g h step zero S T ST = ST
  iterate-follows g h step (suc n) S T ST = step _ _ (iterate-follows g h step n S T ST)

  with-follows : (ρ τ : Valuation) → Follow m f ρ τ → (X : Name) (S T : States) → Follows S T → Follow m f (with_set ρ X S) (with_set τ X T)
  with-follows ρ τ h X S T ST Y = by (same_name X Y)
    where
      by : (b : Bool) → Follows (if b then S else ρ Y) (if b then T else τ Y)
      by true = ST
      by false = h Y

  pub follows : (g : Formula) → KeepsFormula m f g → (ρ τ : Valuation) → Follow m f ρ τ → (s : State) → is_state m s ≡ true → satisfying m τ g (f s) ≡ satisfying m ρ g s
  follows _ (OfWhole g k) ρ τ h s e = k.same ρ τ h s e
  follows _ (OfNot g k) ρ τ h s e = ap not (follows g k ρ τ h s e)
  follows _ (OfAnd g i k l) ρ τ h s e = two (λ x y. x && y) _ _ _ _ (follows g k ρ τ h s e) (follows i l ρ τ h s e)
  follows _ (OfOr g i k l) ρ τ h s e = two (λ x y. x || y) _ _ _ _ (follows g k ρ τ h s e) (follows i l ρ τ h s e)
  follows _ (OfImplies g i k l) ρ τ h s e = two (λ x y. not x || y) _ _ _ _ (follows g k ρ τ h s e) (follows i l ρ τ h s e)
  follows _ (OfBox A g k l) ρ τ h s e =
      all-carried A k (satisfying m τ g) (is_truth g) _ _ (λ r. refl) (held-kept g (satisfying m ρ g) (satisfying m τ g) (follows g l ρ τ h)) s e
  follows _ (OfDiamond A g k l) ρ τ h s e =
      any-carried A k (satisfying m τ g) (is_truth g) _ _ (λ r. refl) (held-kept g (satisfying m ρ g) (satisfying m τ g) (follows g l ρ τ h)) s e
  follows _ (OfFixpoint sign X g k) ρ τ h s e =
      iterate-follows (λ S. satisfying m (with_set ρ X S) g) (λ T. satisfying m (with_set τ X T) g)
      (λ S T ST. follows g k (with_set ρ X S) (with_set τ X T) (with-follows ρ τ h X S T ST))
      (state_count m) (start sign) (start sign) (start-follows sign) s e

pub invariant : SatisfactionIsInvariant
invariant m g f sym-of ρ τ h s e = follows m f sym-of.states g sym-of.formula ρ τ h s e
