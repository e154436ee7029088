-- A formula's truth hangs on the sets of its free variables alone.
use Rattle.std.proofs.Common.{◌≡◌, ℕ, zero, suc, Bool, true, false, true≢false, not, ◌&&◌, ◌||◌, if◌then◌else◌, refl, sym, ap, ◌∙◌}
use Rattle.std.specs.List.{list_any, list_all}
use Rattle.std.proofs.lemmas.Slice.Eq.{bytes_eq-Decides}
use Rattle.pb_fixpoint.specs.Solution.{iterate, start}
use Rattle.pb_text_meaning.specs.Syntax.{Name, same_name}
use Rattle.pb_model_meaning.specs.Syntax.{Formula, Model}
use Rattle.pb_model_meaning.specs.Steps.{state_count, successors}
use Rattle.pb_model_meaning.specs.Satisfaction.{States, Valuation, holds_at, satisfying, with_set}
use Rattle.pb_model_runs.proofs.Elements.{or-here, or-later}
use Rattle.pb_model_run_laws.specs.Free.{is_free, NotFreeIsWithout}

-- ρ and τ have the same sets for the free variables of f
abbrev AgreeOn : Formula → Valuation → Valuation → Type 0
AgreeOn f ρ τ = (X : Name) → is_free X f ≡ true → ρ X ≡ τ X

iterated : (g h : States → States) → ((S : States) → g S ≡ h S) → (n : ℕ) (S : States) → iterate n g S ≡ iterate n h S
iterated g h same zero S = refl
iterated g h same (suc n) S = same (iterate n g S) ∙ ap h (iterated g h same n S)

chosen : (b c : Bool) (S U V : States) → c ≡ true → ((not b && c) ≡ true → U ≡ V) → (if b then S else U) ≡ (if b then S else V)
chosen true c S U V e same = refl
chosen false c S U V e same = same e

under : (Y : Name) (f : Formula) (ρ τ : Valuation) (S : States) → ((X : Name) → (not (same_name Y X) && is_free X f) ≡ true → ρ X ≡ τ X) → AgreeOn f (with_set ρ Y S) (with_set τ Y S)
under Y f ρ τ S h X e = chosen (same_name Y X) (is_free X f) S (ρ X) (τ X) e (h X)

module _ (m : Model) where
  agreeing : (f : Formula) (ρ τ : Valuation) → AgreeOn f ρ τ → satisfying m ρ f ≡ satisfying m τ f
  agreeing (Formula.Truth b) ρ τ h = refl
  agreeing (Formula.Data x) ρ τ h = refl
  agreeing (Formula.Named X) ρ τ h = h X ((bytes_eq-Decides X X).1 refl)
  agreeing (Formula.Not f) ρ τ h = ap {B = States} (λ (F : States) s. not (F s)) (agreeing f ρ τ h)
  agreeing (Formula.And f g) ρ τ h =
      ap {B = States} (λ (F : States) s. F s && satisfying m ρ g s) (agreeing f ρ τ (λ X e. h X (or-here (is_free X f) (is_free X g) e)))
      ∙ ap {B = States} (λ (G : States) s. satisfying m τ f s && G s) (agreeing g ρ τ (λ X e. h X (or-later (is_free X f) (is_free X g) e)))
  agreeing (Formula.Or f g) ρ τ h =
      ap {B = States} (λ (F : States) s. F s || satisfying m ρ g s) (agreeing f ρ τ (λ X e. h X (or-here (is_free X f) (is_free X g) e)))
      ∙ ap {B = States} (λ (G : States) s. satisfying m τ f s || G s) (agreeing g ρ τ (λ X e. h X (or-later (is_free X f) (is_free X g) e)))
  agreeing (Formula.Implies f g) ρ τ h =
      ap {B = States} (λ (F : States) s. not (F s) || satisfying m ρ g s) (agreeing f ρ τ (λ X e. h X (or-here (is_free X f) (is_free X g) e)))
      ∙ ap {B = States} (λ (G : States) s. not (satisfying m τ f s) || G s) (agreeing g ρ τ (λ X e. h X (or-later (is_free X f) (is_free X g) e)))
  agreeing (Formula.Box A f) ρ τ h = ap {B = States} (λ (F : States) s. list_all (holds_at m f F) (successors m A s)) (agreeing f ρ τ h)
  agreeing (Formula.Diamond A f) ρ τ h = ap {B = States} (λ (F : States) s. list_any (holds_at m f F) (successors m A s)) (agreeing f ρ τ h)
  agreeing (Formula.Fixpoint sign Y f) ρ τ h =
      iterated (λ S. satisfying m (with_set ρ Y S) f) (λ S. satisfying m (with_set τ Y S) f)
      (λ S. agreeing f (with_set ρ Y S) (with_set τ Y S) (under Y f ρ τ S h)) (state_count m) (start sign)

pub not-free-is-without : NotFreeIsWithout
not-free-is-without m ρ X f bound S = agreeing m f (with_set ρ X S) ρ (λ Y free. by Y free (same_name X Y) refl)
  where
    by : (Y : Name) → is_free Y f ≡ true → (b : Bool) → same_name X Y ≡ b → (if b then S else ρ Y) ≡ ρ Y
    by Y free false e = refl
    by Y free true e = let same : X ≡ Y = (bytes_eq-Decides X Y).0 e in absurd (true≢false (sym free ∙ ap (λ (Z : Name). is_free Z f) (sym same) ∙ bound))
