-- Where the steps stay within a set of states, wider ranges change nothing there.
use Rattle.std.proofs.Common.{◌≡◌, Bool, true, false, not, ◌&&◌, ◌||◌, if◌then◌else◌, List, [], ◌∷◌, filter, flat_map, refl, sym, ap, ◌∙◌}
use Rattle.std.specs.List.{list_any, list_all}
use Rattle.std.proofs.lemmas.Bool.{and_parts, and_from}
use Rattle.std.proofs.lemmas.List.Folds.{list_all-append}
use Rattle.pb_fixpoint.specs.declared.Sign.{Sign}
use Rattle.pb_fixpoint.specs.declared.Sign.TheVariants.{Mu, Nu}
use Rattle.pb_text_meaning.specs.Syntax.{Name, same_name}
use Rattle.pb_model_meaning.specs.Syntax.{Step, StepSet, Formula, Model}
use Rattle.pb_model_meaning.specs.Steps.{State, is_state, initial_state, successors, successors_by, has_step}
use Rattle.pb_model_meaning.specs.Satisfaction.{States, Valuation, with_set, no_sets, is_truth, holds_at, satisfying}
use Rattle.pb_model_meaning.specs.Positive.{IsPositive}
use Rattle.pb_model_meaning.proofs.Fixpoints.{fixpoints_are_extreme}
use Rattle.pb_model_wider_ranges.specs.Wider.{IsSameTest, EachTest, IsInvariant}
use Rattle.pb_model_wider_ranges.specs.Laws.{SameWithoutCuts}
use Rattle.pb_model_meaning.proofs.Same.{chosen}
use Rattle.pb_model_wider_ranges.proofs.Choices.{guarded, same-truth, all-same, any-same}

-- ---- steps of a set are among all

with-one : (b : Bool) (S : States) (g : Step → List State) (a : Step) (steps : List Step) → list_all S (g a) ≡ true → list_all S (flat_map g steps) ≡ true →
    list_all S (flat_map g (if b then a ∷ steps else steps)) ≡ true
with-one true S g a steps h k = list_all-append S (g a) (flat_map g steps) ∙ and_from (list_all S (g a)) (list_all S (flat_map g steps)) h k
with-one false S g a steps h k = k

among-all : (S : States) (g : Step → List State) (p : Step → Bool) (steps : List Step) → list_all S (flat_map g (filter (λ a. true) steps)) ≡ true →
    list_all S (flat_map g (filter p steps)) ≡ true
among-all S g p [] e = refl
among-all S g p (a ∷ steps) e =
    let rest = flat_map g (filter (λ b. true) steps) in
    let parts = and_parts (list_all S (g a)) (list_all S rest) (sym (list_all-append S (g a) rest) ∙ e) in
    with-one (p a) S g a (filter p steps) parts.0 (among-all S g p steps parts.1)

stays : (m : Model) (S : States) → IsInvariant m S → (A : StepSet) (s : State) → S s ≡ true → list_all S (successors m A s) ≡ true
stays m S h A s e = among-all S (successors_by m s) (λ (a : Step). has_step A a.name) m.steps (h.closed s e)

-- ---- fixpoints

-- R and U have the same states of S
abbrev AgreeIn : States → States → States → Type 0
AgreeIn S R U = (s : State) → S s ≡ true → R s ≡ U s

module _ (S : States) (a b : Model) (in_a : (s : State) → S s ≡ true → is_state a s ≡ true) (in_b : (s : State) → S s ≡ true → is_state b s ≡ true)
    (ρ τ : Valuation) (X : Name) (f : Formula)
    (same : (R U : States) → AgreeIn S R U → AgreeIn S (satisfying a (with_set ρ X R) f) (satisfying b (with_set τ X U) f)) where
  abbrev first : Sign → States
  first sign = satisfying a ρ (Formula.Fixpoint sign X f)

  abbrev second : Sign → States
  second sign = satisfying b τ (Formula.Fixpoint sign X f)

  fixpoint-within : (sign : Sign) → IsPositive (Formula.Fixpoint sign X f) → (s : State) → S s ≡ true → first sign s ≡ true → second sign s ≡ true
  fixpoint-within Mu p s e x =
      let of_a = fixpoints_are_extreme a ρ Mu X f p in
      let of_b = fixpoints_are_extreme b τ Mu X f p in
      let R : States = λ i. if S i then second Mu i else true in
      let agree : AgreeIn S R (second Mu) = λ i k. chosen (S i) (second Mu i) true k in
      let larger = of_a.least R (λ i k y. guarded (S i) (second Mu i) (λ l. sym (of_b.fixpoint i (in_b i l)) ∙ sym (same R (second Mu) agree i l) ∙ y)) in
      sym (agree s e) ∙ larger s (in_a s e) x
  fixpoint-within Nu p s e x =
      let of_a = fixpoints_are_extreme a ρ Nu X f p in
      let of_b = fixpoints_are_extreme b τ Nu X f p in
      let R : States = λ i. S i && first Nu i in
      let agree : AgreeIn S (first Nu) R = λ i k. sym (ap (λ c. c && first Nu i) k) in
      let larger = of_b.greatest R (λ i k y.
      let parts = and_parts (S i) (first Nu i) y in sym (same (first Nu) R agree i parts.0) ∙ of_a.fixpoint i (in_a i parts.0) ∙ parts.1) in
      larger s (in_b s e) (and_from (S s) (first Nu s) e x)

-- ---- formulas

module _ (m w : Model) (S : States) (contained : (s : State) → is_state m s ≡ true → is_state w s ≡ true)
    (moves : (A : StepSet) (s : State) → is_state m s ≡ true → successors w A s ≡ successors m A s) (invariant : IsInvariant m S) where
  set-same : (b : Bool) (R U T V : States) → AgreeIn S R U → AgreeIn S T V → AgreeIn S (if b then R else T) (if b then U else V)
  set-same true R U T V h k = h
  set-same false R U T V h k = k

  abbrev AreSameIn : Valuation → Valuation → Type 0
  AreSameIn ρ τ = (X : Name) → AgreeIn S (ρ X) (τ X)

  with_set-same : (ρ τ : Valuation) → AreSameIn ρ τ → (X : Name) (R U : States) → AgreeIn S R U → AreSameIn (with_set ρ X R) (with_set τ X U)
  with_set-same ρ τ h X R U RU Y = set-same (same_name X Y) R U (ρ Y) (τ Y) RU (h Y)

  in_w : (s : State) → S s ≡ true → is_state w s ≡ true
  in_w s e = contained s (invariant.within s e)

  holds-same : (f : Formula) (R U : States) → AgreeIn S R U → (s : State) → S s ≡ true → holds_at m f R s ≡ holds_at w f U s
  holds-same f R U RU s e =
      chosen (is_state m s) (R s) (is_truth f) (invariant.within s e) ∙ RU s e ∙ sym (chosen (is_state w s) (U s) (is_truth f) (in_w s e))

  agree : (f : Formula) → IsPositive f → EachTest (IsSameTest m w) f → (ρ τ : Valuation) → AreSameIn ρ τ → AgreeIn S (satisfying m ρ f) (satisfying w τ f)
  agree (Formula.Truth b) p t ρ τ h s e = refl
  agree (Formula.Data d) p t ρ τ h s e = sym (t s (invariant.within s e))
  agree (Formula.Named X) p t ρ τ h s e = h X s e
  agree (Formula.Not f) p t ρ τ h s e = ap not (agree f p t ρ τ h s e)
  agree (Formula.And f g) p t ρ τ h s e =
      ap (λ b. b && satisfying m ρ g s) (agree f p.0 t.0 ρ τ h s e) ∙ ap (λ b. satisfying w τ f s && b) (agree g p.1 t.1 ρ τ h s e)
  agree (Formula.Or f g) p t ρ τ h s e =
      ap (λ b. b || satisfying m ρ g s) (agree f p.0 t.0 ρ τ h s e) ∙ ap (λ b. satisfying w τ f s || b) (agree g p.1 t.1 ρ τ h s e)
  agree (Formula.Implies f g) p t ρ τ h s e =
      ap (λ b. not b || satisfying m ρ g s) (agree f p.0 t.0 ρ τ h s e) ∙ ap (λ b. not (satisfying w τ f s) || b) (agree g p.1 t.1 ρ τ h s e)
  agree (Formula.Box A f) p t ρ τ h s e =
      all-same _ _ S (holds-same f (satisfying m ρ f) (satisfying w τ f) (agree f p t ρ τ h)) (successors m A s) (stays m S invariant A s e)
      ∙ sym (ap (list_all (holds_at w f (satisfying w τ f))) (moves A s (invariant.within s e)))
  agree (Formula.Diamond A f) p t ρ τ h s e =
      any-same _ _ S (holds-same f (satisfying m ρ f) (satisfying w τ f) (agree f p t ρ τ h)) (successors m A s) (stays m S invariant A s e)
      ∙ sym (ap (list_any (holds_at w f (satisfying w τ f))) (moves A s (invariant.within s e)))
  agree (Formula.Fixpoint sign X f) p t ρ τ h s e =
      let same : (R U : States) → AgreeIn S R U → AgreeIn S (satisfying m (with_set ρ X R) f) (satisfying w (with_set τ X U) f) = λ R U RU.
      agree f p.1 t (with_set ρ X R) (with_set τ X U) (with_set-same ρ τ h X R U RU) in
      same-truth (satisfying m ρ (Formula.Fixpoint sign X f) s) (satisfying w τ (Formula.Fixpoint sign X f) s)
      (fixpoint-within S m w invariant.within in_w ρ τ X f same sign p s e)
      (fixpoint-within S w m in_w invariant.within τ ρ X f (λ R U RU i k. sym (same U R (λ j l. sym (RU j l)) i k)) sign p s e)

pub same-verdict : SameWithoutCuts
same-verdict m w f S wider p invariant =
    let s = initial_state m in
    let e = invariant.initial in
    let of_m = invariant.within s e in
    let of_w = wider.states s of_m in
    ap (λ i. is_state w i && satisfying w no_sets f i) wider.initial ∙ ap (λ b. b && satisfying w no_sets f s) (of_w ∙ sym of_m)
    ∙ ap (λ b. is_state m s && b) (sym (agree m w S wider.states wider.successors invariant f p wider.tests no_sets no_sets (λ X i k. refl) s e))
