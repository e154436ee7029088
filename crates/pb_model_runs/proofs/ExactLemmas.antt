-- The step at a call's place is the one that leads there.
use Rattle.std.proofs.Common.{◌≡◌, Bool, true, false, true≢false, arith, not, ◌||◌, cond, List, [], ◌∷◌, refl, sym, ap, ◌∙◌, subst, inl, inr}
use Rattle.std.specs.Prelude.{Contains, Option, Some, None, MatchOption}
use Rattle.std.specs.List.{find}
use Rattle.std.proofs.lemmas.Bool.{and_parts}
use Rattle.pb_text_tree.specs.declared.place.Place.{Place}
use Rattle.pb_model_tree.specs.Form.{FormulaForm, StepForm, ModelForm}
use Rattle.pb_model_meaning.specs.Erase.{erase, erased_step}
use Rattle.pb_model_meaning.specs.Steps.{State}
use Rattle.pb_typing_calls.specs.Calls.{same_place}
use Rattle.pb_typing_calls.specs.MadeCalls.{MadeCall}
use Rattle.pb_model_runs.specs.Runs.{Leads}
use Rattle.pb_model_runs.specs.Exact.{step_at, formula_places, step_places, is_among, are_apart, stand_apart}
use Rattle.pb_model_runs.specs.Shown.{IsMoveCall}
use Rattle.pb_model_runs.specs.Laws.{TellsJustTheStep}
use Rattle.pb_model_runs.proofs.Elements.{either_of, mapped, some_of, any-of, each-holds}
use Rattle.pb_model_runs.proofs.Places.{same-both}
use Rattle.pb_model_runs.proofs.Told.{calls-are-moves}

not-true : (b : Bool) → not b ≡ true → b ≡ true → ⊥
not-true true e h = true≢false (sym e)
not-true false e h = true≢false (sym h)

find-only : (steps : List StepForm) (a : StepForm) (p : Place) → are_apart (step_places steps) ≡ true → Contains steps a → same_place a.name.place p ≡ true
    → find (λ (b : StepForm). same_place b.name.place p) steps ≡ Some a
find-only [] a p apart among here = absurd (omega (arith, among.1))
find-only (b ∷ steps) a p apart among here = elim (either_of b steps a among) [
  | inl e ↦
      let first : same_place b.name.place p ≡ true = ap (λ (x : StepForm). same_place x.name.place p) e ∙ here in
      ap (λ t. cond t (Some b) (find (λ (x : StepForm). same_place x.name.place p) steps)) first ∙ ap (λ (x : StepForm). Some x) e
  | inr later ↦
      let parts = and_parts (not (is_among (step_places steps) b.name.place)) (are_apart (step_places steps)) apart in
      by (same_place b.name.place p) refl (not-true (is_among (step_places steps) b.name.place) parts.0) later (find-only steps a p parts.1 later here)
]
  where
    by : (t : Bool) → same_place b.name.place p ≡ t → (is_among (step_places steps) b.name.place ≡ true → ⊥) → Contains steps a
        → find (λ (x : StepForm). same_place x.name.place p) steps ≡ Some a → cond t (Some b) (find (λ (x : StepForm). same_place x.name.place p) steps) ≡ Some a
    by true e none later found =
        absurd (none (any-of (λ q. same_place q b.name.place) (step_places steps) a.name.place (mapped (λ (x : StepForm). x.name.place) steps a later) (same-both a.name.place b.name.place p here e)))
    by false e none later found = found

find-none : (steps : List StepForm) (q p : Place) → (is_among (step_places steps) q ≡ true → ⊥) → same_place q p ≡ true
    → find (λ (b : StepForm). same_place b.name.place p) steps ≡ None
find-none [] q p none here = refl
find-none (b ∷ steps) q p none here =
    by (same_place b.name.place p) refl (find-none steps q p (λ later. none (or-behind (same_place b.name.place q) (is_among (step_places steps) q) later)) here)
  where
    or-behind : (x y : Bool) → y ≡ true → (x || y) ≡ true
    or-behind true y e = refl
    or-behind false y e = e

    first : (x y : Bool) → x ≡ true → (x || y) ≡ true
    first true y e = refl
    first false y e = absurd (true≢false (sym e))

    by : (t : Bool) → same_place b.name.place p ≡ t → find (λ (x : StepForm). same_place x.name.place p) steps ≡ None
        → cond t (Some b) (find (λ (x : StepForm). same_place x.name.place p) steps) ≡ None
    by true e found = absurd (none (first (same_place b.name.place q) (is_among (step_places steps) q) (same-both b.name.place q p e here)))
    by false e found = found

-- what a call tells of the step at its place
abbrev Tells : ModelForm → State → MadeCall → Option StepForm → Type 0
Tells m s c o =
    MatchOption o ((c.own ≡ []) × (c.instance.values ≡ s)) (λ a. Leads (erase m) s (erased_step a) c.own c.instance.values)

told-exactly : (m : ModelForm) (f : FormulaForm) (s : State) (c : MadeCall) → stand_apart m f ≡ true → IsMoveCall m f s c → Tells m s c (step_at m c.place)
told-exactly m f s c apart (inl at) =
    let parts = and_parts _ _ apart in
    subst (Tells m s c) (sym (find-only m.steps at.0.step c.place parts.0 at.0.among at.0.named)) at.0.leads
told-exactly m f s c apart (inr stays) =
    let parts = and_parts _ _ apart in
    let found = some_of (λ q. same_place q c.place) (formula_places f) stays.place in
    let new = each-holds (λ q. not (is_among (step_places m.steps) q)) (formula_places f) found.0 parts.1 found.1 in
    subst (Tells m s c) (sym (find-none m.steps found.0 c.place (not-true (is_among (step_places m.steps) found.0) new) found.2)) (stays.own, stays.state)

pub tells-just-the-step : TellsJustTheStep
tells-just-the-step m here f i c names apart within h =
    told-exactly m f i.values c apart (calls-are-moves m here f i c names within h)
