-- The lines of a safety property are a run by the steps of its box.
use Rattle.std.proofs.Common.{◌≡◌, Bool, true, false, true≢false, ◌||◌, List, [], ◌∷◌, refl, sym, ap, ◌∙◌, subst, inl, inr}
use Rattle.pb_text_meaning.specs.Erase.{erased_term}
use Rattle.pb_model_tree.specs.Form.{ModelForm}
use Rattle.pb_model_meaning.specs.Syntax as model
use Rattle.pb_model_meaning.specs.Erase.{erase, erased_steps}
use Rattle.pb_model_meaning.specs.Steps.{State, has_step}
use Rattle.pb_model_meaning.specs.Satisfaction.{no_sets, satisfying}
use Rattle.pb_model_runs.specs.Runs.{Move, last_state}
use Rattle.pb_sorts.specs.Instance.{Instance}
use Rattle.pb_typing_calls.specs.MadeCalls.{MadeCall}
use Rattle.pb_model_runs.specs.Shown.{AreSpokenOf, Follows, last_values}
use Rattle.pb_model_runs.specs.Always.{AreBy, IsViolated}
use Rattle.pb_model_runs.specs.Safety.{Safety, safety_form, LinesRefute}
use Rattle.pb_model_runs.proofs.Told.{here-within, lines-are-runs}
use Rattle.pb_model_runs.proofs.AlwaysLemmas.{runs-refute}

or-none : (b : Bool) → (b || false) ≡ true → b ≡ true
or-none true e = refl
or-none false e = absurd (true≢false (sym e))

-- the one modality speaks of the steps of its set alone
by-set : (f : Safety) (path : List Move) → AreSpokenOf (safety_form f) path → AreBy (erased_steps f.steps) path
by-set f [] h = tt
by-set f (x ∷ path) h = (or-none (has_step (erased_steps f.steps) x.name) h.0, by-set f path h.1)

-- a run that follows lines ends where they end
ends-there : (m : ModelForm) (s : State) (i : Instance) (calls : List MadeCall) (path : List Move) → s ≡ i.values → Follows m s calls path → last_state s path ≡ last_values i calls
ends-there m s i [] path same h = ap (λ (q : List Move). last_state s q) h ∙ same
ends-there m s i (c ∷ calls) path same (inl h) =
    let x = h.0 in
    ap (λ (q : List Move). last_state s q) h.2
    ∙ ends-there m x.state c.instance calls h.1 h.3.state (subst (λ (t : State). Follows m t calls h.1) (sym h.3.state) h.4)
ends-there m s i (c ∷ calls) path same (inr h) = ends-there m s c.instance calls path (sym h.1) h.2

pub lines-refute : LinesRefute
lines-refute m here f i calls apart states made fails =
    let shown = lines-are-runs m here (safety_form f) i calls apart states made in
    let d = model.Formula.Data (erased_term f.term) in
    let ends : satisfying (erase m) no_sets d (last_state i.values shown.0) ≡ false =
    ap (satisfying (erase m) no_sets d) (ends-there m i.values i calls shown.0 refl shown.2) ∙ fails in
    let violated : IsViolated (erase m) no_sets (erased_steps f.steps) d i.values =
    record { path = shown.0; run = shown.1; by = by-set f shown.0 shown.3; ends = inr ends } in
    runs-refute (erase m) no_sets (erased_steps f.steps) f.variable.text d i.values (λ S. refl) ((tt, λ e. refl), (tt, tt)) (here-within m i calls states) violated
