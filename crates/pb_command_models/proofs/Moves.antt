-- The calls that are told are moves of the protocol.
use Rattle.std.proofs.Common.{◌≡◌, true, List, [], ◌∷◌, ℕ, Option, Some, filter, refl, sym, ap, subst}
use Rattle.std.specs.Prelude.{Contains, MatchOption}
use Rattle.pb_model_tree.specs.Form.{ModelForm, PropertyForm, StepForm}
use Rattle.pb_model_meaning.specs.Erase.{erase, erased_step}
use Rattle.pb_model_meaning.specs.Syntax as model
use Rattle.pb_model_meaning.specs.Steps.{State, successors, successors_by}
use Rattle.pb_model_runs.specs.Exact.{step_at}
use Rattle.pb_model_runs.specs.Runs.{Leads, StepsLeadToSuccessors}
use Rattle.pb_model_runs.proofs.Elements.{of-some}
use Rattle.pb_protocol_meaning.specs.Erase as protocol_text
use Rattle.pb_protocol_laws.specs.SolvedLaws.{MovesAreTheProtocols}
use Rattle.pb_model_properties.specs.Said.{IsModelOf}
use Rattle.pb_command_models.specs.Why.{CallsAreProtocolMoves, CallsAreSteps, state_said}

all_kept : (steps : List model.Step) → filter (λ (a : model.Step). true) steps ≡ steps
all_kept [] = refl
all_kept (a ∷ steps) = ap (λ xs. a ∷ xs) (all_kept steps)

-- what a step leads to is a successor
succeeds : (m : model.Model) (s t : State) (a : model.Step) → Contains m.steps a → Contains (successors_by m s a) t → Contains (successors m model.StepSet.All s) t
succeeds m s t a among is =
    of-some (successors_by m s) (filter (λ (b : model.Step). true) m.steps) a t (subst (λ (xs : List model.Step). Contains xs a) (sym (all_kept m.steps)) among) is

-- what holds of the step at a place
taken : (P : Type 0) (Q : StepForm → Type 0) (o : Option StepForm) (a : StepForm) → o ≡ Some a → MatchOption o P Q → Q a
taken P Q o a at h = subst (λ (x : Option StepForm). MatchOption x P Q) at h

pub calls_are_moves : StepsLeadToSuccessors → MovesAreTheProtocols → (bytes : List ℕ) (m : ModelForm) (said : IsModelOf bytes m) (p : PropertyForm)
    → CallsAreSteps m p → CallsAreProtocolMoves bytes m said p
calls_are_moves lead move bytes m said p steps i c a state made at =
    let leads : Leads (erase m) i.values (erased_step a) c.own c.instance.values =
    taken ((c.own ≡ []) × (c.instance.values ≡ i.values)) (λ (b : StepForm). Leads (erase m) i.values (erased_step b) c.own c.instance.values)
    (step_at m c.place) a at (steps i c state made) in
    move (protocol_text.erase said.protocol) (erase m) (state_said bytes m said) said.is_for.solved.runs i.values c.instance.values state
    (succeeds (erase m) i.values c.instance.values (erased_step a) leads.step (lead (erase m) i.values (erased_step a) c.own c.instance.values leads))
