-- States that stand for states, one by one.
use Rattle.std.proofs.Common.{◌≡◌, ◌∙◌, Bool, true, List, [], ◌∷◌, refl, sym, ap, subst}
use Rattle.pb_model_meaning.specs.Syntax as model
use Rattle.pb_model_meaning.specs.Steps.{State}
use Rattle.pb_model_meaning.specs.Steps as model_steps
use Rattle.pb_protocol_meaning.specs.Syntax.{StepSet, Protocol}
use Rattle.pb_protocol_meaning.specs.Steps.{is_state, initial_state, successors}
use Rattle.pb_protocol_packing.specs.Unpacked as packed_states
use Rattle.pb_protocol_laws.specs.Solved.{itself, AllStandFor, GoesAlong, StandsFor}

all_stand : (protocol : Protocol) (m : model.Model) → ((s : State) → model_steps.is_state m s ≡ is_state protocol s)
    → (ss : List State) → AllStandFor protocol m itself ss ss
all_stand protocol m same [] = tt
all_stand protocol m same (s ∷ ss) = ((same s, λ is. refl), all_stand protocol m same ss)

-- a model with the protocol's states that goes where the protocol goes
pub goes_along : (protocol : Protocol) (m : model.Model) → ((s : State) → model_steps.is_state m s ≡ is_state protocol s)
    → model_steps.initial_state m ≡ initial_state protocol
    → ((s : State) → model_steps.is_state m s ≡ true → model_steps.successors m model.StepSet.All s ≡ successors protocol [] StepSet.All s)
    → GoesAlong protocol m itself
goes_along protocol m same begins goes = record {
  initial = subst (StandsFor protocol m itself (initial_state protocol)) (sym begins) (same (initial_state protocol), λ is. refl);
  successors = λ t is. (
    sym (same t) ∙ is,
    subst (AllStandFor protocol m itself (successors protocol [] StepSet.All t)) (sym (goes t is))
        (all_stand protocol m same (successors protocol [] StepSet.All t)),
  );
}

-- ---- through a model with the protocol's states

pub stands_through : (protocol : Protocol) (m n : model.Model) (says : State → State) (s r t : State) → StandsFor protocol m itself s r → packed_states.StandsFor m n says r t
    → StandsFor protocol n says s t
stands_through protocol m n says s r t (first, to) (second, from) = (second ∙ first, λ is. from is ∙ to (sym second ∙ is))

all_through : (protocol : Protocol) (m n : model.Model) (says : State → State) (ss rs ts : List State) → AllStandFor protocol m itself ss rs → packed_states.AllStandFor m n says rs ts
    → AllStandFor protocol n says ss ts
all_through protocol m n says [] [] [] h k = tt
all_through protocol m n says [] [] (t ∷ ts) h k = absurd k
all_through protocol m n says [] (r ∷ rs) ts h k = absurd h
all_through protocol m n says (s ∷ ss) [] ts h k = absurd h
all_through protocol m n says (s ∷ ss) (r ∷ rs) [] h k = absurd k
all_through protocol m n says (s ∷ ss) (r ∷ rs) (t ∷ ts) (h, hs) (k, ks) =
    (stands_through protocol m n says s r t h k, all_through protocol m n says ss rs ts hs ks)

pub goes_through : (protocol : Protocol) (m n : model.Model) (says : State → State) → GoesAlong protocol m itself
    → packed_states.StandsFor m n says (model_steps.initial_state m) (model_steps.initial_state n)
    → ((t : State) → model_steps.is_state n t ≡ true → model_steps.is_state m (says t) ≡ true)
    → ((t : State) → model_steps.is_state n t ≡ true → packed_states.AllStandFor m n says (model_steps.successors m model.StepSet.All (says t)) (model_steps.successors n model.StepSet.All t))
    → GoesAlong protocol n says
goes_through protocol m n says runs begins states goes = record {
  initial = stands_through protocol m n says (initial_state protocol) (model_steps.initial_state m) (model_steps.initial_state n) runs.initial begins;
  successors = λ t is.
      let from = runs.successors (says t) (states t is) in (
        from.0,
        all_through protocol m n says (successors protocol [] StepSet.All (says t)) (model_steps.successors m model.StepSet.All (says t))
            (model_steps.successors n model.StepSet.All t) from.1 (goes t is),
      );
}
