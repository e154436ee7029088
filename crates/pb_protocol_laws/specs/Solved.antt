-- The model that is solved in a protocol's place: it satisfies each property exactly where the
-- protocol does, and it goes where the protocol goes.
use Rattle.std.specs.Prelude.{◌≡◌, true, ⊤, List, [], ◌∷◌}
use Rattle.pb_model_meaning.specs.Syntax as model
use Rattle.pb_model_meaning.specs.Steps.{State}
use Rattle.pb_model_meaning.specs.Steps as model_steps
use Rattle.pb_model_meaning.specs.Satisfaction as model_satisfaction
use Rattle.pb_model_meaning.specs.Erase as model_text
use Rattle.pb_model_tree.specs.Form as model_form
use Rattle.pb_model_tree.specs.Form.{ModelForm}
use Rattle.pb_protocol_tree.specs.Form.{PropertyForm, ProtocolForm}
use Rattle.pb_protocol_meaning.specs.Syntax.{StepSet, Protocol}
use Rattle.pb_protocol_meaning.specs.Steps.{is_state, initial_state, successors}
use Rattle.pb_protocol_meaning.specs.Satisfaction as protocol_satisfaction
use Rattle.pb_protocol_meaning.specs.Erase.{erase, erased_formula}

-- ---- properties

-- the property has the name of the protocol's, at the same place, and the model satisfies it
-- exactly where the protocol satisfies that one
pub record IsSameProperty (protocol : ProtocolForm) (m : ModelForm) (p : PropertyForm)
    (q : model_form.PropertyForm) : Type 0 where
  pub name : q.name ≡ p.name
  pub satisfied :
      model_satisfaction.satisfies (model_text.erase m) (model_text.erased_formula q.formula)
      ≡ protocol_satisfaction.satisfies (erase protocol) (erased_formula p.formula)

-- and so of two lists, one by one
abbrev pub AreSameProperties :
    ProtocolForm → ModelForm → List PropertyForm → List model_form.PropertyForm → Type 0
AreSameProperties protocol m [] [] = ⊤
AreSameProperties protocol m (p ∷ ps) (q ∷ qs) =
    IsSameProperty protocol m p q × AreSameProperties protocol m ps qs
AreSameProperties protocol m [] (q ∷ qs) = ⊥
AreSameProperties protocol m (p ∷ ps) [] = ⊥

-- ---- states

-- a state that says itself
abbrev pub itself : State → State
itself s = s

-- t is a state of the model where s is one of the protocol, and then s is what t says
abbrev pub StandsFor : Protocol → model.Model → (State → State) → State → State → Type 0
StandsFor protocol m says s t =
    (model_steps.is_state m t ≡ is_state protocol s)
    × (model_steps.is_state m t ≡ true → says t ≡ s)

-- and so of two lists, one by one
abbrev pub AllStandFor :
    Protocol → model.Model → (State → State) → List State → List State → Type 0
AllStandFor protocol m says [] [] = ⊤
AllStandFor protocol m says (s ∷ ss) (t ∷ ts) =
    StandsFor protocol m says s t × AllStandFor protocol m says ss ts
AllStandFor protocol m says [] (t ∷ ts) = ⊥
AllStandFor protocol m says (s ∷ ss) [] = ⊥

-- The model begins with a state that stands for the protocol's initial state; and where it goes
-- from one of its states stands for where the protocol goes from the state that it says.
pub record GoesAlong (protocol : Protocol) (m : model.Model) (says : State → State)
    : Type 0 where
  pub initial : StandsFor protocol m says (initial_state protocol) (model_steps.initial_state m)
  pub successors :
      (t : State) → model_steps.is_state m t ≡ true →
      (is_state protocol (says t) ≡ true) ×
      AllStandFor protocol m says (successors protocol [] StepSet.All (says t))
      (model_steps.successors m model.StepSet.All t)

-- ---- models

-- The model is solved in the protocol's place, and each state of it says one of the protocol's.
pub record IsSolvedFor (protocol : ProtocolForm) (m : ModelForm) (says : State → State)
    : Type 0 where
  pub properties : AreSameProperties protocol m protocol.properties m.properties
  pub runs : GoesAlong (erase protocol) (model_text.erase m) says
