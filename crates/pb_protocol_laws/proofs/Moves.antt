-- A state to which a model goes stands for one to which the protocol goes.
use Rattle.std.proofs.Common.{◌≡◌, true, List, [], ◌∷◌, ◌++◌}
use Rattle.std.specs.Prelude.{All, Contains}
use Rattle.std.proofs.lemmas.List.Elements.{All-cons, All-contains, All-nil, All-weaker, Contains-append_left, Contains-append_right, Contains-push}
use Rattle.pb_model_meaning.specs.Syntax as model
use Rattle.pb_model_meaning.specs.Steps.{State}
use Rattle.pb_model_meaning.specs.Steps as model_steps
use Rattle.pb_protocol_meaning.specs.Syntax.{Protocol, StepSet}
use Rattle.pb_protocol_meaning.specs.Steps.{successors}
use Rattle.pb_protocol_laws.specs.Solved.{AllStandFor, StandsFor}
use Rattle.pb_protocol_laws.specs.SolvedLaws.{MovesAreTheProtocols}

abbrev IsMet : Protocol → model.Model → (State → State) → List State → State → Type 0
IsMet protocol m says ss t = (s : State) × Contains ss s × StandsFor protocol m says s t

all_met : (protocol : Protocol) (m : model.Model) (says : State → State) (ss ts : List State) → AllStandFor protocol m says ss ts → All (IsMet protocol m says ss) ts
all_met protocol m says [] [] h = All-nil (IsMet protocol m says [])
all_met protocol m says [] (t ∷ ts) h = absurd h
all_met protocol m says (s ∷ ss) [] h = absurd h
all_met protocol m says (s ∷ ss) (t ∷ ts) (h, hs) =
    All-cons (IsMet protocol m says (s ∷ ss)) t ts (s, Contains-append_left (s ∷ []) ss s (Contains-push [] s), h)
    (All-weaker (IsMet protocol m says ss) (IsMet protocol m says (s ∷ ss)) (λ u met. (met.0, Contains-append_right (s ∷ []) ss met.0 met.1, met.2)) ts
    (all_met protocol m says ss ts hs))

pub moves_are_the_protocols : MovesAreTheProtocols
moves_are_the_protocols protocol m says along s t is among =
    let ss = successors protocol [] StepSet.All (says s) in
    let ts = model_steps.successors m model.StepSet.All s in
    All-contains (IsMet protocol m says ss) ts t (all_met protocol m says ss ts (along.successors s is).1) among
