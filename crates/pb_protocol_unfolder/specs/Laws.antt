-- What holds of the steps of a protocol that no values make possible.
use Rattle.std.specs.Prelude.{◌≡◌, true, [], Contains}
use Rattle.pb_model_meaning.specs.Steps.{State}
use Rattle.pb_protocol_meaning.specs.Syntax.{Protocol, Step, StepSet}
use Rattle.pb_protocol_meaning.specs.Steps.{successors_by}
use Rattle.pb_protocol_unfolding.specs.Hygiene.{HidesNothing}
use Rattle.pb_protocol_unfolder.specs.Told.{is_impossible}

-- such a step of a protocol leads nowhere from any state
abbrev pub ImpossibleStepsLeadNowhere : Type 0
ImpossibleStepsLeadNowhere =
    (m : Protocol) → HidesNothing m → (a : Step) → Contains m.steps a →
    is_impossible m a ≡ true → (s : State) → successors_by m [] StepSet.All s a ≡ []
