use Rattle.pb_model_places.proofs.Kept.{places-tell-steps}
use Rattle.pb_model_places.proofs.places_tell_steps.Goals as goal

pub returns : goal.returns
returns c = places-tell-steps
