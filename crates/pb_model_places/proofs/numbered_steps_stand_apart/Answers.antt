use Rattle.pb_model_places.proofs.Kept.{numbered-steps-stand-apart}
use Rattle.pb_model_places.proofs.numbered_steps_stand_apart.Goals as goal

pub returns : goal.returns
returns c = numbered-steps-stand-apart
