use Rattle.pb_model_spelling.proofs.Walk.{has_property}
use Rattle.pb_model_spelling.proofs.read_models_have_properties.Goals as goal

pub returns : goal.returns
returns c = has_property
