use Rattle.pb_model_spelling.proofs.Texts.{translation_said}
use Rattle.pb_model_spelling.proofs.translations_can_be_said.Goals as goal

pub returns : goal.returns
returns c = translation_said
