use Rattle.pb_text_meaning.proofs.Instances.{text_is_solved}
use Rattle.pb_text_meaning.proofs.sets_of_texts_are_extreme_fixpoints.Goals as goal

pub returns : goal.returns
returns c = λ spec X E t positive. text_is_solved spec X E t positive
