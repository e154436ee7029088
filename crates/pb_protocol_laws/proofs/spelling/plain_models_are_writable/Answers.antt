use Rattle.pb_protocol_laws.proofs.PlainWords.{plain-writable}
use Rattle.pb_protocol_laws.proofs.spelling.plain_models_are_writable.Goals as goal

pub returns : goal.returns
returns c = λ m is. plain-writable m is.steps_count_nothing is.initial_counts_nothing
