use Rattle.pb_model_run_laws.proofs.FairPattern.{fair_pattern}
use Rattle.pb_model_run_laws.proofs.words.words_are_patterns.Goals as goal

pub returns-clause-fair : goal.returns-clause-fair
returns-clause-fair c = fair_pattern
