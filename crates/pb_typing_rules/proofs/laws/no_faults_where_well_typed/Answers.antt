use Rattle.pb_typing_rules.proofs.WellTypedLemmas.{well_typed, faultless}
use Rattle.pb_typing_rules.proofs.laws.no_faults_where_well_typed.Goals as goal

pub returns : goal.returns
returns c = λ limit text small. (well_typed text small, faultless text)
