use Rattle.pb_typing_declarations.proofs.DeclaredLaw.{declared_within, faultless}
use Rattle.pb_typing_declarations.proofs.laws.no_faults_where_declared.Goals as goal

pub returns : goal.returns
returns c = λ limit text small. (declared_within text small, faultless text)
