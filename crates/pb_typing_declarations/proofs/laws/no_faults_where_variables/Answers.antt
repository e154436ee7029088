use Rattle.pb_typing_declarations.proofs.ExactParts.{variables, variables_clear}
use Rattle.pb_typing_declarations.proofs.laws.no_faults_where_variables.Goals as goal

pub returns : goal.returns
returns c = λ S xs ends. (variables S xs ends, variables_clear S xs)
