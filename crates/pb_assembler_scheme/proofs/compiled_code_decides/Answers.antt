use Rattle.pb_assembler_scheme.proofs.Whole.{decides, ended-decides}
use Rattle.pb_assembler_scheme.proofs.compiled_code_decides.Goals as goal

pub returns-clause-faultless : goal.returns-clause-faultless
returns-clause-faultless c = λ spec p f tuple compiled full declares fit ok. decides spec p f tuple compiled full declares fit ok

pub returns-clause-ended : goal.returns-clause-ended
returns-clause-ended c = λ spec p f tuple tree compiled full declares fit ended. ended-decides spec p f tuple compiled full declares fit c.tokens_determine_tree.ensures tree ended
