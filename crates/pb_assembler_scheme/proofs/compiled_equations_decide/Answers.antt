use Rattle.pb_assembler_scheme.proofs.Equations.{equations-decide}
use Rattle.pb_assembler_scheme.proofs.compiled_equations_decide.Goals as goal

pub returns : goal.returns
returns c = λ spec typed. equations-decide c.compiled_code_decides.ensures.ended spec typed (c.normal_equations_keep_truth.ensures.well_typed spec typed)
