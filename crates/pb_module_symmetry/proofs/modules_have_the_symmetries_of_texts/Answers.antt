use Rattle.pb_module_symmetry.proofs.Symmetric.{symmetric}
use Rattle.pb_module_symmetry.proofs.modules_have_the_symmetries_of_texts.Goals as goal

pub returns : goal.returns
returns c = λ spec typed m h trees ends f keeps s.
    symmetric spec typed m h (c.made_programs_are_the_schemes.ensures spec) (c.compiled_equations_decide.ensures spec typed) trees ends f keeps s
