use Rattle.pb_module_symmetry.proofs.Symmetric.{reads-numbers}
use Rattle.pb_module_symmetry.proofs.compiled_modules_are_closed.Goals as goal

pub returns : goal.returns
returns c = λ spec typed m h trees ends.
    reads-numbers spec typed m h (c.made_programs_are_the_schemes.ensures spec) (c.compiled_equations_decide.ensures spec typed) trees ends
