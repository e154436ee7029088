use Rattle.pb_typing.proofs.Accepted.{accepted-well-typed}
use Rattle.pb_text_meaning.specs.Erase.{erase}
use Rattle.pb_assembler_scheme.proofs.System.{have-answer}
use Rattle.pb_assembler_scheme.proofs.compiled_systems_have_the_answer.Goals as goal

pub returns-clause-well_typed : goal.returns-clause-well_typed
returns-clause-well_typed c = λ spec typed programs compiled trees ends. have-answer spec typed (c.compiled_equations_decide.ensures spec typed) programs compiled trees ends

pub returns-clause-accepted : goal.returns-clause-accepted
returns-clause-accepted c = λ text faultless programs compiled trees ends.
    let typed = accepted-well-typed text faultless in
    have-answer (erase text) typed (c.compiled_equations_decide.ensures (erase text) typed) programs compiled trees ends
