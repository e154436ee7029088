use Rattle.pb_typing.proofs.Accepted.{accepted-well-typed}
use Rattle.pb_text_meaning.specs.Erase.{erase}
use Rattle.pb_assembler_modules.proofs.Modules.{says_the_same}
use Rattle.pb_assembler_modules.proofs.laws.compiled_modules_have_the_answer.Goals as goal

pub returns-clause-well_typed : goal.returns-clause-well_typed
returns-clause-well_typed c = λ spec typed m h trees ends. says_the_same spec m h typed (c.made_programs_are_the_schemes.ensures spec) (c.compiled_equations_decide.ensures spec typed) trees ends

pub returns-clause-accepted : goal.returns-clause-accepted
returns-clause-accepted c = λ text faultless m h trees ends.
    let typed = accepted-well-typed text faultless in
    says_the_same (erase text) m h typed (c.made_programs_are_the_schemes.ensures (erase text)) (c.compiled_equations_decide.ensures (erase text) typed) trees ends
