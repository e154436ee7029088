use Rattle.pb_text_meaning.specs.Erase.{erase}
use Rattle.pb_assembler_modules.proofs.Modules.{module_accepted}
use Rattle.pb_assembler_modules.proofs.laws.compiled_modules_are_accepted.Goals as goal

pub returns-clause-well_typed : goal.returns-clause-well_typed
returns-clause-well_typed c = λ spec typed m h limits. module_accepted spec m h (c.compiled_equations_are_accepted.ensures.well_typed spec typed) limits

pub returns-clause-accepted : goal.returns-clause-accepted
returns-clause-accepted c = λ text faultless m h limits. module_accepted (erase text) m h (c.compiled_equations_are_accepted.ensures.accepted text faultless) limits
