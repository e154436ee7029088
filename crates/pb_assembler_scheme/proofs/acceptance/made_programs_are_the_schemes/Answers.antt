use Rattle.pb_assembler_scheme.proofs.TextEquations.{program_made}
use Rattle.pb_assembler_scheme.proofs.acceptance.made_programs_are_the_schemes.Goals as goal

pub returns : goal.returns
returns c = program_made
