use Rattle.pb_assembler_scheme.proofs.Weights.{code_long, steps_weighed, tokens_weighed}
use Rattle.pb_assembler_scheme.proofs.acceptance.programs_weigh_as_pieces.Goals as goal

pub returns : goal.returns
returns c = record { instructions = code_long; steps = steps_weighed; tokens = tokens_weighed }
