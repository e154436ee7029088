use Rattle.std.proofs.Common.{◌∙◌}
use Rattle.pb_assembler.proofs.initial.initial.Goals as goal

pub returns-clause-equation : goal.returns-clause-equation
returns-clause-equation c = c.copy_place-equation.ensures.same ∙ c.args.normal.now.typed.now.asked.equation
