-- The text at the place passes, or is refused by another fault than that of a limit.
use Rattle.pb_text_tree.specs.Form.{spec_form}
use Rattle.pb_model_properties.proofs.PassingTexts.{limit-passes, other-refuses, typed-passes}
use Rattle.pb_model_properties.proofs.whole.check_text.Goals as goal

pub returns-in-Ok-clause-passes : goal.returns-in-Ok-clause-passes
returns-in-Ok-clause-passes c = λ p at. typed-passes c.args.solved.now p (spec_form c.in-Ok.text.spec) (c.in-Ok.ensures.text p at)

pub returns-in-Err-clause-passes : goal.returns-in-Err-clause-passes
returns-in-Err-clause-passes c = limit-passes c.args.solved.now c.args.place c.in-Err.error c.beyond_limits.result c.beyond_limits.ensures c.in-Err.ensures.refused

pub returns-in-Err-clause-refused : goal.returns-in-Err-clause-refused
returns-in-Err-clause-refused c = other-refuses c.args.solved.now c.args.place c.in-Err.error c.beyond_limits.result c.beyond_limits.ensures c.in-Err.ensures.refused
