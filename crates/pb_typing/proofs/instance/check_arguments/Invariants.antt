use Rattle.pb_typing.proofs.FormulaSteps.{AreLeft}
use Rattle.pb_typing.proofs.instance.check_arguments.Given as goal

abbrev pub invariant-loop-index : goal.invariant-loop-index
invariant-loop-index l = AreLeft l.context l.arguments l.carriers l.index l.checked.items
