use Rattle.pb_normal.proofs.Rights.{AreDone}
use Rattle.pb_normal.proofs.normal.normalise.Given as goal

abbrev pub invariant-loop-equation : goal.invariant-loop-equation
invariant-loop-equation l = AreDone l.equation-items l.equation-index l.equations.items
