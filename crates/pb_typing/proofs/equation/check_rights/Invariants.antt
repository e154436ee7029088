use Rattle.pb_typing_declarations.specs.View.{spec_of}
use Rattle.pb_typing.proofs.Equations.{AreDone}
use Rattle.pb_typing.proofs.equation.check_rights.Given as goal

abbrev pub invariant-loop-place : goal.invariant-loop-place
invariant-loop-place l = AreDone (spec_of l.declarations) l.equation-items l.place l.equations.items
