use Rattle.pb_assembler.proofs.Equations.{AreMade}
use Rattle.pb_assembler.proofs.equation.compile_equations.Given as goal

abbrev pub invariant-loop-place : goal.invariant-loop-place
invariant-loop-place l = AreMade l.layout l.texts l.normals l.place l.equations.items
