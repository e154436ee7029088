use Rattle.pb_verifier_structure.proofs.Nests.{HasNested}
use Rattle.pb_verifier_structure.proofs.bodies.Bodies.of.Given as goal

abbrev pub invariant-loop-place : goal.invariant-loop-place
invariant-loop-place l = HasNested l.code l.place l.innermost.items l.around l.depth
