use Rattle.pb_verifier_structure.proofs.Walk.{IsFrom, left}
use Rattle.pb_verifier_structure.proofs.bodies.Bodies.is_around.Given as goal

-- what is left are the loops around some place, and the slot is theirs or of none
abbrev pub invariant-loop-around : goal.invariant-loop-around
invariant-loop-around l = IsFrom l.code l.place l.slot l.around

abbrev pub decreases-loop-around : goal.decreases-loop-around
decreases-loop-around l = left l.around
