use Rattle.std.proofs.Common.{◌≡◌, drop, take}
use Rattle.pb_verifier_states.specs.Inhabited.{LoopsHaveOrderedEnds}
use Rattle.pb_verifier_states.specs.Join.{loop_hulls}
use Rattle.pb_verifier_states.proofs.Hulls.{prefixed_loops}
use Rattle.pb_verifier_states.proofs.state.widen_loops.Given as goal

-- the hulls so far, and those of what is left, are all
abbrev pub invariant-loop-i : goal.invariant-loop-i
invariant-loop-i l = record {
  covered : loop_hulls l.initial.loops l.others ≡ prefixed_loops (take l.i l.loops) (loop_hulls (drop l.i l.loops) (drop l.i l.others));
  ordered : LoopsHaveOrderedEnds l.initial.loops → LoopsHaveOrderedEnds l.others → LoopsHaveOrderedEnds l.loops;
}
