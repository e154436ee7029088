use Rattle.std.proofs.Common.{◌≡◌, drop, take}
use Rattle.pb_verifier_states.specs.Inhabited.{HaveOrderedEnds}
use Rattle.pb_verifier_states.specs.Join.{hulls}
use Rattle.pb_verifier_states.proofs.Hulls.{prefixed}
use Rattle.pb_verifier_states.proofs.state.widen_all.Given as goal

-- the hulls so far, and those of what is left, are all
abbrev pub invariant-loop-i : goal.invariant-loop-i
invariant-loop-i l = record {
  covered : hulls l.initial.values l.others ≡ prefixed (take l.i l.values) (hulls (drop l.i l.values) (drop l.i l.others));
  ordered : HaveOrderedEnds l.initial.values → HaveOrderedEnds l.others → HaveOrderedEnds l.values;
}
