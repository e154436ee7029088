use Rattle.std.proofs.Common.{◌≡◌, ◌++◌, drop, flat_map}
use Rattle.pb_model_invariants.specs.Invariants.{parts}
use Rattle.pb_model_invariants.specs.Links.{forms_in}
use Rattle.pb_model_invariants.proofs.joint.joint_invariant.Given as goal

abbrev pub invariant-loop-invariant : goal.invariant-loop-invariant
invariant-loop-invariant l = forms_in l.parts.items ++ flat_map parts (forms_in (drop l.invariant-index l.invariants)) ≡ flat_map parts (forms_in l.invariants)
