use Rattle.std.proofs.Common.{◌≡◌, ◌++◌, drop, map}
use Rattle.pb_model_invariants.specs.Invariants.{placed_at}
use Rattle.pb_model_invariants.specs.Links.{forms_in, link_forms}
use Rattle.pb_model_invariants.proofs.joint.links.Given as goal

abbrev pub invariant-loop-part : goal.invariant-loop-part
invariant-loop-part l = link_forms l.links.items ++ map (placed_at l.place) (forms_in (drop l.part-index l.parts)) ≡ map (placed_at l.place) (forms_in l.parts)
