use Rattle.std.proofs.Common.{◌≡◌, ◌++◌, drop, map}
use Rattle.std.specs.Prelude.{filter}
use Rattle.pb_model_tree.specs.Form.{property_form}
use Rattle.pb_model_properties.specs.Joint.{is_invariant_at}
use Rattle.pb_model_properties.proofs.joint.invariants_among.Given as goal

-- those so far, and those among the places that are left
abbrev pub invariant-loop-place : goal.invariant-loop-place
invariant-loop-place l =
    l.found.items ++ filter (is_invariant_at (map property_form l.properties)) (drop l.place-index l.places) ≡ filter (is_invariant_at (map property_form l.properties)) l.places
