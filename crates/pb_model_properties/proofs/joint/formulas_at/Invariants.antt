use Rattle.std.proofs.Common.{◌≡◌, ◌++◌, drop, map}
use Rattle.pb_model_tree.specs.Form.{property_form}
use Rattle.pb_model_invariants.specs.Links.{forms_in}
use Rattle.pb_model_properties.specs.Joint.{formulas_at}
use Rattle.pb_model_properties.proofs.joint.formulas_at.Given as goal

-- the formulas so far, and those of the places that are left
abbrev pub invariant-loop-place : goal.invariant-loop-place
invariant-loop-place l =
    forms_in l.formulas.items ++ formulas_at (map property_form l.properties) (drop l.place-index l.places) ≡ formulas_at (map property_form l.properties) l.places
