use Rattle.std.proofs.Common.{◌≡◌, ◌++◌, drop, map}
use Rattle.pb_protocol_unfolder.specs.Origins.{origin_place}
use Rattle.pb_model_properties.proofs.told.places_of.Given as goal

-- the places so far, and those that are left
abbrev pub invariant-loop-step : goal.invariant-loop-step
invariant-loop-step l = l.places.items ++ map origin_place (drop l.step-index l.steps) ≡ map origin_place l.steps
