use Rattle.std.proofs.Common.{◌≡◌, ◌++◌, drop, map, string_bytes}
use Rattle.pb_protocol_unfolder.specs.Origins.{origin_name}
use Rattle.pb_model_properties.proofs.told.names_of.Given as goal

-- the names so far, and those that are left
abbrev pub invariant-loop-step : goal.invariant-loop-step
invariant-loop-step l = map string_bytes l.names.items ++ map origin_name (drop l.step-index l.steps) ≡ map origin_name l.steps
