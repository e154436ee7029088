use Rattle.std.proofs.Common.{◌≡◌, ◌++◌, drop, map}
use Rattle.pb_protocol_packing.specs.Packing.{packed_step}
use Rattle.pb_protocol_packer.specs.Groups.{groups_in}
use Rattle.pb_protocol_packer.specs.Properties.{erased_step_list, names_of_steps}
use Rattle.pb_protocol_packer.proofs.properties.packed_steps.Given as goal

abbrev pub invariant-loop-step : goal.invariant-loop-step
invariant-loop-step l =
    (erased_step_list l.packed.items ++ map (packed_step (groups_in l.groups)) (erased_step_list (drop l.step-index l.steps)) ≡ map (packed_step (groups_in l.groups)) (erased_step_list l.steps))
    × (names_of_steps l.packed.items ++ names_of_steps (drop l.step-index l.steps) ≡ names_of_steps l.steps)
