use Rattle.std.proofs.Common.{◌≡◌, ◌≤◌, ◌++◌, length, map, flat_map, drop}
use Rattle.pb_protocol_unfolder_steps.specs.Elements.{instance_said}
use Rattle.pb_protocol_unfolder_steps.specs.Steps.{is_kept, kept_step, places_from, step_place, step_said}
use Rattle.pb_protocol_unfolder_steps.specs.Unfolder.{protocol_in}
use Rattle.pb_protocol_unfolder_steps.proofs.step.unfold_steps.Given as goal

-- what is still to be added stands behind what is added
abbrev pub invariant-loop-instance : goal.invariant-loop-instance
invariant-loop-instance l =
    let m = protocol_in l.unfolder in
    let left = map instance_said (drop l.instance-index l.instances) in
    record {
      steps : map step_said l.unfolded.steps.items ++ flat_map (kept_step m) left ≡ flat_map (kept_step m) (map instance_said l.instances);
      kept : l.unfolded.kept.items ++ map (is_kept m) left ≡ map (is_kept m) (map instance_said l.instances);
      places : map step_place l.unfolded.steps.items ≡ places_from 0 (length l.unfolded.steps.items);
      count : length l.unfolded.steps.items ≤ l.instance-index;
    }
