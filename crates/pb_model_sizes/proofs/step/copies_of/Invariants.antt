use Rattle.std.proofs.Common.{◌≡◌, ◌+◌, ◌≤◌, drop, map}
use Rattle.pb_typing_declarations.specs.View.{spec_of}
use Rattle.pb_protocol_tree.specs.Form.{step_form}
use Rattle.pb_model_sizes.specs.declared.count.TheConstants.{MAX_COUNT}
use Rattle.pb_model_sizes.specs.Counts.{all_copies, capped}
use Rattle.pb_model_sizes.proofs.step.copies_of.Given as goal

-- the sum so far, with the copies that are left
abbrev pub invariant-loop-step : goal.invariant-loop-step
invariant-loop-step l =
    let spec = spec_of l.declarations in
    record {
      left : capped (all_copies spec (map step_form l.steps)) ≡ capped (l.sum + all_copies spec (map step_form (drop l.step-index l.steps)));
      fits : l.sum ≤ MAX_COUNT;
    }
