use Rattle.std.proofs.Common.{◌≡◌, ◌≤◌, ◌+◌, drop, length}
use Rattle.pb_protocol_unfolding.specs.Unfolding.{most_written}
use Rattle.pb_protocol_unfolder_terms.specs.View.{spec_of}
use Rattle.pb_protocol_unfolder_steps.specs.WholeSteps.{tuples_of_steps}
use Rattle.pb_protocol_unfolder_steps.proofs.whole.are_many.Given as goal

-- what is still to be counted, beside what is
abbrev pub invariant-loop-step : goal.invariant-loop-step
invariant-loop-step l = record {
  counted : l.count + length (tuples_of_steps (spec_of l.sorts) (drop l.step-index l.steps)) ≡ length (tuples_of_steps (spec_of l.sorts) l.steps);
  few : l.count ≤ most_written;
}
