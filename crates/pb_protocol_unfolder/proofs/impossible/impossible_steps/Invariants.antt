use Rattle.std.proofs.Common.{◌≡◌, ◌++◌, map, drop, string_bytes}
use Rattle.pb_protocol_unfolder_steps.specs.Unfolder.{protocol_in}
use Rattle.pb_protocol_unfolder.proofs.ImpossibleLemmas.{kept_of, names_of}
use Rattle.pb_protocol_unfolder.proofs.impossible.impossible_steps.Given as goal

-- what is kept of the steps that are still to come, whose names stand behind those so far
abbrev pub invariant-loop-step : goal.invariant-loop-step
invariant-loop-step l = record {
  kept : l.rest ≡ kept_of (protocol_in l.unfolder) (drop l.step-index l.step-items);
  names : map string_bytes l.names.items ++ names_of (protocol_in l.unfolder) (drop l.step-index l.step-items) ≡ names_of (protocol_in l.unfolder) l.step-items;
}
