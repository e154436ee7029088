use Rattle.std.proofs.Common.{◌≡◌, ◌++◌, drop, map}
use Rattle.pb_protocol_whole_steps.specs.View.{name_bytes}
use Rattle.pb_protocol_unfolder_steps.specs.WholeSteps.{enumerator_names}
use Rattle.pb_protocol_unfolder_steps.proofs.whole.push_enumerators.Given as goal

abbrev pub invariant-loop-enumerator : goal.invariant-loop-enumerator
invariant-loop-enumerator l = map name_bytes l.names.items ++ enumerator_names (drop l.enumerator-index l.enumerators) ≡ map name_bytes l.initial.names.items ++ enumerator_names l.enumerators
