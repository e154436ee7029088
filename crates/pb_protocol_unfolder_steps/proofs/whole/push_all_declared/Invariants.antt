use Rattle.std.proofs.Common.{◌≡◌, ◌++◌, drop, map}
use Rattle.pb_protocol_whole_steps.specs.View.{name_bytes}
use Rattle.pb_protocol_unfolder_steps.specs.WholeSteps.{names_declared}
use Rattle.pb_protocol_unfolder_steps.proofs.whole.push_all_declared.Given as goal

abbrev pub invariant-loop-declaration : goal.invariant-loop-declaration
invariant-loop-declaration l = map name_bytes l.names.items ++ names_declared (drop l.declaration-index l.declarations) ≡ map name_bytes l.initial.names.items ++ names_declared l.declarations
