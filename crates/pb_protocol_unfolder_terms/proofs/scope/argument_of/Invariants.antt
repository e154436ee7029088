use Rattle.std.proofs.Common.{◌≡◌, drop, None}
use Rattle.pb_protocol_unfolder_terms.specs.Scopes.{looked, argument_said}
use Rattle.pb_protocol_unfolder_terms.proofs.scope.argument_of.Given as goal

abbrev pub invariant-loop-place : goal.invariant-loop-place
invariant-loop-place l =
    looked (drop l.place l.parameters) (drop l.place l.arguments) l.name (argument_said l.found) ≡ looked l.parameters l.arguments l.name None
