use Rattle.std.proofs.Common.{◌≡◌, drop, None}
use Rattle.pb_protocol_unfolder_terms.specs.Scopes.{looked}
use Rattle.pb_protocol_unfolder_terms.proofs.scope.last_value.Given as goal

abbrev pub invariant-loop-place : goal.invariant-loop-place
invariant-loop-place l =
    looked (drop l.place l.variables) (drop l.place l.values) l.name l.found ≡ looked l.variables l.values l.name None
