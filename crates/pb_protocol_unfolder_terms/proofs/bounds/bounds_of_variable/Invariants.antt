use Rattle.std.proofs.Common.{◌≡◌}
use Rattle.pb_protocol_unfolder_terms.specs.Contexts.{spec_in}
use Rattle.pb_protocol_unfolder_terms.proofs.BoundsLemmas.{variables-from}
use Rattle.pb_protocol_unfolder_terms.proofs.bounds.bounds_of_variable.Given as goal

abbrev pub invariant-loop-place : goal.invariant-loop-place
invariant-loop-place l = l.bounds ≡ variables-from (spec_in l.context) l.of_plain l.context.variables.items l.name l.place
