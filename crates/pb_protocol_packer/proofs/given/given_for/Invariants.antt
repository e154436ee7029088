use Rattle.std.proofs.Common.{◌≡◌, drop}
use Rattle.pb_model_meaning.specs.Steps.{assigned_term}
use Rattle.pb_protocol_packer.specs.Given.{given_in}
use Rattle.pb_protocol_packer.proofs.given.given_for.Given as goal

abbrev pub invariant-loop-assigned : goal.invariant-loop-assigned
invariant-loop-assigned l = assigned_term (given_in (drop l.assigned-index l.given)) l.name ≡ assigned_term (given_in l.given) l.name
