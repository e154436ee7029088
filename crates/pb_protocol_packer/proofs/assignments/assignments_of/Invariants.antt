use Rattle.std.proofs.Common.{◌≡◌, ◌++◌, drop}
use Rattle.pb_model_meaning.specs.Steps.{assigned_term}
use Rattle.pb_protocol_packing.specs.Packing.{assignments_of}
use Rattle.pb_protocol_packer.specs.Groups.{groups_in}
use Rattle.pb_protocol_packer.specs.Given.{given_in}
use Rattle.pb_protocol_packer.specs.Steps.{assignments_in}
use Rattle.pb_protocol_packer.proofs.assignments.assignments_of.Given as goal

-- what is assigned so far, and to the groups that are left
abbrev pub invariant-loop-group : goal.invariant-loop-group
invariant-loop-group l =
    assignments_in l.assignments.items ++ assignments_of (assigned_term (given_in l.given)) (groups_in (drop l.group-index l.groups))
    ≡ assignments_of (assigned_term (given_in l.given)) (groups_in l.groups)
