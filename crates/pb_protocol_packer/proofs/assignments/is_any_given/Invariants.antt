use Rattle.std.proofs.Common.{◌≡◌, drop}
use Rattle.std.specs.List.{list_any}
use Rattle.pb_model_meaning.specs.Steps.{assigned_term}
use Rattle.pb_protocol_packer.specs.Members.{members_said}
use Rattle.pb_protocol_packer.specs.Given.{given_in, is_given}
use Rattle.pb_protocol_packer.proofs.assignments.is_any_given.Given as goal

abbrev pub invariant-loop-member : goal.invariant-loop-member
invariant-loop-member l =
    list_any (is_given (assigned_term (given_in l.given))) (members_said (drop l.member-index l.members))
    ≡ list_any (is_given (assigned_term (given_in l.given))) (members_said l.members)
