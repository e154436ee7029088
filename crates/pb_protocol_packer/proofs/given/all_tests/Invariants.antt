use Rattle.std.proofs.Common.{◌≡◌, ◌++◌, drop}
use Rattle.pb_model_meaning.specs.Steps.{assigned_term}
use Rattle.pb_protocol_packing.specs.Packing.{all_tests}
use Rattle.pb_protocol_packer.specs.Members.{members_said}
use Rattle.pb_protocol_packer.specs.Given.{given_in, terms_in}
use Rattle.pb_protocol_packer.proofs.given.all_tests.Given as goal

abbrev pub invariant-loop-member : goal.invariant-loop-member
invariant-loop-member l =
    terms_in l.tests.items ++ all_tests (assigned_term (given_in l.given)) (members_said (drop l.member-index l.members))
    ≡ all_tests (assigned_term (given_in l.given)) (members_said l.members)
