use Rattle.std.proofs.Common.{◌≡◌, drop}
use Rattle.pb_protocol_packer.specs.Beginnings.{begun_in}
use Rattle.pb_protocol_packer.specs.InitialPlaces.{place_sought}
use Rattle.pb_protocol_packer.specs.Members.{members_said}
use Rattle.pb_protocol_packer.proofs.initial_place.place_sought.Given as goal

abbrev pub invariant-loop-member : goal.invariant-loop-member
invariant-loop-member l =
    place_sought l.sought (begun_in l.beginnings) (members_said (drop l.member-index l.members)) ≡ place_sought l.sought (begun_in l.beginnings) (members_said l.members)
