use Rattle.std.proofs.Common.{◌≡◌, ◌++◌, drop, map}
use Rattle.pb_model_meaning.specs.Steps.{assigned_term}
use Rattle.pb_protocol_packing.specs.Packing.{initial_terms}
use Rattle.pb_protocol_packer.specs.Beginnings.{begun_in}
use Rattle.pb_protocol_packer.specs.Groups.{groups_in}
use Rattle.pb_protocol_packer.specs.Given.{given_in}
use Rattle.pb_protocol_packer.specs.InitialPlaces.{argument_place, group_place}
use Rattle.pb_protocol_packer.proofs.SaidNodes.{terms_behind}
use Rattle.pb_protocol_packer.proofs.initial.initial_terms.Given as goal

-- the terms so far, and those of the groups that are left; so with their places
abbrev pub invariant-loop-group : goal.invariant-loop-group
invariant-loop-group l =
    let new = assigned_term (given_in l.given) in
    let place = group_place (begun_in l.beginnings) l.builder.place in
    record {
      terms : terms_behind l.values.items (initial_terms new (groups_in (drop l.group-index l.groups))) ≡ initial_terms new (groups_in l.groups);
      places : map argument_place l.values.items ++ map place (groups_in (drop l.group-index l.groups)) ≡ map place (groups_in l.groups);
    }
