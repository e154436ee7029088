use Rattle.std.proofs.Common.{◌∙◌, ◌++◌, List, map, refl, sym}
use Rattle.pb_model_meaning.specs.Steps.{assigned_term}
use Rattle.pb_protocol_packing.specs.Packing.{initial_terms}
use Rattle.pb_protocol_packer.specs.declared.group.Group.{Group}
use Rattle.pb_protocol_packer.specs.Beginnings.{begun_in}
use Rattle.pb_protocol_packer.specs.Groups.{groups_in}
use Rattle.pb_protocol_packer.specs.Given.{given_in}
use Rattle.pb_protocol_packer.specs.InitialPlaces.{argument_place, group_place}
use Rattle.pb_protocol_packer.proofs.LoopRows.{loop-ends, loop-goes, row-ends, row-pushed, terms-pushed}
use Rattle.pb_protocol_packer.proofs.SaidNodes.{terms_behind, terms-behind-none}
use Rattle.pb_protocol_packer.proofs.initial.initial_terms.Goals as goal

pub loop-group-preserved : goal.loop-group-preserved
loop-group-preserved c =
    let old = c.loop-group.values.items in
    let place = group_place (begun_in c.args.beginnings.now) c.args.builder.place in
    record {
      terms = loop-goes (λ (gs : List Group). terms_behind old (initial_terms (assigned_term (given_in c.args.given.now)) (groups_in gs))) c.args.groups.now
          c.loop-group.group-index c.group-item.result _ _ c.loop-group-test.true c.group-item.is
          (terms-pushed _ _ _ _ _ c.in_ok-push.ensures.items c.in_ok-term.ensures) c.loop-group.invariant.terms;
      places = loop-goes (λ (gs : List Group). map argument_place old ++ map place (groups_in gs)) c.args.groups.now
          c.loop-group.group-index c.group-item.result _ _ c.loop-group-test.true c.group-item.is
          (row-pushed argument_place _ old _ _ _ c.in_ok-push.ensures.items c.group_place-place.ensures) c.loop-group.invariant.places;
    }

pub returns : goal.returns
returns c =
    let made = c.loop-group.values.items in
    let place = group_place (begun_in c.args.beginnings.now) c.args.builder.place in
    record {
      terms = sym (terms-behind-none made)
          ∙ loop-ends (λ (gs : List Group). terms_behind made (initial_terms (assigned_term (given_in c.args.given.now)) (groups_in gs))) c.args.groups.now
          c.loop-group.group-index _ c.loop-group-test.false c.loop-group.invariant.terms;
      places = row-ends (λ (gs : List Group). map place (groups_in gs)) (map argument_place made) c.args.groups.now
          c.loop-group.group-index _ refl c.loop-group-test.false c.loop-group.invariant.places;
    }
