use Rattle.std.proofs.Common.{rules, arith, map}
use Rattle.std.proofs.lemmas.Grind.{common_steps}
use Rattle.pb_protocol_tree.specs.Form.{property_form}
use Rattle.pb_protocol_unfolder_steps.specs.Unfolder.{form_in}
use Rattle.pb_protocol_unfolder.specs.Faults.{IsFaultOfProperties, IsFaultOfProperty}
use Rattle.pb_protocol_unfolder.proofs.FaultLemmas.{at-item, part-by}
use Rattle.pb_protocol_unfolder.proofs.PlaceLemmas.{property-added}
use Rattle.pb_protocol_unfolder.proofs.property.unfold_properties.Goals as goal

pub loop-property-preserved : goal.loop-property-preserved
loop-property-preserved c = record {
  properties = first_of (search rules, grind (arith, common_steps));
  names = first_of (search rules, grind (arith, common_steps));
  places = property-added c.args.properties.now c.loop-property.property-index c.property-item.result c.loop-property.unfolded.items c.push.new.self.items c.in_ok-unfold_property.field-0
      c.loop-property-test.true c.property-item.is c.in_ok-push.ensures.items c.in_ok-unfold_property.ensures.places c.loop-property.invariant.places;
}

pub returns-in_err-unfold_property-clause-refused : goal.returns-in_err-unfold_property-clause-refused
returns-in_err-unfold_property-clause-refused c =
    let m = form_in c.args.formulas.now in
    let ps = c.args.properties.now in
    let q = c.property-item.result in
    part-by c.from_residual.result c.in_err-unfold_property.field-0.0 (IsFaultOfProperty m (property_form q)) (IsFaultOfProperties m (map property_form ps)) c.from_residual.ensures.1
    (λ p is. (property_form q, at-item property_form ps c.loop-property.property-index q c.loop-property-test.true c.property-item.is, is)) c.in_err-unfold_property.ensures.refused
