use Rattle.std.proofs.Common.{drop, ◌+◌}
use Rattle.std.specs.Prelude.{string_bytes}
use Rattle.pb_model_properties.proofs.AskedNames.{has_each, has_more, has_none, name-at, names-past, names_of}
use Rattle.pb_model_properties.proofs.asked.set_of_properties.Goals as goal

pub loop-property-init : goal.loop-property-init
loop-property-init c = has_none (names_of c.args.properties.now) c.new-set.result c.new-set.ensures.empty

pub loop-property-preserved : goal.loop-property-preserved
loop-property-preserved c =
    let ps = c.args.properties.now in
    let k = c.loop-property.property-index in
    let x = c.property-item.result in
    has_more (names_of ps) c.loop-property.set c.insert.new.self c.as_str.result (string_bytes x.name.text) (names_of (drop k ps)) (names_of (drop (k + 1) ps))
    c.in_ok-insert.ensures.updates c.as_str.ensures.value (name-at ps k x c.loop-property-test.true c.property-item.is) c.loop-property.invariant

pub returns : goal.returns
returns c =
    has_each (names_of c.args.properties.now) c.loop-property.set (names_of (drop c.loop-property.property-index c.args.properties.now))
    (names-past c.args.properties.now c.loop-property.property-index c.loop-property-test.false) c.loop-property.invariant
