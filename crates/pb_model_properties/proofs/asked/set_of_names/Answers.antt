use Rattle.pb_model_properties.proofs.AskedNames.{has_each, has_more, has_none, text-at, texts-past, texts_of}
use Rattle.std.proofs.Common.{drop, ◌+◌}
use Rattle.std.specs.Prelude.{string_bytes}
use Rattle.pb_model_properties.proofs.asked.set_of_names.Goals as goal

pub loop-name-init : goal.loop-name-init
loop-name-init c = has_none (texts_of c.args.names.now) c.new-set.result c.new-set.ensures.empty

pub loop-name-preserved : goal.loop-name-preserved
loop-name-preserved c =
    let xs = c.args.names.now in
    let k = c.loop-name.name-index in
    let x = c.name-item.result in
    has_more (texts_of xs) c.loop-name.set c.insert.new.self c.as_str.result (string_bytes x) (texts_of (drop k xs)) (texts_of (drop (k + 1) xs)) c.in_ok-insert.ensures.updates
    c.as_str.ensures.value (text-at xs k x c.loop-name-test.true c.name-item.is) c.loop-name.invariant

pub returns : goal.returns
returns c =
    has_each (texts_of c.args.names.now) c.loop-name.set (texts_of (drop c.loop-name.name-index c.args.names.now))
    (texts-past c.args.names.now c.loop-name.name-index c.loop-name-test.false) c.loop-name.invariant
