-- The line of one more.
use Rattle.std.proofs.Common.{◌∙◌, ◌+◌, List, ◌++◌, drop, map, ap, arith}
use Rattle.std.specs.Prelude.{flat_map, option_copied, string_bytes}
use Rattle.std.proofs.lemmas.List.{drop_all}
use Rattle.pb_sorts.proofs.Places.{drop-at}
use Rattle.pb_typing_declarations.specs.View.{spec_of}
use Rattle.pb_protocol_tree.specs.declared.protocol.Property.{Property}
use Rattle.pb_protocol_tree.specs.Form.{property_form}
use Rattle.pb_model_sizes.specs.Sizes.{asked_line}
use Rattle.pb_model_sizes.proofs.Lines.{text-in, text-whole}
use Rattle.pb_model_sizes.proofs.property.push_properties.Goals as goal

pub loop-property-preserved : goal.loop-property-preserved
loop-property-preserved c =
    let line = asked_line (spec_of c.args.declarations.now) (option_copied c.args.name) in
    let all = c.args.properties.now in
    let k = c.loop-property.property-index in
    let x = c.property-item.result in
    let lines = string_bytes c.loop-property.lines in
    text-in _ lines (line (property_form x)) (flat_map line (map property_form (drop (k + 1) all))) (string_bytes c.push_asked.new.lines)
    (c.loop-property.invariant ∙ ap (λ (xs : List Property). lines ++ flat_map line (map property_form xs)) (drop-at all k x c.loop-property-test.true c.property-item.is))
    c.in_ok-push_asked.ensures

pub returns : goal.returns
returns c =
    let line = asked_line (spec_of c.args.declarations.now) (option_copied c.args.name) in
    text-whole _ (string_bytes c.loop-property.lines) _ c.loop-property.invariant
    (ap (λ (xs : List Property). flat_map line (map property_form xs)) (drop_all c.loop-property.property-index c.args.properties.now (omega (arith, c.loop-property-test.false))))
