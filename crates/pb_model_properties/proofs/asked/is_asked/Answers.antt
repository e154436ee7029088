use Rattle.std.proofs.Common.{◌≡◌, ◌∙◌, length, ap, arith}
use Rattle.std.proofs.lemmas.List.{length-map}
use Rattle.std.specs.Prelude.{string_bytes}
use Rattle.pb_typing_declarations.specs.Faults.{is_among}
use Rattle.pb_model_tree.specs.Form.{property_form}
use Rattle.pb_model_properties.proofs.AskedNames.{asked_some, texts_of}
use Rattle.pb_model_properties.proofs.asked.is_asked.Goals as goal

pub returns : goal.returns
returns c =
    let names = texts_of c.args.names.now in
    let many = length-map c.args.names.now string_bytes in
    let some : length names ≡ 0 → ⊥ = grind (arith, c.is_empty.ensures, c.if-is_empty.false, many) in
    asked_some names (property_form c.args.property.now) c.contains.result some
    (c.contains.ensures ∙ (c.requires c.as_str.result.now ∙ ap (is_among names) c.as_str.ensures.value))
