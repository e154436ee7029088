-- The property that is taken out stands alone.
use Rattle.std.proofs.Common.{◌≡◌, ◌∙◌, ◌++◌, List, [], ◌∷◌, Some, map, ap, sym}
use Rattle.std.specs.Prelude.{option_map}
use Rattle.std.proofs.lemmas.Option.{slice_get-map, slice_get-get_or}
use Rattle.pb_protocol_tree.specs.Form.{PropertyForm, ProtocolForm, property_form, protocol_form}
use Rattle.pb_model_properties.proofs.read.with_property.Goals as goal

pub returns : goal.returns
returns c p stands =
    let items = c.args.protocol.properties.items in
    let property = c.swap_remove-property.result in
    let at = slice_get-map property_form items c.args.place
    ∙ ap (option_map property_form) (slice_get-get_or items c.args.place property c.requires ∙ ap Some (sym c.swap_remove-property.ensures.value)) in
    let both : Some (property_form property) ≡ Some p = sym at ∙ stands in
    let same : property_form property ≡ p = cc both in
    let pushed : c.push.new.self.items ≡ [] ++ property ∷ [] = c.in_ok-push.ensures.items ∙ ap (λ xs. xs ++ property ∷ []) c.new-alone.ensures.items in
    ap (λ (ps : List PropertyForm). record (protocol_form c.args.protocol) { properties = ps })
    (ap (map property_form) pushed ∙ ap (λ (x : PropertyForm). x ∷ []) same)
