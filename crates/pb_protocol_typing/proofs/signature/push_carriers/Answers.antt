use Rattle.std.proofs.Common.{◌≡◌, ◌++◌, ◌∙◌, List, map, sym, ap}
use Rattle.pb_text_tree.specs.declared.name.Name.{Name}
use Rattle.pb_text_tree.specs.Form.{named}
use Rattle.pb_typing_declarations.specs.Entries.{carrier_shape}
use Rattle.pb_typing_declarations.specs.Shapes.{Shape, sort_shape}
use Rattle.pb_typing_declarations.specs.View.{spec_of}
use Rattle.pb_protocol_typing.proofs.Groups.{group-shapes}
use Rattle.pb_protocol_typing.proofs.signature.push_carriers.Goals as goal

pub loop-name-init : goal.loop-name-init
loop-name-init c =
    let spec = spec_of c.args.declarations.now in
    let g = c.args.group.now in
    let shape = carrier_shape c.carrier-carrier.result in
    let is : shape ≡ sort_shape spec (named g.sort).text = c.carrier-carrier.ensures.shape ∙ ap (sort_shape spec) c.deref.ensures in
    ap (λ (hs : List Shape). map carrier_shape c.args.carriers.now.items ++ hs)
    (group-shapes spec (named g.sort) g.names.items
    ∙ (ap (λ (h : Shape). map (λ (n : Name). h) g.names.items) (sym is) ∙ ap (map (λ (n : Name). shape)) (sym c.deref-name-items.ensures.value)))
