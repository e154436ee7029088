-- The formula at the next place.
use Rattle.std.proofs.Common.{◌∙◌, ◌++◌, ◌+◌, ◌∷◌, [], drop, get_or, map, ap, sym}
use Rattle.std.proofs.lemmas.List.{map-append}
use Rattle.pb_model_tree.specs.declared.model.Property.{Property}
use Rattle.pb_model_tree.specs.Form.{formula_form, property_form}
use Rattle.pb_model_invariants.specs.Links.{form_by, forms_in}
use Rattle.pb_model_properties.specs.Joint.{formulas_at}
use Rattle.pb_model_properties.proofs.Places.{property_at}
use Rattle.pb_model_properties.proofs.JointTexts.{next-formula, one-more}
use Rattle.pb_model_properties.proofs.joint.formulas_at.Goals as goal

pub loop-place-preserved : goal.loop-place-preserved
loop-place-preserved c =
    let ps = c.args.properties.now in
    let places = c.args.places.now in
    let i = c.loop-place.place-index in
    let x = c.index-properties-place.result in
    let before = c.loop-place.formulas.items in
    let there = property_at ps (get_or places i 0) x (c.requires i 0 c.loop-place-test.true) c.index-properties-place.is in
    one-more (forms_in before) (forms_in c.push.new.self.items) (formula_form x.formula) (formulas_at (map property_form ps) (drop (i + 1) places)) (formulas_at (map property_form ps) places)
    (formulas_at (map property_form ps) (drop i places))
    (ap forms_in c.in_ok-push.ensures.items ∙ (map-append form_by before (_ ∷ [])
    ∙ ap (λ (p : Property). forms_in before ++ formula_form p.formula ∷ []) (sym c.index-properties-place.is)))
    (next-formula (map property_form ps) places i (property_form x) c.loop-place-test.true there) c.loop-place.invariant
