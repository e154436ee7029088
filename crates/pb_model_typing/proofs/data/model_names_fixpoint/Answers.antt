use Rattle.std.proofs.Common.{◌≡◌, ◌+◌, ◌<◌, ◌≤◌, ◌||◌, ◌∙◌, Bool, List, length, get_or, drop, map, sym, ap, arith}
use Rattle.std.specs.List.{list_any}
use Rattle.pb_model_tree.specs.declared.model.Property.{Property}
use Rattle.pb_model_tree.specs.Form.{model_form, property_form}
use Rattle.pb_model_typing.specs.Data.{model_names_fixpoint, property_names_fixpoint}
use Rattle.pb_model_typing.proofs.DataRows.{property-next, property-past, found}
use Rattle.pb_model_typing.proofs.data.model_names_fixpoint.Goals.{After-formula_names_fixpoint}
use Rattle.pb_model_typing.proofs.data.model_names_fixpoint.Goals as goal

-- a property more, and those behind it
next : (c : After-formula_names_fixpoint) → model_names_fixpoint c.args.place (model_form c.args.model.now)
    ≡ (c.formula_names_fixpoint.result || list_any (property_names_fixpoint c.args.place) (map property_form (drop (c.loop-property.property-index + 1) c.args.model.now.properties.items)))
next c =
    let ps = c.args.model.now.properties.items in
    let same = c.deref-property-items.ensures.value in
    let k = c.loop-property.property-index in
    let size = ap (λ (xs : List Property). length xs) same in
    let below : k < length ps = omega arith in
    let rest = list_any (property_names_fixpoint c.args.place) (map property_form (drop (k + 1) ps)) in
    c.loop-property.invariant ∙ property-next c.args.place ps k c.property-item.result below (c.property-item.is ∙ ap (λ (xs : List Property). get_or xs k c.property-item.result) same)
    ∙ ap (λ (b : Bool). b || rest) (sym c.formula_names_fixpoint.ensures)

pub returns-then-formula_names_fixpoint : goal.returns-then-formula_names_fixpoint
returns-then-formula_names_fixpoint c = found _ _ _ (next (goal.at.returns-then-formula_names_fixpoint c).After-formula_names_fixpoint) c.if-formula_names_fixpoint.true

pub loop-property-preserved : goal.loop-property-preserved
loop-property-preserved c =
    let rest = list_any (property_names_fixpoint c.args.place) (map property_form (drop (c.loop-property.property-index + 1) c.args.model.now.properties.items)) in
    next (goal.at.loop-property-preserved c).After-formula_names_fixpoint ∙ ap (λ (b : Bool). b || rest) c.if-formula_names_fixpoint.false

pub returns : goal.returns
returns c =
    let ps = c.args.model.now.properties.items in
    let size = ap (λ (xs : List Property). length xs) c.deref-property-items.ensures.value in
    let past : length ps ≤ c.loop-property.property-index = omega arith in
    sym (c.loop-property.invariant ∙ property-past c.args.place ps c.loop-property.property-index past)
