-- Places that stay where formulas stay but for their data.
use Rattle.std.proofs.Common.{◌≡◌, List, [], ◌∷◌, ◌++◌, map, refl, sym, ap, ◌∙◌}
use Rattle.pb_text_tree.specs.declared.place.Place.{Place}
use Rattle.pb_text_tree.specs.Form.{Named}
use Rattle.pb_model_tree.specs.declared.step.Step as tree_step
use Rattle.pb_model_tree.specs.declared.model.Property as tree_property
use Rattle.pb_model_tree.specs.Form.{FormulaForm, PropertyForm, step_form, property_form, formula_form}
use Rattle.pb_model_runs.specs.Exact.{formula_places, step_places}
use Rattle.pb_protocol_packer.specs.Formulas.{without_data}
use Rattle.pb_protocol_packer.specs.Properties.{names_of_steps, property_name, property_names, property_shape, property_shapes}

places-kept : (f : FormulaForm) → formula_places (without_data f) ≡ formula_places f
places-kept (FormulaForm.constant p b) = refl
places-kept (FormulaForm.«data» p x) = refl
places-kept (FormulaForm.variable x) = refl
places-kept (FormulaForm.negation p f) = places-kept f
places-kept (FormulaForm.connected c p f g) =
    ap (λ (ps : List Place). ps ++ formula_places (without_data g)) (places-kept f) ∙ ap (λ (ps : List Place). formula_places f ++ ps) (places-kept g)
places-kept (FormulaForm.modal k p A f) = places-kept f
places-kept (FormulaForm.fixpoint sign p x f) = ap (λ (ps : List Place). p ∷ ps) (places-kept f)

pub property-places : (ps : List tree_property.Property) → map (λ (p : PropertyForm). formula_places p.formula) (map property_form ps) ≡ map formula_places (property_shapes ps)
property-places [] = refl
property-places (p ∷ ps) =
    ap (λ (qs : List Place). qs ∷ map (λ (q : PropertyForm). formula_places q.formula) (map property_form ps)) (sym (places-kept (formula_form p.formula)))
    ∙ ap (λ (qs : List (List Place)). formula_places (property_shape p) ∷ qs) (property-places ps)

pub named-properties : (ps : List tree_property.Property) → map (λ (p : PropertyForm). p.name) (map property_form ps) ≡ property_names ps
named-properties [] = refl
named-properties (p ∷ ps) = ap (λ (ns : List Named). property_name p ∷ ns) (named-properties ps)

pub step-places : (ss : List tree_step.Step) → step_places (map step_form ss) ≡ map (λ (n : Named). n.place) (names_of_steps ss)
step-places [] = refl
step-places (s ∷ ss) = ap (λ (ps : List Place). s.name.place ∷ ps) (step-places ss)
