-- Properties that are invariants, and the text of what they say together.
use Rattle.std.specs.Prelude.{◌≡◌, ℕ, Bool, true, false, List, [], ◌∷◌, filter, flat_map, codes}
use Rattle.std.specs.Prelude.{Some}
use Rattle.std.specs.List.{All, slice_get}
use Rattle.std.specs.Option.{option_map_or}
use Rattle.pb_text_tree.specs.Form.{spec_form}
use Rattle.pb_model_tree.specs.Form.{FormulaForm, ModelForm, PropertyForm}
use Rattle.pb_model_invariants.specs.Invariants.{is_invariant, joint}
use Rattle.pb_model_properties.specs.declared.joint.JointText.{JointText}
use Rattle.pb_model_properties.specs.Said.{tree_satisfies, IsTextOf}

abbrev pub formula_in : PropertyForm → List FormulaForm
formula_in p = p.formula ∷ []

-- the formulas of the properties at these places
abbrev pub formulas_at : List PropertyForm → List ℕ → List FormulaForm
formulas_at properties places =
    flat_map (λ (place : ℕ). option_map_or formula_in (slice_get properties place) []) places

abbrev pub says_invariant : PropertyForm → Bool
says_invariant p = is_invariant p.formula

-- whether the property at a place is an invariant
abbrev pub is_invariant_at : List PropertyForm → ℕ → Bool
is_invariant_at properties place =
    option_map_or says_invariant (slice_get properties place) false

-- what these formulas say together, as a property whose parts stand at `init`
abbrev pub joint_property : ModelForm → List FormulaForm → PropertyForm
joint_property model fs = record {
  name = record { place = model.initial.place; text = codes "X" };
  formula = joint model.initial.place fs;
}

-- that of the properties at these places
abbrev pub joint_property_at : ModelForm → List ℕ → PropertyForm
joint_property_at model places = joint_property model (formulas_at model.properties places)

-- the model satisfies the property at a place, if one is there
abbrev pub IsSatisfiedAt : ModelForm → ℕ → Type 0
IsSatisfiedAt model place =
    (p : PropertyForm) → slice_get model.properties place ≡ Some p
    → tree_satisfies model p.formula ≡ true

-- The text of what those of these properties say together that are invariants. Where the model
-- satisfies it, it satisfies each of them.
pub record IsJointText (model : ModelForm) (places : List ℕ) (joint : JointText) : Type 0 where
  pub among : joint.places.items ≡ filter (is_invariant_at model.properties) places
  pub text : IsTextOf model (joint_property_at model joint.places.items) (spec_form joint.text.spec)
  pub holds :
      tree_satisfies model (joint_property_at model joint.places.items).formula ≡ true
      → All (IsSatisfiedAt model) joint.places.items
