-- What becomes of properties, and which steps with their values are left.
use Rattle.std.specs.Prelude.{Bool, true, false, List, [], ◌∷◌, ◌++◌}
use Rattle.pb_text_tree.specs.declared.place.Place.{Place}
use Rattle.pb_text_tree.specs.Form.{Named, named}
use Rattle.pb_model_tree.specs.declared.model.Property as declared_flat
use Rattle.pb_model_tree.specs.Form as flat_form
use Rattle.pb_model_meaning.specs.Syntax as flat
use Rattle.pb_model_meaning.specs.Erase as flat_erase
use Rattle.pb_protocol_folding.specs.FoldedModels.{folded_property}
use Rattle.pb_protocol_tree.specs.declared.protocol.Property as declared_property
use Rattle.pb_protocol_tree.specs.Form.{property_form}
use Rattle.pb_protocol_meaning.specs.Erase.{erased_property}
use Rattle.pb_protocol_unfolding.specs.Unfolding.{Instance, unfolded, unfolded_property}
use Rattle.pb_protocol_unfolder_steps.specs.declared.unfolder.Unfolder.{Unfolder}
use Rattle.pb_protocol_unfolder_steps.specs.Unfolder.{protocol_in}

-- ---- properties

abbrev pub property_said : declared_flat.Property → flat.Property
property_said p = flat_erase.erased_property (flat_form.property_form p)

abbrev pub flat_name : declared_flat.Property → Named
flat_name p = named p.name

abbrev pub property_name : declared_property.Property → Named
property_name p = named p.name

-- a property, unfolded and folded
abbrev pub left_property : Unfolder → declared_property.Property → flat.Property
left_property u p =
    folded_property (unfolded (protocol_in u))
    (unfolded_property (protocol_in u) (erased_property (property_form p)))

-- ---- steps with their values

abbrev pub chosen_one : Instance → Bool → List Instance
chosen_one i true = i ∷ []
chosen_one i false = []

-- a place, and of places those, beside which `true` stands
abbrev pub chosen_place : Place → Bool → List Place
chosen_place p true = p ∷ []
chosen_place p false = []

abbrev pub chosen_places : List Place → List Bool → List Place
chosen_places [] bs = []
chosen_places (p ∷ ps) [] = []
chosen_places (p ∷ ps) (b ∷ bs) = chosen_place p b ++ chosen_places ps bs

-- those beside which `true` stands
abbrev pub chosen_instances : List Instance → List Bool → List Instance
chosen_instances [] bs = []
chosen_instances (i ∷ is) [] = []
chosen_instances (i ∷ is) (b ∷ bs) = chosen_one i b ++ chosen_instances is bs
