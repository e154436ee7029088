-- The words in which the model is told that is solved in a protocol's place.
use Rattle.std.specs.Prelude.{◌≡◌, ℕ, Bool, true, false, List, [], Option, Some, None, map}
use Rattle.std.specs.Prelude.{string_bytes}
use Rattle.pb_text_tree.specs.declared.place.Place.{Place}
use Rattle.pb_text_meaning.specs.Syntax.{Name}
use Rattle.pb_model_tree.specs.Form.{ModelForm, model_form}
use Rattle.pb_model_meaning.specs.Erase as model_text
use Rattle.pb_protocol_tree.specs.Form.{ProtocolForm}
use Rattle.pb_protocol_meaning.specs.Syntax.{Protocol}
use Rattle.pb_protocol_meaning.specs.Erase.{erase}
use Rattle.pb_protocol_unfolder.specs.Plain.{is_plain_protocol}
use Rattle.pb_protocol_unfolder.specs.Told as told
use Rattle.pb_protocol_unfolder.specs.Told.{told_steps, told_variables}
use Rattle.pb_protocol_packing.specs.Groups.{groups_of}
use Rattle.pb_protocol_packer.specs.Groups.{groups_in}
use Rattle.pb_model_words.specs.Vocabulary.{Vocabulary, packed_vocabulary, plain_vocabulary}
use Rattle.pb_model_words.specs.Vocabulary.{told_vocabulary}
use Rattle.pb_model_properties.specs.declared.solved.ToldNames.{ToldNames}
use Rattle.pb_model_properties.specs.declared.solved.SolvedModel.{SolvedModel}
use Rattle.pb_model_properties.specs.declared.solved.UnpackedModel.{UnpackedModel}
use Rattle.pb_model_properties.specs.Flat.{IsFlatModelFor}
use Rattle.pb_model_properties.specs.Made.{IsMadeOf, step_name_places}
use Rattle.pb_model_properties.specs.Said.{IsModelFor, IsModelOf}

-- a plain protocol's flat model in its own words, an unfolded one with the protocol's names
abbrev pub words_where : Bool → Protocol → ModelForm → Vocabulary
words_where true protocol flat = plain_vocabulary flat
words_where false protocol flat =
    told_vocabulary flat (told_variables protocol) (told_steps protocol)

abbrev pub flat_words : ProtocolForm → ModelForm → Vocabulary
flat_words protocol = words_where (is_plain_protocol protocol) (erase protocol)

-- the same words, of states in which the flat model's variables are packed, where they are
abbrev pub packed_where : Bool → ModelForm → Vocabulary → Vocabulary
packed_where false flat words = words
packed_where true flat words = packed_vocabulary (groups_of (model_text.erase flat)) words

abbrev pub words_of : (protocol : ProtocolForm) (model : ModelForm) → IsMadeOf protocol model →
    Vocabulary
words_of protocol model made =
    packed_where made.is_packed made.flat (flat_words protocol made.flat)

-- a flat model by these names, where there are any
abbrev pub words_with : ModelForm → Option ToldNames → Vocabulary
words_with model None = plain_vocabulary model
words_with model (Some names) =
    told_vocabulary model (map string_bytes names.variables.items)
    (map string_bytes names.steps.items)

-- a model by these names; where another was packed, that one
abbrev pub words_by : Option UnpackedModel → ModelForm → Option ToldNames → Vocabulary
words_by None model names = words_with model names
words_by (Some unpacked) model names =
    packed_vocabulary (groups_in unpacked.groups.items)
    (words_with (model_form unpacked.model) names)

abbrev pub words_in : SolvedModel → Vocabulary
words_in solved = words_by solved.unpacked (model_form solved.typed.model) solved.names

-- the names of the protocol's steps that come to no step of its flat model: none of a plain
-- protocol, and of another those that with none of their values may be taken
abbrev pub impossible_where : Bool → Protocol → List Name
impossible_where true protocol = []
impossible_where false protocol = told.impossible_steps protocol

abbrev pub impossible_step_names : ProtocolForm → List Name
impossible_step_names protocol = impossible_where (is_plain_protocol protocol) (erase protocol)

-- those that are told beside these names
abbrev pub impossible_in : Option ToldNames → List Name
impossible_in None = []
impossible_in (Some names) = map string_bytes names.impossible.items

-- where these names say that those of steps stand in the protocol
abbrev pub places_of_names : Option ToldNames → List Place
places_of_names None = []
places_of_names (Some names) = names.places.items

-- the names are those by which a flat model of the protocol is told
pub record AreNamesOf (protocol : ProtocolForm) (flat : ModelForm) (names : Option ToldNames)
    : Type 0 where
  pub words : words_with flat names ≡ flat_words protocol flat
  pub impossible : impossible_in names ≡ impossible_step_names protocol
  pub places : places_of_names names ≡ step_name_places protocol

-- the model is solved in the protocol's place, and its words are the protocol's
pub record IsToldModel (protocol : ProtocolForm) (solved : SolvedModel) : Type 0 where
  pub is_for : IsModelFor protocol (model_form solved.typed.model)
  pub words :
      words_in solved ≡ words_of protocol (model_form solved.typed.model) is_for.made
  pub impossible : impossible_in solved.names ≡ impossible_step_names protocol
  pub places : places_of_names solved.names ≡ step_name_places protocol

-- so it is with the protocol that the bytes say
pub record IsToldModelOf (bytes : List ℕ) (solved : SolvedModel) : Type 0 where
  pub said : IsModelOf bytes (model_form solved.typed.model)
  pub words :
      words_in solved
      ≡ words_of said.protocol (model_form solved.typed.model) said.is_for.made
  pub impossible : impossible_in solved.names ≡ impossible_step_names said.protocol
  pub places : places_of_names solved.names ≡ step_name_places said.protocol

-- it is the model for whatever protocol the flat one is for and these names are of
abbrev pub IsSolvedFlat : ModelForm → Option ToldNames → SolvedModel → Type 0
IsSolvedFlat flat names solved =
    (protocol : ProtocolForm) → IsFlatModelFor protocol flat → AreNamesOf protocol flat names →
    IsToldModel protocol solved
