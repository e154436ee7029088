-- What can be said of models and protocols: laws.
use Rattle.std.specs.Prelude.{◌≡◌, ℕ, true, Some, List, ◌∷◌, ◌++◌}
use Rattle.std.specs.List.{list_all, slice_get}
use Rattle.pb_text_lexer.specs.Bytes.{is_name_byte}
use Rattle.pb_text_meaning.specs.Erase as text
use Rattle.pb_text_meaning.specs.Syntax.{Name}
use Rattle.pb_text_tree.specs.Form.{SpecForm}
use Rattle.pb_model_meaning.specs.Syntax.{Formula, Model}
use Rattle.pb_model_text.specs.Parsing.{IsModelReading}
use Rattle.pb_model_translation.specs.Names.{translation}
use Rattle.pb_protocol_tree.specs.Form.{PropertyForm, ModelTextForm}
use Rattle.pb_model_spelling.specs.Writable.{CanBeSaid, IsWord, ModalWritable, ModelWritable}
use Rattle.pb_model_spelling.specs.Protocols.{ModelTextWritable}

-- A tree that says what a formula of a model is translated to can be said within some levels and
-- operators, where model and formula have words.
abbrev pub TranslationsCanBeSaid : Type 0
TranslationsCanBeSaid =
    (model : Model) (f : Formula) (x : SpecForm) → ModelWritable model → ModalWritable f →
    text.erase x ≡ translation model f → CanBeSaid x

-- the text of a model that was read has words
abbrev pub ReadModelsAreWritable : Type 0
ReadModelsAreWritable =
    (bytes : List ℕ) (text : ModelTextForm) → IsModelReading bytes text → ModelTextWritable text

-- and a property
abbrev pub ReadModelsHaveProperties : Type 0
ReadModelsHaveProperties =
    (bytes : List ℕ) (text : ModelTextForm) → IsModelReading bytes text →
    (p : PropertyForm) × (slice_get text.protocol.properties 0 ≡ Some p)

-- a name with a prime and any bytes of names behind it is one, as those of elements
abbrev pub PrimedNamesAreWords : Type 0
PrimedNamesAreWords =
    (x : Name) (bs : List ℕ) → IsWord x → list_all is_name_byte bs ≡ true →
    IsWord (x ++ (39 ∷ bs))
