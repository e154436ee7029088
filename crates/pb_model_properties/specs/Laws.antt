-- What the laws of the crates below say of the model that is solved in a protocol's place.
use Rattle.pb_model_places.specs.Apart.{KeptPlacesStandApart, NumberedStepsStandApart}
use Rattle.pb_model_places.specs.Apart.{ReadProtocolsStandApart}
use Rattle.pb_model_spelling.specs.Laws.{ReadModelsAreWritable, ReadModelsHaveProperties}
use Rattle.pb_model_spelling.specs.Laws.{TranslationsCanBeSaid}
use Rattle.pb_model_typing.specs.Laws.{NamesAreApart}
use Rattle.pb_protocol_laws.specs.Laws.{EnumeratorsAreApart, PlainProtocolsArePlain}
use Rattle.pb_protocol_laws.specs.SolvedLaws.{PackedModelsAreSolved, PlainModelsAreSolved}
use Rattle.pb_protocol_laws.specs.SolvedLaws.{UnfoldedModelsAreSolved}
use Rattle.pb_protocol_laws.specs.SpellingLaws.{FlatFormulasAreWritable, FlatModelsAreWritable}
use Rattle.pb_protocol_laws.specs.SpellingLaws.{GroupsHaveFewValues, PackedFormulasAreWritable}
use Rattle.pb_protocol_laws.specs.SpellingLaws.{PackedModelsAreWritable}
use Rattle.pb_protocol_laws.specs.SpellingLaws.{SettledProtocolsAreWritable}

-- A plain protocol's own model, the one that another is unfolded to, and the packed one of either:
-- each satisfies and does what the protocol does, tells its steps by their places, and has words,
-- so that the texts of its properties can be said.
pub record ModelsStandForProtocols : Type 0 where
  -- the text that is read, and its protocol
  pub read : ReadModelsAreWritable
  pub properties : ReadModelsHaveProperties
  pub settled : SettledProtocolsAreWritable
  pub apart : ReadProtocolsStandApart
  pub enumerators : EnumeratorsAreApart
  -- its own model, where it is plain
  pub plain : PlainModelsAreSolved
  pub rules : PlainProtocolsArePlain
  pub names : NamesAreApart
  pub kept : KeptPlacesStandApart
  -- the model that it is unfolded to
  pub unfolded : UnfoldedModelsAreSolved
  pub models : FlatModelsAreWritable
  pub formulas : FlatFormulasAreWritable
  pub numbered : NumberedStepsStandApart
  -- either of the two, packed
  pub packed : PackedModelsAreSolved
  pub packed_models : PackedModelsAreWritable
  pub packed_formulas : PackedFormulasAreWritable
  pub few : GroupsHaveFewValues
  -- the texts of its properties
  pub said : TranslationsCanBeSaid
