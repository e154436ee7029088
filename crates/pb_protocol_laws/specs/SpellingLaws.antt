-- What a protocol that has words becomes has words: laws.
use Rattle.std.specs.Prelude.{◌≡◌, []}
use Rattle.pb_text_printer.specs.Sayable.{Each}
use Rattle.pb_model_tree.specs.Form.{ModelForm}
use Rattle.pb_model_meaning.specs.Erase.{erase}
use Rattle.pb_model_meaning.specs.Syntax as flat
use Rattle.pb_protocol_tree.specs.Form.{ModelTextForm}
use Rattle.pb_protocol_meaning.specs.Syntax.{Formula, Protocol}
use Rattle.pb_protocol_meaning.specs.Erase as protocol
use Rattle.pb_protocol_constants.specs.Settled.{HasSmallNumbers, settled}
use Rattle.pb_protocol_unfolding.specs.ModelLaws.{flat_model, flat_formula}
use Rattle.pb_protocol_unfolding.specs.Plain.{FormulaCountsNothing, IsPlain, plain, plain_formula}
use Rattle.pb_protocol_packing.specs.Groups.{groups_of, packed, said_formula}
use Rattle.pb_protocol_groups.specs.Sizes.{size_faults}
use Rattle.pb_model_spelling.specs.Writable.{ModelWritable, ModalWritable}
use Rattle.pb_model_spelling.specs.Protocols.{ProtocolWritable, FormulaWritable}
use Rattle.pb_model_spelling.specs.Protocols.{ModelTextWritable}
use Rattle.pb_protocol_laws.specs.FewValues.{HasFewValues}

-- ---- flat models

-- the flat model of a protocol that has words has words
abbrev pub FlatModelsAreWritable : Type 0
FlatModelsAreWritable = (m : Protocol) → ProtocolWritable m → ModelWritable (flat_model m)

-- and so has what a formula is unfolded to
abbrev pub FlatFormulasAreWritable : Type 0
FlatFormulasAreWritable =
    (m : Protocol) (f : Formula) → ProtocolWritable m → FormulaWritable f →
    ModalWritable (flat_formula m f)

-- ---- plain models

-- a model that counts nothing has words where the protocol that it is written as has
abbrev pub PlainModelsAreWritable : Type 0
PlainModelsAreWritable =
    (m : flat.Model) → IsPlain m → ProtocolWritable (plain m) → ModelWritable m

-- and so has a formula
abbrev pub PlainFormulasAreWritable : Type 0
PlainFormulasAreWritable =
    (f : flat.Formula) → FormulaCountsNothing f → FormulaWritable (plain_formula f) →
    ModalWritable f

-- ---- settled protocols

-- the protocol of a text that has words has words, where its numbers have 32 bits
abbrev pub SettledProtocolsAreWritable : Type 0
SettledProtocolsAreWritable =
    (t : ModelTextForm) → HasSmallNumbers t → ModelTextWritable t →
    ProtocolWritable (protocol.erase (settled t))

-- ---- packed models

-- each group has few values where packing tells no fault of their sizes
abbrev pub GroupsHaveFewValues : Type 0
GroupsHaveFewValues =
    (m : ModelForm) → size_faults m ≡ [] → Each HasFewValues (groups_of (erase m))

-- the packed model of a model that has words has words, where each group has few values
abbrev pub PackedModelsAreWritable : Type 0
PackedModelsAreWritable =
    (m : flat.Model) → Each HasFewValues (groups_of m) → ModelWritable m →
    ModelWritable (packed m)

-- and so has what a formula says there
abbrev pub PackedFormulasAreWritable : Type 0
PackedFormulasAreWritable =
    (m : flat.Model) (f : flat.Formula) → Each HasFewValues (groups_of m) → ModelWritable m →
    ModalWritable f → ModalWritable (said_formula m f)
