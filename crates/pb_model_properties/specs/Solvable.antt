-- Protocols in whose place a model can be solved.
use Rattle.std.specs.Prelude.{◌≡◌, ℕ, true, Some, Contains}
use Rattle.std.specs.List.{slice_get}
use Rattle.pb_text_tree.specs.declared.place.Place.{Place}
use Rattle.pb_model_tree.specs.Form as flat
use Rattle.pb_model_runs.specs.Exact as model
use Rattle.pb_model_spelling.specs.Protocols.{ProtocolWritable}
use Rattle.pb_model_places.specs.Apart.{formula_places, lines_from, protocol_stands_apart}
use Rattle.pb_protocol_tree.specs.Form.{PropertyForm, ProtocolForm}
use Rattle.pb_protocol_meaning.specs.Erase.{erase}

-- A model stands apart whose steps are numbered by their lines, where each place of the formula is
-- one of a property of the protocol.
abbrev pub NumberedStandApart : ProtocolForm → Type 0
NumberedStandApart protocol =
    (p : PropertyForm) (m : flat.ModelForm) (g : flat.FormulaForm) (line count : ℕ) →
    Contains protocol.properties p → model.step_places m.steps ≡ lines_from line count →
    ((q : Place) → Contains (model.formula_places g) q → Contains (formula_places p.formula) q) →
    model.stand_apart m g ≡ true

-- The protocol has words and a property, and where its properties go on in the same state no name
-- of a step stands, whether the steps keep their places or are numbered.
pub record CanBeSolved (protocol : ProtocolForm) : Type 0 where
  pub writable : ProtocolWritable (erase protocol)
  pub first : (p : PropertyForm) × (slice_get protocol.properties 0 ≡ Some p)
  pub apart :
      (p : PropertyForm) → Contains protocol.properties p
      → protocol_stands_apart protocol p.formula ≡ true
  pub numbered : NumberedStandApart protocol
