-- The flat model of a protocol that keeps the rules.
use Rattle.std.specs.Prelude.{◌≡◌, true, false, Contains, Some}
use Rattle.std.specs.List.{slice_get}
use Rattle.pb_model_tree.specs.Form.{ModelForm, PropertyForm}
use Rattle.pb_model_meaning.specs.Erase as model_text
use Rattle.pb_model_runs.specs.Exact.{stand_apart}
use Rattle.pb_model_spelling.specs.Writable.{ModalWritable, ModelWritable}
use Rattle.pb_protocol_tree.specs.Form.{ProtocolForm}
use Rattle.pb_protocol_meaning.specs.Erase.{erase}
use Rattle.pb_protocol_unfolding.specs.Hygiene.{HidesNothing}
use Rattle.pb_protocol_unfolder.specs.Plain.{is_plain_protocol}
use Rattle.pb_protocol_laws.specs.Solved.{itself, IsSolvedFor}
use Rattle.pb_model_properties.specs.Made.{IsFlatOf, KeepsRules}

-- A flat model of a protocol that keeps the rules, which may be solved in its place. It has a
-- property; the names of its steps stand at places of their own, and its names are words. Where it
-- is unfolded, no name in the protocol hides another.
pub record IsFlatModelFor (protocol : ProtocolForm) (flat : ModelForm) : Type 0 where
  pub from : IsFlatOf protocol flat
  pub kept : KeepsRules protocol flat
  pub hides_nothing : is_plain_protocol protocol ≡ false → HidesNothing (erase protocol)
  pub solved : IsSolvedFor protocol flat itself
  pub first : (p : PropertyForm) × (slice_get flat.properties 0 ≡ Some p)
  pub apart : (p : PropertyForm) → Contains flat.properties p → stand_apart flat p.formula ≡ true
  pub writable : ModelWritable (model_text.erase flat)
  pub formulas :
      (p : PropertyForm) → Contains flat.properties p →
      ModalWritable (model_text.erased_formula p.formula)
