-- The elements that may be permuted where properties are decided, and the lines that name them.
use Rattle.std.specs.Prelude.{◌≡◌, ◌⊎◌, ℕ, Bool, true, false, List, [], ◌∷◌, Some, codes}
use Rattle.std.specs.List.{slice_get}
use Rattle.std.specs.Prelude.{◌++◌, string_bytes, OnOk, Result, String}
use Rattle.std.specs.declared.alloc.Global.{Global}
use Rattle.pb_base_values.specs.Carrier.{Carrier}
use Rattle.pb_text_meaning.specs.Syntax.{Name}
use Rattle.pb_protocol_tree.specs.Form.{PropertyForm, ProtocolForm, protocol_form}
use Rattle.pb_protocol_tree.specs.declared.protocol.Protocol.{Protocol}
use Rattle.pb_model_properties.specs.Said.{IsModelFor}
use Rattle.pb_model_properties.specs.declared.solved.SolvedModel.{SolvedModel}
use Rattle.pb_protocol_meaning.specs.Erase.{erase}
use Rattle.pb_protocol_meaning.specs.Steps.{data_of}
use Rattle.pb_protocol_scalar_sets.specs.Lines.{symmetry_line}
use Rattle.pb_property_symmetry.specs.Permutable.{IsPermutable}
use Rattle.pb_property_symmetry.specs.declared.permutable.Permutable.{Permutable}
use Rattle.pb_model_tree.specs.Form.{ModelForm, model_form}
use Rattle.pb_command_models.specs.Outcomes.{AreSatisfied}
use Rattle.pb_command_models.specs.declared.symmetry.SymmetryFindings.{SymmetryFindings}

-- the model is solved in the protocol's place
abbrev pub IsModelled : Protocol → SolvedModel → Type 0
IsModelled protocol solved = IsModelFor (protocol_form protocol) (model_form solved.typed.model)

-- the line of a property for which elements may be permuted, if there are such
abbrev pub IsSymmetryLine : ProtocolForm → PropertyForm → List ℕ → Type 0
IsSymmetryLine protocol p line =
    (line ≡ codes "no symmetry\n")
    ⊎ ((sort : Name) × (M : Carrier) × IsPermutable protocol p sort M
    × (line ≡ symmetry_line (data_of (erase protocol)) sort M))

-- the elements may be permuted where the property at a place is decided
abbrev pub IsPermutableAt : ProtocolForm → ℕ → Permutable → Type 0
IsPermutableAt protocol place x =
    (p : PropertyForm) → slice_get protocol.properties place ≡ Some p
    → IsPermutable protocol p x.sort.now x.elements.items

-- of the property at a place
abbrev pub HasSymmetryLine : ProtocolForm → ℕ → List ℕ → Type 0
HasSymmetryLine protocol place line =
    (p : PropertyForm) → slice_get protocol.properties place ≡ Some p
    → IsSymmetryLine protocol p line

-- of the properties at these places, one by one
abbrev pub AreLinesAt : ProtocolForm → List ℕ → List (List ℕ) → Type 0
AreLinesAt protocol [] [] = Unit {0}
AreLinesAt protocol (k ∷ ks) (n ∷ ns) = HasSymmetryLine protocol k n × AreLinesAt protocol ks ns
AreLinesAt protocol [] (n ∷ ns) = ⊥
AreLinesAt protocol (k ∷ ks) [] = ⊥

-- where symmetry is requested; else there are none
abbrev pub AreSymmetryLines : Bool → ProtocolForm → List ℕ → List (List ℕ) → Type 0
AreSymmetryLines true protocol places lines = AreLinesAt protocol places lines
AreSymmetryLines false protocol places lines = lines ≡ []

-- the line of the property at the place is added, and the place where the property is satisfied
pub record AddsFinding {E : Type 0} (protocol : ProtocolForm) (model : ModelForm) (place : ℕ)
    (old new : SymmetryFindings) (result : Result (Unit {0}) E) : Type 0 where
  pub line : OnOk result ((text : String Global) × (new.lines.items ≡ old.lines.items ++ text ∷ [])
      × HasSymmetryLine protocol place (string_bytes text))
  pub satisfied : OnOk result
      (AreSatisfied old.satisfied.items model → AreSatisfied new.satisfied.items model)
