-- A constant as the definition of a written number.
use Rattle.std.proofs.Common.{◌≡◌, ◌∙◌, List, [], ap}
use Rattle.std.specs.Prelude.{ℤ}
use Rattle.pb_text_tree.specs.declared.place.Place.{Place}
use Rattle.pb_text_tree.specs.Form.{Named, TermForm, VariableForm}
use Rattle.pb_protocol_tree.specs.Form.{DefinitionForm, ProtocolForm}
use Rattle.pb_protocol_constants.specs.Settled.{number_at, settled_constant, value_of}

abbrev constant_by : Named → List VariableForm → TermForm → DefinitionForm
constant_by n vs t = record { name = n; parameters = vs; term = t }

pub constant-is : (m : ProtocolForm) (p : Place) (d : DefinitionForm) (n : Named) (vs : List VariableForm) (t : TermForm) (v : ℤ) → n ≡ d.name → vs ≡ [] → t ≡ number_at p v → v ≡ value_of m d.term
    → constant_by n vs t ≡ settled_constant m p d
constant-is m p d n vs t v name none term value =
    ap (λ (x : Named). constant_by x vs t) name
    ∙ (ap (λ (xs : List VariableForm). constant_by d.name xs t) none ∙ ap (constant_by d.name []) (term ∙ ap (number_at p) value))
