-- What the state variables, definitions and steps of a protocol are declared to be.
use Rattle.std.specs.Prelude.{true, false, if◌then◌else◌, List, [], ◌∷◌, map, Option, Some, None}
use Rattle.pb_text_tree.specs.Form.{VariableForm}
use Rattle.pb_text_meaning.specs.Syntax.{Name, same_name, Spec}
use Rattle.pb_typing_declarations.specs.Shapes.{Shape, sort_shape}
use Rattle.pb_protocol_tree.specs.Form.{StateVariableForm, DefinitionForm, StepForm}
use Rattle.pb_protocol_typing.specs.Kinds.{sort_kind}
use Rattle.pb_protocol_typing.specs.declared.written_as.WrittenAs.{WrittenAs}
use Rattle.pb_protocol_typing.specs.declared.written_as.WrittenAs.TheVariants as written_as
use Rattle.pb_protocol_typing.specs.Scopes.{variables, Signature, Signatures, Scope}
use Rattle.pb_protocol_typing.specs.Sets.{StepShapes}
use Rattle.pb_protocol_typing.specs.Terms.{kind, reads_state}
use Rattle.pb_protocol_typing.specs.Written.{Written, Boolean, Number, Alone, Other, written}

-- one more name, which hides what had it
abbrev pub with_entry : {V : Type 0} → Name → V → (Name → Option V) → Name → Option V
with_entry y v look = λ x. if same_name y x then Some v else look x

abbrev pub variable_shapes : Spec → List VariableForm → List Shape
variable_shapes spec xs = map (λ (x : VariableForm). sort_shape spec x.sort.text) xs

-- ---- state variables

abbrev pub no_signatures : Signatures
no_signatures = λ x. None

abbrev pub state_signature : Spec → StateVariableForm → Signature
state_signature spec y = record {
  is_state = true;
  reads_state = true;
  parameters = variable_shapes spec y.indices;
  kind = sort_kind spec y.sort.text;
  written = written_as.Calculated;
}

abbrev pub with_state : Spec → Signatures → List StateVariableForm → Signatures
with_state spec known [] = known
with_state spec known (y ∷ ys) =
    with_state spec (with_entry y.name.text (state_signature spec y) known) ys

-- ---- definitions

-- a definition names its parameters, and of definitions those before it
abbrev pub definition_scope : Spec → Signatures → DefinitionForm → Scope
definition_scope spec known d =
    record { spec = spec; signatures = known; around = variables d.parameters ∷ [] }

-- how a name is written: as the definition's value, or as the enumerator that it is
abbrev pub name_written : Option Signature → WrittenAs
name_written None = written_as.OfKind
name_written (Some f) = f.written

abbrev pub value_written : Signatures → Written → WrittenAs
value_written known (Boolean b) = written_as.OfKind
value_written known (Number b n) = written_as.Number b n
value_written known (Alone x) = name_written (known x.text)
value_written known Other = written_as.Calculated

abbrev pub definition_signature : Spec → Signatures → DefinitionForm → Signature
definition_signature spec known d = record {
  is_state = false;
  reads_state = reads_state (definition_scope spec known d) d.term;
  parameters = variable_shapes spec d.parameters;
  kind = kind (definition_scope spec known d) d.term;
  written = value_written known (written d.term);
}

abbrev pub with_definition : Spec → Signatures → DefinitionForm → Signatures
with_definition spec known d =
    with_entry d.name.text (definition_signature spec known d) known

abbrev pub with_definitions : Spec → Signatures → List DefinitionForm → Signatures
with_definitions spec known [] = known
with_definitions spec known (d ∷ ds) = with_definitions spec (with_definition spec known d) ds

-- ---- steps

abbrev pub no_steps : StepShapes
no_steps = λ x. None

abbrev pub with_steps : Spec → StepShapes → List StepForm → StepShapes
with_steps spec known [] = known
with_steps spec known (a ∷ steps) =
    with_steps spec (with_entry a.name.text (variable_shapes spec a.variables) known) steps
