-- The rules of a protocol that the check of its unfolded text can't see, and where each fails.
use Rattle.std.specs.Prelude.{true, not, codes, List, [], ◌++◌, map, flat_map}
use Rattle.std.specs.Prelude.{Option}
use Rattle.pb_sorts.specs.Counting.{instance_limit}
use Rattle.pb_sorts.specs.declared.counting.Counting.TheVariants.{Reached}
use Rattle.pb_text_tree.specs.Form.{Named, VariableForm, SpecForm, no_arguments}
use Rattle.pb_text_meaning.specs.Syntax.{Spec}
use Rattle.pb_text_meaning.specs.Erase as texts
use Rattle.pb_typing_declarations.specs.Declarations.{declaration_faults, variables_faults}
use Rattle.pb_typing_declarations.specs.Declarations.{variable_names}
use Rattle.pb_typing_declarations.specs.Faults.{unless, repeated}
use Rattle.pb_typing_declarations.specs.declared.fault.TypingFault.{TypingFault}
use Rattle.pb_typing_declarations.specs.declared.fault.TypingRule.TheVariants.{NameTwice}
use Rattle.pb_protocol_tree.specs.Form.{StateVariableForm, DefinitionForm, StepForm, PropertyForm}
use Rattle.pb_protocol_tree.specs.Form.{ProtocolForm}
use Rattle.pb_protocol_typing.specs.Fault.{either_fault, first_fault, listed}
use Rattle.pb_protocol_typing.specs.Scopes.{Signatures, Scope, is_blank, is_reserved}
use Rattle.pb_protocol_typing.specs.Sets.{StepShapes}
use Rattle.pb_protocol_typing.specs.Formulas.{formula_fault}
use Rattle.pb_protocol_typing.specs.Signatures.{no_signatures, with_state, with_definitions}
use Rattle.pb_protocol_typing.specs.Signatures.{no_steps, with_steps}
use Rattle.pb_protocol_typing.specs.Steps.{definitions_fault, step_fault, initial_fault}
use Rattle.pb_protocol_typing.specs.Lists.{declared_lists, protocol_lists}

-- the sorts and ranges of a protocol, as those of a text without equations
abbrev pub data_form : ProtocolForm → SpecForm
data_form text = record {
  sorts = text.sorts;
  ranges = text.ranges;
  equations = [];
  initial = record {
    name = record { place = text.initial.place; text = codes "_" };
    arguments = no_arguments;
  };
}

-- ---- names

abbrev pub state_names : List StateVariableForm → List Named
state_names ys = map (λ (y : StateVariableForm). y.name) ys

abbrev pub definition_names : List DefinitionForm → List Named
definition_names ds = map (λ (d : DefinitionForm). d.name) ds

abbrev pub step_names : List StepForm → List Named
step_names steps = map (λ (a : StepForm). a.name) steps

abbrev pub property_names : List PropertyForm → List Named
property_names ps = map (λ (p : PropertyForm). p.name) ps

abbrev pub blank_faults : Named → List TypingFault
blank_faults x = unless (not (is_blank x)) NameTwice x.place

-- T02: one name for two state variables or definitions
abbrev pub apart_faults : List Named → List TypingFault
apart_faults names = repeated names ++ flat_map blank_faults names

abbrev pub declared_names : ProtocolForm → List Named
declared_names text = state_names text.variables ++ definition_names text.definitions

-- for two steps, or two properties
abbrev pub names_faults : ProtocolForm → List TypingFault
names_faults text =
    apart_faults (declared_names text)
    ++ (repeated (step_names text.steps) ++ repeated (property_names text.properties))

-- ---- variables

-- T02: an index, a parameter, an own variable or one of an assignment has no state variable's and
-- no definition's name
abbrev pub hiding_faults : Signatures → Named → List TypingFault
hiding_faults known x = unless (not (is_reserved known x)) NameTwice x.place

abbrev pub names_hiding : Signatures → List VariableForm → List TypingFault
names_hiding known xs = flat_map (hiding_faults known) (variable_names xs)

-- no list has a name twice (T02), or a sort that has no values (T03, T05)
abbrev pub lists_faults : Spec → Signatures → ProtocolForm → List TypingFault
lists_faults spec known text =
    flat_map (variables_faults spec) (protocol_lists text)
    ++ flat_map (names_hiding known) (declared_lists text)

-- ---- protocols

abbrev pub state_of : Spec → ProtocolForm → Signatures
state_of spec text = with_state spec no_signatures text.variables

-- the state variables and definitions of a protocol, over its sorts and ranges
abbrev pub signatures_of : Spec → ProtocolForm → Signatures
signatures_of spec text = with_definitions spec (state_of spec text) text.definitions

abbrev pub steps_of : Spec → ProtocolForm → StepShapes
steps_of spec text = with_steps spec no_steps text.steps

abbrev pub outermost : Spec → Signatures → Scope
outermost spec known = record { spec = spec; signatures = known; around = [] }

abbrev pub property_fault : StepShapes → Scope → PropertyForm → Option TypingFault
property_fault steps s p = formula_fault steps s true p.formula

-- the first fault of its steps, initial values and properties
abbrev pub parts_fault : Spec → Signatures → ProtocolForm → Option TypingFault
parts_fault spec known text =
    either_fault (first_fault (step_fault (outermost spec known)) text.steps)
    (either_fault (initial_fault spec known text.variables text.initial)
    (first_fault (property_fault (steps_of spec text) (outermost spec known)) text.properties))

-- beside those of sorts and ranges; of those of terms and formulas the first
abbrev pub protocol_own_faults : Spec → ProtocolForm → List TypingFault
protocol_own_faults spec text =
    names_faults text
    ++ (listed (definitions_fault spec (state_of spec text) text.definitions)
    ++ (lists_faults spec (signatures_of spec text) text
    ++ listed (parts_fault spec (signatures_of spec text) text)))

-- those of sorts and ranges, where those instances count that are reached
abbrev pub data_faults : ProtocolForm → List TypingFault
data_faults text = declaration_faults (instance_limit Reached) (data_form text)

-- the faults of a protocol
abbrev pub protocol_faults : ProtocolForm → List TypingFault
protocol_faults text =
    data_faults text ++ protocol_own_faults (texts.erase (data_form text)) text
