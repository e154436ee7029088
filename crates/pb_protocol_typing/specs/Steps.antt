-- The first fault of definitions, steps and initial values.
use Rattle.std.specs.Prelude.{ℕ, ◌+◌, ◌==◌, ◌&&◌, not, nat_le, List, [], ◌∷◌, length, Option, Some}
use Rattle.std.specs.Prelude.{None, is_some}
use Rattle.std.specs.List.{slice_get}
use Rattle.pb_text_tree.specs.declared.place.Place.{Place}
use Rattle.pb_text_tree.specs.Form.{Named, VariableForm, TermForm, ArgumentForms, no_arguments}
use Rattle.pb_text_tree.specs.Form.{argument}
use Rattle.pb_text_meaning.specs.Syntax.{same_name, Spec}
use Rattle.pb_typing_declarations.specs.declared.fault.TypingFault.{TypingFault}
use Rattle.pb_typing_declarations.specs.declared.fault.TypingRule.TheVariants as rule
use Rattle.pb_model_tree.specs.Form.{InitialForm}
use Rattle.pb_protocol_tree.specs.Form.{StateVariableForm, DefinitionForm, CopiesForm}
use Rattle.pb_protocol_tree.specs.Form.{AssignmentForm, StepForm}
use Rattle.pb_typing_declarations.specs.Declarations.{variable_names}
use Rattle.pb_protocol_typing.specs.declared.step.TheConstants.{MAX_ASSIGNMENTS}
use Rattle.pb_protocol_typing.specs.Fault.{fault_at, fault_unless, either_fault, first_fault}
use Rattle.pb_protocol_typing.specs.Kinds.{sort_kind}
use Rattle.pb_protocol_typing.specs.Scopes.{variables, Signature, Signatures, Scope, inside}
use Rattle.pb_protocol_typing.specs.Scopes.{sort_around, at_start}
use Rattle.pb_protocol_typing.specs.Terms.{kinds, term_fault, arguments_fault, condition_fault}
use Rattle.pb_protocol_typing.specs.Terms.{value_fault}
use Rattle.pb_protocol_typing.specs.Signatures.{definition_scope, with_definition}
use Rattle.pb_protocol_typing.specs.Indices.{are_same, stands_among}

-- ---- definitions

abbrev pub definitions_fault :
    Spec → Signatures → List DefinitionForm → Option TypingFault
definitions_fault spec known [] = None
definitions_fault spec known (d ∷ ds) =
    either_fault (term_fault (definition_scope spec known d) d.term)
    (definitions_fault spec (with_definition spec known d) ds)

-- ---- assignments

-- T08: a state variable with all its indices, which are of its indices' kinds, gets a value of its
-- kind (T04)
abbrev pub element_fault : Scope → Signature → AssignmentForm → Option TypingFault
element_fault s f b =
    either_fault
    (fault_unless (length (kinds s b.index) == length f.parameters) rule.WrongCount
    b.variable.place)
    (either_fault (arguments_fault s 0 f.parameters b.index) (value_fault s f.kind b.place b.value))

-- T01: what is assigned is a state variable
abbrev pub assigned_fault : Scope → Option Signature → AssignmentForm → Option TypingFault
assigned_fault s None b = fault_at rule.UnknownName b.variable.place
assigned_fault s (Some f) b =
    either_fault (fault_unless f.is_state rule.UnknownName b.variable.place) (element_fault s f b)

abbrev pub assigned_in_fault : Scope → AssignmentForm → Option TypingFault
assigned_in_fault s b = assigned_fault s (s.signatures b.variable.text) b

-- T02: a variable of an assignment has no name of one around, and stands in an index
abbrev pub copied_fault : Scope → ArgumentForms → Named → Option TypingFault
copied_fault s index x =
    fault_unless (not (is_some (sort_around s.around x.text)) && stands_among x.text index)
    rule.NameTwice x.place

abbrev pub copies_fault : Scope → ArgumentForms → List VariableForm → Option TypingFault
copies_fault s index xs = first_fault (copied_fault s index) (variable_names xs)

abbrev pub assignment_by : Scope → Option CopiesForm → AssignmentForm → Option TypingFault
assignment_by s None b = assigned_in_fault s b
assignment_by s (Some c) b =
    either_fault (copies_fault s b.index c.variables)
    (assigned_in_fault (inside (variables c.variables) s) b)

abbrev pub assignment_fault : Scope → AssignmentForm → Option TypingFault
assignment_fault s b = assignment_by s b.copies b

-- T02: one of these assigns what b assigns, with an index that is plainly the same
abbrev pub again_fault : AssignmentForm → AssignmentForm → Option TypingFault
again_fault b d =
    fault_unless (not (same_name b.variable.text d.variable.text && are_same b.index d.index))
    rule.NameTwice d.variable.place

abbrev pub twice_fault : List AssignmentForm → Option TypingFault
twice_fault [] = None
twice_fault (b ∷ bs) = either_fault (first_fault (again_fault b) bs) (twice_fault bs)

-- ---- steps

-- T12: at most MAX_ASSIGNMENTS assignments; the guard is a Boolean (T04 at the step's name)
abbrev pub own_fault : Scope → StepForm → Option TypingFault
own_fault s a =
    either_fault
    (fault_unless (nat_le (length a.assignments) MAX_ASSIGNMENTS) rule.Limit a.name.place)
    (either_fault (condition_fault s a.name.place a.guard)
    (either_fault (first_fault (assignment_fault s) a.assignments) (twice_fault a.assignments)))

abbrev pub step_fault : Scope → StepForm → Option TypingFault
step_fault s a = own_fault (inside (variables a.variables) s) a

-- ---- initial values

-- a term of `init` names its variable's indices, definitions without state and enumerators alone
abbrev pub initial_scope : Spec → Signatures → StateVariableForm → Scope
initial_scope spec known y =
    record { spec = spec; signatures = at_start known; around = variables y.indices ∷ [] }

abbrev pub element_value_fault :
    Spec → Signatures → Option StateVariableForm → Place → TermForm → Option TypingFault
element_value_fault spec known None p x = None
element_value_fault spec known (Some y) p x =
    value_fault (initial_scope spec known y) (sort_kind spec y.sort.text) p x

-- the terms from the one at n on
abbrev pub elements_fault :
    Spec → Signatures → ℕ → List StateVariableForm → ArgumentForms → Option TypingFault
elements_fault spec known n ys no_arguments = None
elements_fault spec known n ys (argument p x xs) =
    either_fault (element_value_fault spec known (slice_get ys n) p x)
    (elements_fault spec known (n + 1) ys xs)

abbrev pub count : ArgumentForms → ℕ
count no_arguments = 0
count (argument p x xs) = 1 + count xs

-- T08: a term for each state variable
abbrev pub initial_fault :
    Spec → Signatures → List StateVariableForm → InitialForm → Option TypingFault
initial_fault spec known ys init =
    either_fault (fault_unless (count init.values == length ys) rule.WrongCount init.place)
    (elements_fault spec known 0 ys init.values)
