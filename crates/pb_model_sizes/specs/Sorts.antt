-- The sorts of state variables, which have values. No rule of a protocol looks at them: they are
-- left to the text that a protocol is written out as, which is not written for sizes.
use Rattle.std.specs.Prelude.{List, ◌++◌, flat_map}
use Rattle.pb_text_tree.specs.Form.{Named, VariableForm}
use Rattle.pb_text_meaning.specs.Syntax.{Spec}
use Rattle.pb_text_meaning.specs.Erase as texts
use Rattle.pb_typing_declarations.specs.Declarations.{use_faults}
use Rattle.pb_typing_declarations.specs.declared.fault.TypingFault.{TypingFault}
use Rattle.pb_protocol_tree.specs.Form.{StateVariableForm, ProtocolForm}
use Rattle.pb_protocol_typing.specs.Faults.{data_form, protocol_faults}

-- the variable of a sort that has the sort's own name
abbrev pub namesake : Named → VariableForm
namesake sort = record { name = sort; sort = sort }

-- the sort isn't declared (T03), or lacks a range (T05)
abbrev pub value_faults : Spec → StateVariableForm → List TypingFault
value_faults spec y = use_faults spec y.sort

abbrev pub state_faults : Spec → List StateVariableForm → List TypingFault
state_faults spec ys = flat_map (value_faults spec) ys

-- for these no sizes are written
abbrev pub size_faults : ProtocolForm → List TypingFault
size_faults text =
    protocol_faults text ++ state_faults (texts.erase (data_form text)) text.variables
