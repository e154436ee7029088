-- What the program's scopes say.
use Rattle.std.specs.Prelude.{List, [], ◌∷◌, map, string_bytes, Option, Some, None}
use denote.Ref.{Bor}
use Rattle.std.specs.Option.{option_map}
use Rattle.pb_text_tree.specs.declared.name.Name as declared_name
use Rattle.pb_text_tree.specs.declared.variable.Variables as declared_variables
use Rattle.pb_text_tree.specs.Form.{Named, VariableForm, named, variable_forms}
use Rattle.pb_text_meaning.specs.Syntax.{Name}
use Rattle.pb_typing_declarations.specs.Entries.{carrier_shape}
use Rattle.pb_typing_declarations.specs.Tables.{Table, entry_of}
use Rattle.pb_typing_declarations.specs.View.{spec_of}
use Rattle.pb_typing_declarations.specs.Shapes.{Shape}
use Rattle.pb_protocol_tree.specs.Form.{StateVariableForm, state_variable_form}
use Rattle.pb_protocol_typing.specs.declared.signature.StateEntry as program_entry
use Rattle.pb_protocol_typing.specs.declared.signature.OwnVariables as program_own
use Rattle.pb_protocol_typing.specs.declared.signature.Steps as program_steps
use Rattle.pb_protocol_typing.specs.declared.written.Written as program_written
use Rattle.pb_protocol_typing.specs.declared.written.Written.TheVariants as written
use Rattle.pb_protocol_typing.specs.declared.index.IndexTerm as program_index
use Rattle.pb_protocol_typing.specs.declared.index.IndexTerm.TheVariants as index
use Rattle.pb_protocol_typing.specs.declared.around.Around as program
use Rattle.pb_protocol_typing.specs.declared.around.Around.TheVariants as around
use Rattle.pb_protocol_typing.specs.declared.function.Called as program_called
use Rattle.pb_protocol_typing.specs.declared.function.Called.TheVariants as called
use Rattle.pb_protocol_typing.specs.declared.signature.Signature as program_signature
use Rattle.pb_protocol_typing.specs.declared.scope.Naming as program_naming
use Rattle.pb_protocol_typing.specs.declared.scope.Naming.TheVariants as naming
use Rattle.pb_protocol_typing.specs.declared.scope.Scope as program_scope
use Rattle.pb_protocol_typing.specs.Scopes.{Binder, variables, fixpoint, Signature, Signatures}
use Rattle.pb_protocol_typing.specs.Scopes.{Scope, at_start}
use Rattle.pb_protocol_typing.specs.Functions.{Called, Declared, Function', Scalar, Nothing}
use Rattle.pb_protocol_typing.specs.Sets.{StepShapes}
use Rattle.pb_protocol_typing.specs.Written.{Written, Boolean, Number, Alone, Other}
use Rattle.pb_protocol_typing.specs.Indices.{IndexTerm, Plain, Computed}

-- the innermost first
abbrev pub binders : program.Around → List Binder
binders around.Outermost = []
binders (around.Variables' groups p outer) = variables (variable_forms groups.now) ∷ binders outer
binders (around.Fixpoint' name p outer) = fixpoint name.now ∷ binders outer

abbrev pub signature_of : program_signature.Signature → Signature
signature_of f = record {
  is_state = f.is_state;
  reads_state = f.reads_state;
  parameters = map carrier_shape f.parameters.items;
  kind = f.kind;
  written = f.written;
}

abbrev pub signatures_in : Table program_signature.Signature → Signatures
signatures_in table x = option_map signature_of (entry_of table x)

-- all that is declared, or what doesn't read the state
abbrev pub named_by_scope : program_naming.Naming → Signatures → Signatures
named_by_scope naming.All known = known
named_by_scope naming.AtStart known = at_start known

abbrev pub scope_of : program_scope.Scope → Scope
scope_of s = record {
  spec = spec_of s.declarations.now;
  signatures = named_by_scope s.naming (signatures_in s.signatures.now);
  around = binders s.around.now;
}

abbrev pub called_of : program_called.Called → Called
called_of (called.Declared f) = Declared (signature_of f.now)
called_of (called.Function g) = Function' g
called_of called.Scalar = Scalar
called_of called.Nothing = Nothing

-- a state variable or definition, where there is one
abbrev pub signature_behind : Option (Bor program_signature.Signature) → Option Signature
signature_behind None = None
signature_behind (Some f) = Some (signature_of f.now)

-- the text of a name
abbrev pub text_of : Bor declared_name.Name → Name
text_of x = string_bytes x.now.text

-- ---- what is declared

abbrev pub entry_form : Bor program_entry.StateEntry → StateVariableForm
entry_form e = state_variable_form e.now.sort.now e.now.variable.now

abbrev pub state_entry_form : program_entry.StateEntry → StateVariableForm
state_entry_form e = state_variable_form e.sort.now e.variable.now

abbrev pub state_forms : List program_entry.StateEntry → List StateVariableForm
state_forms = map state_entry_form

abbrev pub own_shapes : program_own.OwnVariables → List Shape
own_shapes own = map carrier_shape own.carriers.items

abbrev pub shapes_in : program_steps.Steps → StepShapes
shapes_in steps x = option_map own_shapes (entry_of steps.table x)

-- a term that is written out
abbrev pub written_of : program_written.Written → Written
written_of (written.Boolean b) = Boolean b
written_of (written.Number b n) = Number b n
written_of (written.Alone x) = Alone (named x.now)
written_of written.Other = Other

-- an index term
abbrev pub index_of : program_index.IndexTerm → IndexTerm
index_of (index.Plain w) = Plain (written_of w)
index_of (index.Computed o v w) = Computed o (written_of v) (written_of w)

-- names, each with its place
abbrev pub named_by : Bor declared_name.Name → Named
named_by x = named x.now

abbrev pub names_in : List (Bor declared_name.Name) → List Named
names_in = map named_by

-- lists of variables
abbrev pub list_form : Bor (List declared_variables.Variables) → List VariableForm
list_form groups = variable_forms groups.now

abbrev pub list_forms : List (Bor (List declared_variables.Variables)) → List (List VariableForm)
list_forms = map list_form
