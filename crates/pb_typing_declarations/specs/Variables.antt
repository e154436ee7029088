-- Variables as the program holds them.
use Rattle.std.specs.Prelude.{List, map}
use denote.Ref.{Bor}
use Rattle.pb_text_tree.specs.declared.name.Name.{Name}
use Rattle.pb_text_tree.specs.Form.{VariableForm, named}
use Rattle.pb_typing_declarations.specs.declared.entry.Entry.{Entry}

abbrev pub variable_of : Entry (Bor Name) → VariableForm
variable_of e =
    record { name = record { place = e.place; text = e.name.now }; sort = named e.value.now }

abbrev pub variables_of : List (Entry (Bor Name)) → List VariableForm
variables_of = map variable_of
