-- Names that are taken, as the program holds them.
use Rattle.std.specs.Prelude.{List, map, ◌++◌, string_bytes}
use Rattle.pb_text_meaning.specs.Syntax.{Name}
use Rattle.pb_protocol_packer.specs.Initial.{names_by}
use Rattle.pb_protocol_groups.specs.declared.taken.Taken as declared_taken

-- those of groups, the newest first, and then those of the model
abbrev pub taken_of : declared_taken.Taken → List Name
taken_of t = map string_bytes t.given.items ++ names_by t.declared.items
