-- Names of variables, and the terms with which they begin.
use denote.Ref.{Bor}
use Rattle.std.specs.Prelude.{List, [], ◌∷◌, map}
use Rattle.pb_text_tree.specs.declared.name.Name as declared_name
use Rattle.pb_text_meaning.specs.Syntax.{Name, Variable, Terms}
use Rattle.pb_model_meaning.specs.Syntax.{Assignment}
use Rattle.pb_protocol_packer.specs.View.{name_bytes}

abbrev pub variable_name : Variable → Name
variable_name x = x.name

-- a name behind a reference
abbrev pub name_by : Bor declared_name.Name → Name
name_by n = name_bytes n.now

abbrev pub names_by : List (Bor declared_name.Name) → List Name
names_by = map name_by

-- terms that are assigned to names, as long as there are both
abbrev pub assigned_names : List Name → Terms → List Assignment
assigned_names (x ∷ xs) (Terms.Then t ts) =
    record { variable = x; term = t } ∷ assigned_names xs ts
assigned_names xs ts = []
