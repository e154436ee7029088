-- Where a name stands twice, or is an enumerator's.
use Rattle.std.specs.Prelude.{◌≡◌, ◌<◌, ℕ, Bool, true, List, [], map, length, take, string_bytes}
use Rattle.std.specs.Prelude.{slice_index_or}
use Rattle.std.specs.List.{list_any}
use Rattle.pb_text_tree.specs.declared.name.Name as declared_name
use Rattle.pb_text_tree.specs.declared.place.Place.{Place}
use Rattle.pb_text_tree.specs.declared.sort.Enumerator as declared_enumerator
use Rattle.pb_text_tree.specs.declared.sort.SortDeclaration as declared_declaration
use Rattle.pb_text_tree.specs.Form.{sort_declaration_form, sort_form}
use Rattle.pb_text_meaning.specs.Syntax.{Name, same_name, SortDeclaration}
use Rattle.pb_text_meaning.specs.Erase.{erased_declaration, erased_sort}
use Rattle.pb_protocol_folding.specs.Names.{names_in}
use Rattle.pb_protocol_tree.specs.declared.protocol.Definition as declared_definition

-- a name by its bytes
abbrev pub name_bytes : declared_name.Name → Name
name_bytes n = string_bytes n.text

abbrev pub definition_bytes : declared_definition.Definition → Name
definition_bytes d = name_bytes d.name

abbrev pub definition_place : declared_definition.Definition → Place
definition_place d = d.name.place

abbrev pub enumerator_bytes : declared_enumerator.Enumerator → Name
enumerator_bytes e = string_bytes e.name.text

abbrev pub declarations_said : List declared_declaration.SortDeclaration → List SortDeclaration
declarations_said sorts = map erased_declaration (map sort_declaration_form sorts)

-- whether a sort has an enumerator of this name
abbrev pub has_enumerator : Name → declared_declaration.SortDeclaration → Bool
has_enumerator x d = list_any (same_name x) (names_in (erased_sort (sort_form d.sort)))

-- the name at i is one of those in front of it
abbrev pub RepeatsAt : List Name → ℕ → Type 0
RepeatsAt names i =
    (i < length names) × (list_any (same_name (slice_index_or names i [])) (take i names) ≡ true)

-- the name at i is one of others
abbrev pub IsTakenAt : List Name → List Name → ℕ → Type 0
IsTakenAt others names i =
    (i < length names) × (list_any (same_name (slice_index_or names i [])) others ≡ true)
