use Rattle.std.proofs.Common.{◌≡◌, ◌≤◌, ◌++◌, drop, map}
use Rattle.std.specs.Prelude.{flat_map}
use Rattle.pb_base.specs.declared.limits.TheConstants.{MAX_STRUCTS}
use Rattle.pb_text_tree.specs.Form.{SortDeclarationForm, sort_declaration_form}
use Rattle.pb_text_meaning.specs.Erase.{erased_declaration}
use Rattle.pb_typing_declarations.specs.Shapes.{definitions_from}
use Rattle.pb_typing_declarations.specs.Tables.{entry_names, entry_values}
use Rattle.pb_typing_declarations.specs.Entries.{shown_entries, all_data}
use Rattle.pb_typing_declarations.specs.Declarations.{structs_faults, names_of_enumerator, all_enumerator_forms}
use Rattle.pb_typing_declarations.proofs.definition.read_definitions.Given as goal

-- all faults are those of the sorts that are left, and so are the entries that are still to come
abbrev pub invariant-loop-declaration : goal.invariant-loop-declaration
invariant-loop-declaration l = record {
  few : l.number ≤ MAX_STRUCTS;
  left : structs_faults 0 (map sort_declaration_form l.sorts) ≡ structs_faults l.number (map sort_declaration_form (drop l.declaration-index l.sorts));
  sort_names : map (λ (d : SortDeclarationForm). d.name) (map sort_declaration_form l.sorts)
      ≡ entry_names l.definitions.items ++ map (λ (d : SortDeclarationForm). d.name) (map sort_declaration_form (drop l.declaration-index l.sorts));
  sorts : definitions_from 0 (map erased_declaration (map sort_declaration_form l.sorts))
      ≡ shown_entries (entry_values l.definitions.items) ++ definitions_from l.number (map erased_declaration (map sort_declaration_form (drop l.declaration-index l.sorts)));
  data_names : flat_map names_of_enumerator (all_enumerator_forms (map sort_declaration_form l.sorts))
      ≡ entry_names l.names.items ++ flat_map names_of_enumerator (all_enumerator_forms (map sort_declaration_form (drop l.declaration-index l.sorts)));
  data_values : all_data 0 (map erased_declaration (map sort_declaration_form l.sorts))
      ≡ entry_values l.names.items ++ all_data l.number (map erased_declaration (map sort_declaration_form (drop l.declaration-index l.sorts)));
}
