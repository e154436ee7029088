use Rattle.std.proofs.Common.{◌≡◌, ◌++◌, drop, map}
use Rattle.std.specs.Prelude.{flat_map}
use Rattle.pb_text_tree.specs.Form.{enumerator_form}
use Rattle.pb_text_meaning.specs.Erase.{erased_enumerator}
use Rattle.pb_typing_declarations.specs.Tables.{entry_names, entry_values}
use Rattle.pb_typing_declarations.specs.Entries.{data_from}
use Rattle.pb_typing_declarations.specs.Declarations.{enumerator_faults, names_of_enumerator}
use Rattle.pb_typing_declarations.proofs.definition.push_enumerators.Given as goal

-- all faults are those of the enumerators that are left, and so are the names that are still to come
abbrev pub invariant-loop-index : goal.invariant-loop-index
invariant-loop-index l = record {
  left : flat_map enumerator_faults (map enumerator_form l.enumerators) ≡ flat_map enumerator_faults (map enumerator_form (drop l.index l.enumerators));
  names : entry_names l.initial.names.items ++ flat_map names_of_enumerator (map enumerator_form l.enumerators)
      ≡ entry_names l.names.items ++ flat_map names_of_enumerator (map enumerator_form (drop l.index l.enumerators));
  values : entry_values l.initial.names.items ++ data_from l.enumeration.sort l.enumeration.count 0 (map erased_enumerator (map enumerator_form l.enumerators))
      ≡ entry_values l.names.items ++ data_from l.enumeration.sort l.enumeration.count l.index (map erased_enumerator (map enumerator_form (drop l.index l.enumerators)));
}
