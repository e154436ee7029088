use Rattle.std.proofs.Common.{◌≡◌, ◌++◌, drop, map}
use Rattle.pb_text_tree.specs.Form.{equation_form}
use Rattle.pb_typing_declarations.specs.Tables.{entry_names, entry_values}
use Rattle.pb_typing_declarations.specs.Declarations.{equation_names}
use Rattle.pb_typing_declarations.specs.Reading.{numbered_from}
use Rattle.pb_typing_declarations.proofs.tables.equation_entries.Given as goal

-- the entries that are still to come are those of the equations that are left
abbrev pub invariant-loop-index : goal.invariant-loop-index
invariant-loop-index l = record {
  names : equation_names (map equation_form l.equations) ≡ entry_names l.entries.items ++ equation_names (map equation_form (drop l.index l.equations));
  values : numbered_from 0 (equation_names (map equation_form l.equations)) ≡ entry_values l.entries.items ++ numbered_from l.index (equation_names (map equation_form (drop l.index l.equations)));
}
