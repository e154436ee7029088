use Rattle.std.proofs.Common.{◌≡◌, drop}
use Rattle.pb_text_meaning.specs.Syntax.{Name}
use Rattle.pb_typing_declarations.specs.Faults.{repeated}
use Rattle.pb_typing_declarations.specs.Shapes.{first}
use Rattle.pb_typing_declarations.specs.Tables.{entry_names, entry_values, entry_of}
use Rattle.pb_typing_declarations.proofs.Filling.{seen_repeated, has, or_first}
use Rattle.pb_typing_declarations.proofs.table.table.Given as goal

-- all faults are those of the entries that are left, and what is found stands in the table or among these
abbrev pub invariant-loop-entry : goal.invariant-loop-entry
invariant-loop-entry g l = record {
  left : repeated (entry_names l.entries) ≡ seen_repeated (has l.table) (entry_names (drop l.entry-index l.entries));
  found : (x : Name) → first (entry_values l.entries) x ≡ or_first (entry_of l.table x) (first (entry_values (drop l.entry-index l.entries)) x);
}
