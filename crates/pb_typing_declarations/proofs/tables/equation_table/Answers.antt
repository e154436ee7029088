use Rattle.std.proofs.Common.{ℕ, List, map, subst}
use Rattle.pb_text_tree.specs.Form.{equation_form}
use Rattle.pb_typing_declarations.specs.declared.entry.Entry.{Entry}
use Rattle.pb_typing_declarations.proofs.NamedTables.{IsTabled, equations_tabled}
use Rattle.pb_typing_declarations.proofs.tables.equation_table.Goals as goal

pub returns : goal.returns
returns c =
    equations_tabled (map equation_form c.args.equations.now) c.in_ok-entries.entries.items c.table.result c.in_ok-entries.ensures
    (subst (λ (es : List (Entry ℕ)). IsTabled c.table.result es) c.deref.ensures.value c.table.ensures)
