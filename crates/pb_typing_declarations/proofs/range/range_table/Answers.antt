use Rattle.std.proofs.Common.{◌++◌, List, map, rules, subst}
use Rattle.std.specs.Prelude.{flat_map}
use Rattle.pb_sorts.specs.declared.carrier.Range.{Range}
use Rattle.pb_text_tree.specs.Form.{range_form}
use Rattle.pb_typing_declarations.specs.declared.entry.Entry.{Entry}
use Rattle.pb_typing_declarations.specs.Faults.{repeated, IsAmong}
use Rattle.pb_typing_declarations.specs.Declarations.{empty_faults, range_name}
use Rattle.pb_typing_declarations.proofs.Parts.{among_left}
use Rattle.pb_typing_declarations.proofs.NamedTables.{IsTabled, ranges_tabled}
use Rattle.pb_typing_declarations.proofs.range.range_table.Goals as goal

pub returns-in_err-entries : goal.returns-in_err-entries
returns-in_err-entries c =
    let rs = map range_form c.args.ranges.now in
    let e = c.in_err-entries.field-0.0 in
    let h : IsAmong (flat_map empty_faults rs ++ repeated (map range_name rs)) e = among_left (flat_map empty_faults rs) _ e c.in_err-entries.ensures in
    search rules

pub returns : goal.returns
returns c =
    ranges_tabled (map range_form c.args.ranges.now) c.in_ok-entries.entries.items c.table.result c.in_ok-entries.ensures
    (subst (λ (es : List (Entry Range)). IsTabled c.table.result es) c.deref.ensures.value c.table.ensures)
