use Rattle.std.proofs.Common.{rules, map}
use Rattle.std.specs.Prelude.{flat_map, Contains}
use Rattle.pb_text_tree.specs.Form.{spec_form, sort_declaration_form}
use Rattle.pb_text_meaning.specs.Erase.{erase}
use Rattle.pb_base.specs.declared.or_memory.OrMemory.TheVariants.{Refused}
use Rattle.pb_typing_declarations.specs.Declarations.{sort_faults}
use Rattle.pb_typing_declarations.proofs.Loops.{among_item}
use Rattle.pb_typing_declarations.proofs.tables.Tables.check_sorts.Goals as goal

pub returns-in_err-check_sort : goal.returns-in_err-check_sort
returns-in_err-check_sort c =
    let S = erase (spec_form c.args.self.now.spec.now) in
    let xs = c.args.sorts.now in
    let fault = c.in_err-check_sort.field-0.0 in
    let h : Contains (flat_map (sort_faults S) (map sort_declaration_form xs)) fault =
    among_item (sort_faults S) sort_declaration_form xs c.loop-declaration.declaration-index c.declaration-item.result
    (Refused fault) c.loop-declaration-test.true c.declaration-item.is c.loop-declaration.invariant c.in_err-check_sort.ensures in
    search rules
