use Rattle.std.proofs.Common.{rules, map}
use Rattle.std.specs.Prelude.{flat_map, Contains}
use Rattle.pb_text_tree.specs.Form.{spec_form, range_form}
use Rattle.pb_text_meaning.specs.Erase.{erase}
use Rattle.pb_base.specs.declared.or_memory.OrMemory.TheVariants.{Refused}
use Rattle.pb_typing_declarations.specs.Declarations.{range_faults}
use Rattle.pb_typing_declarations.proofs.Loops.{among_item}
use Rattle.pb_typing_declarations.proofs.tables.Tables.check_ranges.Goals as goal

pub returns-in_err-check_range : goal.returns-in_err-check_range
returns-in_err-check_range c =
    let S = erase (spec_form c.args.self.now.spec.now) in
    let xs = c.args.ranges.now in
    let fault = c.in_err-check_range.field-0.0 in
    let h : Contains (flat_map (range_faults S) (map range_form xs)) fault =
    among_item (range_faults S) range_form xs c.loop-range.range-index c.range-item.result (Refused fault) c.loop-range-test.true c.range-item.is c.loop-range.invariant c.in_err-check_range.ensures in
    search rules
