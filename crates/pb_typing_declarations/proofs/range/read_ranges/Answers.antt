use Rattle.std.proofs.Common.{rules, map}
use Rattle.std.specs.Prelude.{flat_map}
use Rattle.pb_text_tree.specs.Form.{range_form}
use Rattle.pb_base.specs.declared.or_memory.OrMemory.TheVariants.{Refused}
use Rattle.pb_typing_declarations.specs.Faults.{IsAmong}
use Rattle.pb_typing_declarations.specs.Declarations.{empty_faults}
use Rattle.pb_typing_declarations.proofs.Loops.{among_item}
use Rattle.pb_typing_declarations.proofs.range.read_ranges.Goals as goal

pub returns-in_err-value : goal.returns-in_err-value
returns-in_err-value c =
    let xs = c.args.ranges.now in
    let e = Refused c.in_err-value.field-0.0 in
    let h : IsAmong (flat_map empty_faults (map range_form xs)) e =
    among_item empty_faults range_form xs c.loop-range.range-index c.range-item.result e c.loop-range-test.true c.range-item.is c.loop-range.invariant.left c.in_err-value.ensures in
    search rules
