use Rattle.std.proofs.Common.{◌∙◌, refl}
use Rattle.pb_text_printer.specs.Page.{page}
use Rattle.pb_text_printer.proofs.ListParts.{range-next, ranges-end}
use Rattle.pb_text_printer.proofs.text.write_ranges.Goals as goal

pub loop-range-init : goal.loop-range-init
loop-range-init c = refl

pub loop-range-preserved : goal.loop-range-preserved
loop-range-preserved c =
    range-next c.args.ranges.now c.loop-range.range-index c.range-item.result (page c.loop-range.out) (page c.write_range.new.out) c.loop-range-test.true c.range-item.is c.in_ok-write_range.ensures
    ∙ c.loop-range.invariant

pub returns : goal.returns
returns c = ranges-end c.args.ranges.now c.loop-range.range-index (page c.loop-range.out) c.loop-range-test.false ∙ c.loop-range.invariant
