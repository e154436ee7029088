use Rattle.std.proofs.Common.{◌≡◌, drop, map}
use Rattle.pb_text_tree.specs.Form.{range_form}
use Rattle.pb_text_printer.specs.Page.{page}
use Rattle.pb_text_printer.specs.Parts.{behind_ranges}
use Rattle.pb_text_printer.proofs.text.write_ranges.Given as goal

abbrev pub invariant-loop-range : goal.invariant-loop-range
invariant-loop-range l = behind_ranges (map range_form (drop l.range-index l.ranges)) (page l.out) ≡ behind_ranges (map range_form l.ranges) (page l.initial.out)
