use Rattle.std.proofs.Common.{◌≡◌, drop, map}
use Rattle.std.specs.Prelude.{flat_map}
use Rattle.pb_text_tree.specs.Form.{spec_form, range_form}
use Rattle.pb_text_meaning.specs.Erase.{erase}
use Rattle.pb_typing_declarations.specs.Declarations.{range_faults}
use Rattle.pb_typing_declarations.proofs.tables.Tables.check_ranges.Given as goal

-- all faults are those of the ranges that are left
abbrev pub invariant-loop-range : goal.invariant-loop-range
invariant-loop-range l =
    flat_map (range_faults (erase (spec_form l.self.spec.now))) (map range_form l.ranges)
    ≡ flat_map (range_faults (erase (spec_form l.self.spec.now))) (map range_form (drop l.range-index l.ranges))
