use Rattle.std.proofs.Common.{◌≡◌, ◌++◌, drop, map}
use Rattle.std.specs.Prelude.{flat_map}
use Rattle.pb_text_tree.specs.Form.{range_form}
use Rattle.pb_text_meaning.specs.Erase.{erased_range}
use Rattle.pb_typing_declarations.specs.Shapes.{range_bounds}
use Rattle.pb_typing_declarations.specs.Tables.{entry_names, entry_values}
use Rattle.pb_typing_declarations.specs.Entries.{range_shown}
use Rattle.pb_typing_declarations.specs.Declarations.{empty_faults, range_name}
use Rattle.pb_typing_declarations.proofs.range.read_ranges.Given as goal

-- all faults are those of the ranges that are left, and so are the entries that are still to come
abbrev pub invariant-loop-range : goal.invariant-loop-range
invariant-loop-range l = record {
  left : flat_map empty_faults (map range_form l.ranges) ≡ flat_map empty_faults (map range_form (drop l.range-index l.ranges));
  names : map range_name (map range_form l.ranges) ≡ entry_names l.entries.items ++ map range_name (map range_form (drop l.range-index l.ranges));
  values : range_bounds (map erased_range (map range_form l.ranges))
      ≡ map (λ e. (e.0, range_shown e.1)) (entry_values l.entries.items) ++ range_bounds (map erased_range (map range_form (drop l.range-index l.ranges)));
}
