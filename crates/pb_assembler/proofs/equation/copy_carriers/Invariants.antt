use Rattle.std.proofs.Common.{◌≡◌, true, take}
use Rattle.std.specs.List.{list_all}
use Rattle.pb_assembler.specs.Compiled.{has_fitting_fields}
use Rattle.pb_assembler.proofs.equation.copy_carriers.Given as goal

abbrev pub invariant-loop-carrier : goal.invariant-loop-carrier
invariant-loop-carrier l = record {
  same : l.copies.items ≡ take l.carrier-index l.carriers;
  fit : list_all has_fitting_fields l.copies.items ≡ true;
}
