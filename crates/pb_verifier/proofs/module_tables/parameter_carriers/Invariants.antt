use Rattle.std.proofs.Common.{◌≡◌, map, take}
use Rattle.std.specs.Prelude.{vec_items}
use Rattle.pb_verifier.specs.Programs.{parameters_of}
use Rattle.pb_verifier.proofs.module_tables.parameter_carriers.Given as goal

abbrev pub invariant-loop-equation : goal.invariant-loop-equation
invariant-loop-equation l = map vec_items l.carriers.items ≡ map parameters_of (take l.equation-index l.equations)
