use Rattle.std.proofs.Common.{◌≡◌, ◌++◌, map, take}
use Rattle.std.specs.List.{flat_map}
use Rattle.pb_bytecode.specs.Spelling
use Rattle.pb_bytecode.specs.Views.{equation_contents}
use Rattle.pb_bytecode.proofs.encode.put_equations.Given as goal

abbrev pub invariant-loop-equation : goal.invariant-loop-equation
invariant-loop-equation l = l.out.items ≡ l.fn.out.items ++ flat_map Spelling.equation_bytes (map equation_contents (take l.equation-index l.equations))
