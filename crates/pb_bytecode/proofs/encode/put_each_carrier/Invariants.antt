use Rattle.std.proofs.Common.{◌≡◌, ◌++◌, take}
use Rattle.std.specs.List.{flat_map}
use Rattle.pb_bytecode.specs.Spelling
use Rattle.pb_bytecode.proofs.encode.put_each_carrier.Given as goal

abbrev pub invariant-loop-carrier : goal.invariant-loop-carrier
invariant-loop-carrier l = l.out.items ≡ l.fn.out.items ++ flat_map Spelling.carrier_bytes (take l.carrier-index l.carriers)
