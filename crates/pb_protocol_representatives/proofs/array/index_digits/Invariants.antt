use Rattle.std.proofs.Common.{◌≡◌, ◌++◌, map, drop}
use Rattle.pb_protocol_scalar_sets.specs.Sorts.{spec_of}
use Rattle.pb_protocol_scalar_sets.specs.View.{variable_said}
use Rattle.pb_protocol_representatives.specs.Tables.{index_digits}
use Rattle.pb_protocol_representatives.proofs.array.index_digits.Given as goal

-- the digits of the indices that are left come after those that are there
abbrev pub invariant-loop-index : goal.invariant-loop-index
invariant-loop-index l =
    let spec = spec_of l.set.protocol.now in
    l.digits.items ++ index_digits spec l.set.sort.now (map variable_said (drop l.index-index l.indices))
    ≡ index_digits spec l.set.sort.now (map variable_said l.indices)
