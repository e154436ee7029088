-- Groups of variables whose numbers are numbers of a range line.
use Rattle.std.specs.Prelude.{◌≤◌, ◌^◌}
use Rattle.pb_protocol_packing.specs.Packing.{Group, Alone, Joined, capacity}

-- so few values, one at least, that the group's range has bounds of 32 bits with a sign
abbrev pub HasFewValues : Group → Type 0
HasFewValues (Alone x) = Unit {0}
HasFewValues (Joined x ps) = (1 ≤ capacity ps) × (capacity ps ≤ 2 ^ 31)
