-- The exit status of a run, by how it ended.
use Rattle.std.specs.Prelude.{ℕ, if◌then◌else◌, nat_le}
use Rattle.pb_command_line.specs.declared.status.Status.{Status}
use Rattle.pb_command_line.specs.declared.status.Status.TheVariants.{Answered, Refused, Usage, OutOfMemory, Failed, False, Unknown}

abbrev pub code_of : Status → ℕ
code_of Answered = 0
code_of Refused = 1
code_of Usage = 2
code_of OutOfMemory = 3
code_of Failed = 4
code_of False = 5
code_of Unknown = 6

-- how much a status matters beside others
abbrev pub weight_of : Status → ℕ
weight_of Answered = 0
weight_of Unknown = 1
weight_of False = 2
weight_of Refused = 3
weight_of Usage = 4
weight_of OutOfMemory = 5
weight_of Failed = 6

-- the status of a run of two parts, by theirs: that which matters more
abbrev pub worse : Status → Status → Status
worse one other = if nat_le (weight_of other) (weight_of one) then one else other
