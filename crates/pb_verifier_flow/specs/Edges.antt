-- Where control flows from an instruction, and an operator's interval.
use Rattle.std.specs.Prelude.{ℕ, ◌+◌, List, [], ◌∷◌, Option, Some, None, ℤ, if◌then◌else◌}
use Rattle.pb_bytecode_program.specs.Values.{fits64}
use Rattle.pb_bytecode_program.specs.Transfer.{AbstractState, Edge}
use Rattle.pb_base_values.specs.Interval.{IntegerInterval}

abbrev pub jump_edges : Option (ℕ × AbstractState) → List Edge
jump_edges None = []
jump_edges (Some e) = record { to = e.0; state = e.1 } ∷ []

-- to the next place, and then to the target
abbrev pub edges_of : ℕ → Option AbstractState → Option (ℕ × AbstractState) → List Edge
edges_of q None jump = jump_edges jump
edges_of q (Some k) jump = record { to = q + 1; state = k } ∷ jump_edges jump

-- the interval, if its numbers fit 64 bits
abbrev pub fitting : ℤ × ℤ → Option IntegerInterval
fitting i = if fits64 i.0 i.1 then Some (record { low = i.0; high = i.1 }) else None
