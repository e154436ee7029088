-- The packed state of a state: each group has the number that its values make, the last fastest (a
-- mixed radix, Knuth 1997, section 4.1).
use Rattle.std.specs.Prelude.{ℕ, ◌+◌, ◌*◌, pos, ◌-ℤ◌, List, [], ◌∷◌, length, drop}
use Rattle.pb_base_values.specs.Carrier.{Tuple, at_least_none}
use Rattle.pb_model_meaning.specs.Steps.{State}
use Rattle.pb_protocol_packing.specs.Packing.{Member, Group, Alone, Joined, capacity}

-- the number of the values of these variables, which come first
abbrev pub number_in : List Member → Tuple → ℕ
number_in [] vs = 0
number_in (p ∷ ps) [] = 0
number_in (p ∷ ps) (v ∷ vs) = at_least_none (v -ℤ p.low) * capacity ps + number_in ps vs

abbrev pub packed_state : List Group → State → State
packed_state [] s = []
packed_state (Alone x ∷ gs) [] = []
packed_state (Alone x ∷ gs) (v ∷ s) = v ∷ packed_state gs s
packed_state (Joined x ps ∷ gs) s =
    pos (number_in ps s) ∷ packed_state gs (drop (length ps) s)
