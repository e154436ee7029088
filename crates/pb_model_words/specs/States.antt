-- What a state says of a model's variables. Where these are packed, the state has a number for each
-- group of them, and says the values that make the number.
use Rattle.std.specs.Prelude.{ℕ, pos, int_le, int_lt, Bool, true, ◌&&◌, if◌then◌else◌}
use Rattle.std.specs.Prelude.{List, [], ◌∷◌, Option, Some, None}
use Rattle.pb_base_values.specs.Carrier.{Value, Tuple}
use Rattle.pb_protocol_packing.specs.Packing.{Group, Alone, Joined, capacity}
use Rattle.pb_protocol_packing.specs.Unpacked.{unpacked}
use Rattle.pb_model_words.specs.Vocabulary.{Vocabulary}

-- the whole numbers below n
abbrev pub is_below : ℕ → Value → Bool
is_below n v = int_le (pos 0) v && int_lt v (pos n)

-- whether values of the group's variables make this number; each value of one variable is its own
abbrev pub is_number : Group → Value → Bool
is_number (Alone x) v = true
is_number (Joined x ps) v = is_below (capacity ps) v

-- a group's number after a move. A value that isn't one, where the move leaves the ranges, says
-- nothing of the group's variables: they count as they were before, or as those of 0.
abbrev pub group_number_after : Group → Value → Value → Value
group_number_after g u v = if is_number g v then v else (if is_number g u then u else pos 0)

-- the numbers of all groups after a move, by their values before it and after
abbrev pub numbers_after : List Group → Tuple → Tuple → Tuple
numbers_after (g ∷ gs) (u ∷ us) (v ∷ vs) = group_number_after g u v ∷ numbers_after gs us vs
numbers_after (g ∷ gs) [] (v ∷ vs) = group_number_after g (pos 0) v ∷ numbers_after gs [] vs
numbers_after gs us vs = []

-- the values of all variables after a move, where these are packed in groups or aren't
abbrev pub says_by : Option (List Group) → Tuple → Tuple → Tuple
says_by None us vs = vs
says_by (Some gs) us vs = unpacked gs (numbers_after gs us vs)

-- the values of a vocabulary's variables at a state
abbrev pub says : Vocabulary → Tuple → Tuple
says m t = says_by m.groups [] t

-- and after a move from another state
abbrev pub says_after : Vocabulary → Tuple → Tuple → Tuple
says_after m before after = says_by m.groups before after
