-- Slots that hold one tuple of a quantifier's carriers, the others being as they were.
use Rattle.std.specs.Prelude.{◌≡◌, ℕ, ◌+◌, ◌≤◌, List, ◌++◌, length, map, take, drop, Some}
use Rattle.std.specs.List.{slice_get}
use Rattle.pb_base_values.specs.Carrier.{Tuple, tuples}
use Rattle.pb_sorts.specs.Carrier.{values_of}
use Rattle.pb_typing_calls.specs.declared.loops.Loops.{Loops}

-- the tuples of its carriers, in order
abbrev pub tuples_of : Loops → List Tuple
tuples_of l = tuples (map values_of l.carriers.now)

-- a list of slots whose places from the quantifier's on hold these values
abbrev pub holding : Loops → Tuple → Tuple → Tuple
holding l slots vs = take l.slot slots ++ (vs ++ drop (length vs) (drop l.slot slots))

-- the slots hold the tuple at a place, and are those of an outer list for the rest
pub record Holds (l : Loops) (outer : Tuple) (k : ℕ) (slots : Tuple) : Type 0 where
  pub tuple : Tuple
  pub at : slice_get (tuples_of l) k ≡ Some tuple
  pub room : l.slot + length tuple ≤ length outer
  pub is : slots ≡ holding l outer tuple
