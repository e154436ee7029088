-- A list of values as the values of all slots.
use Rattle.std.specs.Prelude.{pos, slice_index_or}
use Rattle.pb_base_values.specs.Carrier.{Tuple}
use Rattle.pb_typing_tree.specs.Meaning.{Slots}

-- the slots behind the list hold 0
abbrev pub slots_of : Tuple → Slots
slots_of vs = λ s. slice_index_or vs s (pos 0)
