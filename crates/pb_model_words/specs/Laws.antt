-- What states of a packed model say is the state of the model that they stand for.
use Rattle.std.specs.Prelude.{◌≡◌, true}
use Rattle.pb_base_values.specs.Carrier.{Tuple}
use Rattle.pb_model_meaning.specs.Syntax.{Model}
use Rattle.pb_model_meaning.specs.Steps.{State, is_state}
use Rattle.pb_protocol_packing.specs.Unpacked.{unpacked}
use Rattle.pb_protocol_packing.specs.Groups.{groups_of, packed}
use Rattle.pb_protocol_packing.specs.Packable.{IsPackable}
use Rattle.pb_model_words.specs.Vocabulary.{Vocabulary, packed_vocabulary}
use Rattle.pb_model_words.specs.States.{says, says_after}

-- a state of the packed model says the values that make its numbers, and so after any move
abbrev pub StatesSayTheirValues : Type 0
StatesSayTheirValues =
    (m : Model) (v : Vocabulary) (before : Tuple) (t : State) → IsPackable m →
    is_state (packed m) t ≡ true →
    (says (packed_vocabulary (groups_of m) v) t ≡ unpacked (groups_of m) t)
    × (says_after (packed_vocabulary (groups_of m) v) before t ≡ unpacked (groups_of m) t)
