-- The numbers of a protocol's states, and of states whose elements are exchanged. States are
-- numbered in mixed radix (Knuth 1997, section 4.1): the value at the last position is the lowest
-- digit. Packing variables keeps these numbers, so that they are those of the model that is solved.
use Rattle.std.specs.Prelude.{ℕ, ◌+◌, ◌*◌, ◌/◌, ◌%◌, if◌then◌else◌, [], Option, Some, None}
use Rattle.std.specs.Ordering.{int_eq}
use Rattle.std.specs.List.{slice_get}
use Rattle.pb_base_values.specs.Carrier.{Value, Tuple, tuples}
use Rattle.pb_sorts.specs.Instance.{mixed_radix}
use Rattle.pb_text_meaning.specs.Syntax.{Name}
use Rattle.pb_model_meaning.specs.Steps.{State}
use Rattle.pb_protocol_meaning.specs.Syntax.{Protocol}
use Rattle.pb_protocol_meaning.specs.Steps.{data_of, state_carriers}
use Rattle.pb_protocol_meaning.specs.Satisfaction.{state_count}
use Rattle.pb_protocol_symmetry.specs.States.{permuted}

abbrev pub state_number : Protocol → State → ℕ
state_number m s = mixed_radix (state_carriers m) s

abbrev pub tuple_or_none : Option Tuple → State
tuple_or_none (Some s) = s
tuple_or_none None = []

-- the state that has a number
abbrev pub state_at : Protocol → ℕ → State
state_at m n = tuple_or_none (slice_get (tuples (state_carriers m)) n)

-- Each equation has an instance for each state, and instances are numbered equation by equation: so
-- a permutation moves an instance's number with its state's.
abbrev pub permuted_number : Protocol → Name → (Value → Value) → (Value → Value) → ℕ → ℕ
permuted_number m sort p back n =
    n / state_count m * state_count m
    + state_number m
    (permuted (data_of m) sort p back m.variables (state_at m (n % state_count m)))

-- of two elements each becomes the other
abbrev pub exchanged : Value → Value → Value → Value
exchanged a b v = if int_eq v a then b else (if int_eq v b then a else v)

-- the number of the instance where two elements are exchanged
abbrev pub exchanged_number : Protocol → Name → Value → Value → ℕ → ℕ
exchanged_number m sort a b n = permuted_number m sort (exchanged a b) (exchanged a b) n
