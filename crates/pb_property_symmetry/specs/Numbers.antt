-- Numbers of a module's instances where states are moved.
use Rattle.std.specs.Prelude.{ℕ, ◌+◌, ◌*◌, ◌/◌, ◌%◌, List}
use Rattle.std.specs.List.{slice_get}
use Rattle.pb_base_values.specs.Carrier.{Carrier, tuple_count, tuples}
use Rattle.pb_sorts.specs.Instance.{mixed_radix}
use Rattle.pb_model_meaning.specs.Steps.{State}
use Rattle.pb_protocol_scalar_sets.specs.Numbers.{tuple_or_none}

-- Each equation has an instance for each state of these carriers, and instances are numbered
-- equation by equation: so an instance moves with its state.
abbrev pub moved_instance : List Carrier → (State → State) → ℕ → ℕ
moved_instance cs f n =
    n / tuple_count cs * tuple_count cs
    + mixed_radix cs (f (tuple_or_none (slice_get (tuples cs) (n % tuple_count cs))))
