-- Where exchanges are symmetries of equations, so are their sequences.
use Rattle.std.specs.Prelude.{◌≡◌, ℕ, Bool, true, List}
use Rattle.pb_base_values.specs.Carrier.{Value, contains}
use Rattle.pb_text_meaning.specs.Syntax.{Name}
use Rattle.pb_fixpoint.specs.Solution.{Equation}
use Rattle.pb_fixpoint_symmetry.specs.Symmetry.{IsSymmetry, AreClosed}
use Rattle.pb_protocol_meaning.specs.Syntax.{Protocol}
use Rattle.pb_protocol_scalar_sets.specs.Numbers.{exchanged_number}
use Rattle.pb_protocol_representatives.specs.Exchanges.{sequence, neighbours_exchanged}

-- a sequence of symmetries that keep known numbers is one
abbrev pub SequencesAreSymmetries : Type 0
SequencesAreSymmetries =
    (known : ℕ → Bool) (E : List (Equation ℕ)) → AreClosed known E → (exchange : ℕ → ℕ → ℕ) →
    ((k n : ℕ) → known n ≡ true → known (exchange k n) ≡ true) →
    ((k : ℕ) → IsSymmetry known E (exchange k)) →
    (ks : List ℕ) → IsSymmetry known E (sequence exchange ks)

-- where each exchange of two elements is a symmetry, that of neighbours at each place is one
abbrev pub NeighboursAreSymmetries : Type 0
NeighboursAreSymmetries =
    (known : ℕ → Bool) (E : List (Equation ℕ)) → AreClosed known E →
    (m : Protocol) (sort : Name) (elements : List Value) →
    ((u w : Value) → contains elements u ≡ true → contains elements w ≡ true →
    IsSymmetry known E (exchanged_number m sort u w)) →
    (k : ℕ) → IsSymmetry known E (neighbours_exchanged m sort elements k)
