use Rattle.std.proofs.Common.{◌≡◌, ℕ, suc, Bool, true, List, Option, Some, None, refl}
use Rattle.std.specs.List.{slice_get}
use Rattle.pb_base_values.specs.Carrier.{Value, contains}
use Rattle.pb_sorts.proofs.TuplePlaces.{contains-slice_get}
use Rattle.pb_text_meaning.specs.Syntax.{Name}
use Rattle.pb_fixpoint.specs.Solution.{Equation}
use Rattle.pb_fixpoint_symmetry.specs.Symmetry.{IsSymmetry, AreClosed}
use Rattle.pb_protocol_meaning.specs.Syntax.{Protocol}
use Rattle.pb_protocol_scalar_sets.specs.Numbers.{exchanged_number}
use Rattle.pb_protocol_representatives.specs.Exchanges.{exchanged_two, neighbours_exchanged}
use Rattle.pb_protocol_representatives.proofs.laws.neighbours_are_symmetries.Goals as goal

module _ (known : ℕ → Bool) (E : List (Equation ℕ)) (closed : AreClosed known E) (m : Protocol) (sort : Name) (elements : List Value)
    (each : (u w : Value) → contains elements u ≡ true → contains elements w ≡ true → IsSymmetry known E (exchanged_number m sort u w)) where
  symmetric : (k : ℕ) → IsSymmetry known E (neighbours_exchanged m sort elements k)
  symmetric k = by (slice_get elements k) (slice_get elements (suc k)) refl refl
    where
      by : (o p : Option Value) → slice_get elements k ≡ o → slice_get elements (suc k) ≡ p → IsSymmetry known E (λ n. exchanged_two m sort o p n)
      by None p e f = closed
      by (Some u) None e f = closed
      by (Some u) (Some w) e f = each u w (contains-slice_get elements k u e) (contains-slice_get elements (suc k) w f)

pub returns : goal.returns
returns c = λ known E closed m sort elements each k. symmetric known E closed m sort elements each k
