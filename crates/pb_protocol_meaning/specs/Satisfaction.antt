-- Which states of a protocol satisfy a formula.
use Rattle.std.specs.Prelude.{ℕ, Bool, false, not, ◌&&◌, ◌||◌, if◌then◌else◌, []}
use Rattle.std.specs.List.{list_any, list_all}
use Rattle.pb_fixpoint.specs.Solution.{iterate, start}
use Rattle.pb_base_values.specs.Carrier.{tuple_count}
use Rattle.pb_text_meaning.specs.Value.{Assignment, quantified, is_true}
use Rattle.pb_model_meaning.specs.Steps.{State}
use Rattle.pb_model_meaning.specs.Satisfaction.{States, Valuation, with_set, no_sets}
use Rattle.pb_protocol_meaning.specs.Syntax.{Formula, Protocol}
use Rattle.pb_protocol_meaning.specs.Steps.{data_of, state_carriers, is_state, initial_state}
use Rattle.pb_protocol_meaning.specs.Steps.{value_at, successors}

abbrev pub state_count : Protocol → ℕ
state_count m = tuple_count (state_carriers m)

-- whether a formula is `true`
abbrev pub is_truth : Formula → Bool
is_truth (Formula.Truth b) = b
is_truth f = false

-- a successor outside the ranges satisfies `true` and no other formula
abbrev pub holds_at : Protocol → Formula → States → State → Bool
holds_at m f S s = if is_state m s then S s else is_truth f

-- the states that satisfy f, where fixpoints' variables have these sets and those of quantifiers
-- these values
abbrev pub satisfying : Protocol → Valuation → Assignment → Formula → States
satisfying m V c (Formula.Truth b) = λ s. b
satisfying m V c (Formula.Data x) = λ s. is_true (value_at m s c x)
satisfying m V c (Formula.Named X) = V X
satisfying m V c (Formula.Not f) = λ s. not (satisfying m V c f s)
satisfying m V c (Formula.And f g) = λ s. satisfying m V c f s && satisfying m V c g s
satisfying m V c (Formula.Or f g) = λ s. satisfying m V c f s || satisfying m V c g s
satisfying m V c (Formula.Implies f g) = λ s. not (satisfying m V c f s) || satisfying m V c g s
satisfying m V c (Formula.Box A f) =
    λ s. list_all (holds_at m f (satisfying m V c f)) (successors m c A s)
satisfying m V c (Formula.Diamond A f) =
    λ s. list_any (holds_at m f (satisfying m V c f)) (successors m c A s)
satisfying m V c (Formula.Fixpoint sign X f) =
    iterate (state_count m) (λ S. satisfying m (with_set V X S) c f) (start sign)
satisfying m V c (Formula.Quantified q xs f) =
    λ s. quantified (data_of m) q xs (λ d. satisfying m V d f s) c

-- the protocol satisfies a formula: its initial state is a state that does
abbrev pub satisfies : Protocol → Formula → Bool
satisfies m f =
    is_state m (initial_state m) && satisfying m no_sets [] f (initial_state m)
