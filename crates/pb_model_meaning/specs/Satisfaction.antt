-- Which states satisfy a formula of the modal mu-calculus (Bradfield and Stirling, Modal
-- mu-calculi; Groote and Mousavi 2014).
use Rattle.std.specs.Prelude.{Bool, false, not, ◌&&◌, ◌||◌, if◌then◌else◌, []}
use Rattle.std.specs.List.{list_any, list_all}
use Rattle.pb_fixpoint.specs.Solution.{iterate, start, empty}
use Rattle.pb_text_meaning.specs.Syntax.{Name, same_name}
use Rattle.pb_text_meaning.specs.Value.{is_true, value}
use Rattle.pb_text_meaning.specs.Meaning.{assigned}
use Rattle.pb_model_meaning.specs.Syntax.{Formula, Model}
use Rattle.pb_model_meaning.specs.Steps.{State, data_of, is_state, state_count, initial_state}
use Rattle.pb_model_meaning.specs.Steps.{successors}

-- a set of states
abbrev pub States : Type 0
States = State → Bool

-- a set for each variable of a fixpoint
abbrev pub Valuation : Type 0
Valuation = Name → States

-- ρ[X := S]
abbrev pub with_set : Valuation → Name → States → Valuation
with_set ρ X S = λ Y. if same_name X Y then S else ρ Y

-- nothing is true
abbrev pub no_sets : Valuation
no_sets = λ X. empty

-- whether a formula is `true`
abbrev pub is_truth : Formula → Bool
is_truth (Formula.Truth b) = b
is_truth f = false

-- Whether a successor satisfies f, where the states that do are those in S: a successor outside the
-- ranges satisfies `true` and no other formula.
abbrev pub holds_at : Model → Formula → States → State → Bool
holds_at m f S s = if is_state m s then S s else is_truth f

-- ⟦f⟧ρ, the set of states that satisfy f under ρ. The least and the greatest fixpoint of
-- S ↦ ⟦f⟧ρ[X := S] are what as many steps as there are states make of the empty and the full set.
abbrev pub satisfying : Model → Valuation → Formula → States
satisfying m ρ (Formula.Truth b) = λ s. b
satisfying m ρ (Formula.Data x) = λ s. is_true (value (data_of m) (assigned m.variables s []) x)
satisfying m ρ (Formula.Named X) = ρ X
satisfying m ρ (Formula.Not f) = λ s. not (satisfying m ρ f s)
satisfying m ρ (Formula.And f g) = λ s. satisfying m ρ f s && satisfying m ρ g s
satisfying m ρ (Formula.Or f g) = λ s. satisfying m ρ f s || satisfying m ρ g s
satisfying m ρ (Formula.Implies f g) = λ s. not (satisfying m ρ f s) || satisfying m ρ g s
satisfying m ρ (Formula.Box A f) =
    λ s. list_all (holds_at m f (satisfying m ρ f)) (successors m A s)
satisfying m ρ (Formula.Diamond A f) =
    λ s. list_any (holds_at m f (satisfying m ρ f)) (successors m A s)
satisfying m ρ (Formula.Fixpoint sign X f) =
    iterate (state_count m) (λ S. satisfying m (with_set ρ X S) f) (start sign)

-- the model satisfies a formula: its initial state is a state that does
abbrev pub satisfies : Model → Formula → Bool
satisfies m f = is_state m (initial_state m) && satisfying m no_sets f (initial_state m)
