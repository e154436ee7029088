-- The state of a model that a state of the packed model stands for.
use Rattle.std.specs.Prelude.{◌≡◌, ℕ, ◌/◌, ◌%◌, pos, ◌+ℤ◌, true, ⊤, List, [], ◌∷◌, ◌++◌}
use Rattle.pb_base_values.specs.Carrier.{Tuple, at_least_none}
use Rattle.pb_model_meaning.specs.Syntax.{Model}
use Rattle.pb_model_meaning.specs.Steps.{State, is_state}
use Rattle.pb_protocol_packing.specs.Packing.{Member, Group, Alone, Joined, capacity}

-- the values of a group's variables at its number
abbrev pub digits : List Member → ℕ → Tuple
digits [] k = []
digits (p ∷ ps) k = (p.low +ℤ pos (k / capacity ps)) ∷ digits ps (k % capacity ps)

abbrev pub unpacked : List Group → State → State
unpacked [] t = []
unpacked (g ∷ gs) [] = []
unpacked (Alone x ∷ gs) (v ∷ t) = v ∷ unpacked gs t
unpacked (Joined x ps ∷ gs) (v ∷ t) = digits ps (at_least_none v) ++ unpacked gs t

-- t is a state of n where s is one of m, and then s is what t says
abbrev pub StandsFor : Model → Model → (State → State) → State → State → Type 0
StandsFor m n says s t = (is_state n t ≡ is_state m s) × (is_state n t ≡ true → says t ≡ s)

-- and so of two lists, one by one
abbrev pub AllStandFor : Model → Model → (State → State) → List State → List State → Type 0
AllStandFor m n says [] [] = ⊤
AllStandFor m n says (s ∷ ss) (t ∷ ts) = StandsFor m n says s t × AllStandFor m n says ss ts
AllStandFor m n says [] (t ∷ ts) = ⊥
AllStandFor m n says (s ∷ ss) [] = ⊥
