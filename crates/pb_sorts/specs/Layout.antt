-- What a layout is made of: for each equation the carriers of its parameters, in order. Its numbers
-- follow from these.
use Rattle.std.specs.Prelude.{◌≡◌, ℕ, ◌+◌, ◌≤◌, List, map, length, slice_index, All, Vec}
use Rattle.pb_base_values.specs.Carrier as carriers
use Rattle.pb_sorts.specs.declared.carrier.Carrier.{Carrier}
use Rattle.pb_base.specs.declared.limits.TheConstants.{MAX_EQUATIONS, MAX_PARAMETERS}
use Rattle.pb_sorts.specs.declared.counting.TheConstants.{MAX_NUMBERS}
use Rattle.pb_sorts.specs.Carrier.{values_of}
use Rattle.pb_sorts.specs.Instance.{instances, first_of}

-- the values of each parameter of each equation
abbrev pub carriers_of : List (List Carrier) → List (List carriers.Carrier)
carriers_of equations = map (λ parameters. map values_of parameters) equations

-- how many instances there are
abbrev pub count_of : List (List Carrier) → ℕ
count_of equations = length (instances (carriers_of equations))

-- the lists in vectors
abbrev pub lists_of : {A : Type 0} → List (Vec Carrier A) → List (List Carrier)
lists_of equations = map (λ parameters. parameters.items) equations

-- the first number of each equation, and behind these the count of all instances
pub record IsNumbered (equations : List (List Carrier)) (firsts : List ℕ) : Type 0 where
  pub long : length firsts ≡ length equations + 1
  pub starts : (k : ℕ) → k ≤ length equations
      → slice_index firsts k ≡ first_of (carriers_of equations) k

-- so many equations, parameters and instances (L02) a layout may have
pub record IsWithinLimits (equations : List (List Carrier)) : Type 0 where
  pub few_equations : length equations ≤ MAX_EQUATIONS
  pub few_parameters : All (λ parameters. length parameters ≤ MAX_PARAMETERS) equations
  pub few_instances : count_of equations ≤ MAX_NUMBERS
