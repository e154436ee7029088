-- A truth for each instance's number, as an environment.
use Rattle.std.specs.Prelude.{◌≡◌, ℕ, Bool, false, ◌&&◌, List, map, slice_index_or, Option, Some, None, position}
use Rattle.pb_fixpoint.specs.Solution.{Environment}
use Rattle.pb_base_values.specs.Carrier.{Carrier, Tuple}
use Rattle.pb_sorts.specs.Instance as numbered
use Rattle.pb_sorts.specs.Instance.{is_instance, number_of}
use Rattle.pb_text_meaning.specs.Syntax.{Name, same_name, Equation, Spec}
use Rattle.pb_text_meaning.specs.Formula.{Instance, carriers_of}
use Rattle.pb_text_meaning.specs.Names.{AreNamedApart}
use Rattle.pb_sorts.specs.declared.carrier.Carrier as declared
use Rattle.pb_sorts.specs.Layout as layouts

-- the carriers of each equation's parameters
abbrev pub all_carriers : Spec → List (List Carrier)
all_carriers spec = map (λ (X : Equation). carriers_of spec X.parameters) spec.equations

-- the truth that stands at an instance's number, and false where it has none
abbrev pub truth_at : List (List Carrier) → List Bool → numbered.Instance → Bool
truth_at carriers truths i =
    is_instance carriers i && slice_index_or truths (number_of carriers i) false

abbrev pub truth_of : List (List Carrier) → List Bool → Option ℕ → Tuple → Bool
truth_of carriers truths None values = false
truth_of carriers truths (Some k) values =
    truth_at carriers truths (record { equation = k; values = values })

-- the place of the first equation of a name
abbrev pub place_named : List Equation → Name → Option ℕ
place_named E x = position (λ X. same_name X.name x) E

abbrev pub environment_of : Spec → List Bool → Environment Instance
environment_of spec truths =
    λ i. truth_of (all_carriers spec) truths (place_named spec.equations i.name) i.values

-- The layout has the carriers of each equation's parameters, and no two equations have one name: so
-- a name and a place say the same equation.
pub record IsLaidOut (spec : Spec) (layout : List (List declared.Carrier)) : Type 0 where
  pub apart : AreNamedApart spec.equations
  pub carriers : layouts.carriers_of layout ≡ all_carriers spec
