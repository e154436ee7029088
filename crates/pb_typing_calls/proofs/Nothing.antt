-- Where no instance is true, the environment is the empty one.
use Rattle.std.proofs.Common.{◌≡◌, ℕ, Bool, false, List, [], Option, Some, None}
use Rattle.std.proofs.Common.{refl, ◌∙◌, ap}
use Rattle.std.proofs.Math.Path.{fun_ext}
use Rattle.std.proofs.lemmas.Bool.{and_right}
use Rattle.pb_fixpoint.specs.Solution.{empty}
use Rattle.pb_base_values.specs.Carrier.{Carrier, Tuple}
use Rattle.pb_sorts.specs.Instance.{is_instance}
use Rattle.pb_text_meaning.specs.Syntax.{Spec}
use Rattle.pb_typing_values.specs.Environment.{all_carriers, environment_of, place_named, truth_of}

pub nothing-holds : (spec : Spec) (truths : List Bool) → truths ≡ []
    → environment_of spec truths ≡ empty
nothing-holds spec truths e =
    ap (environment_of spec) e
    ∙ fun_ext (λ i. by (all_carriers spec) (place_named spec.equations i.name) i.values)
  where
    by : (css : List (List Carrier)) (o : Option ℕ) (vs : Tuple) → truth_of css [] o vs ≡ false
    by css None vs = refl
    by css (Some k) vs = and_right (is_instance css (record { equation = k; values = vs })) _ refl
