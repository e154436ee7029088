-- The equations of a module have as many instances as the layout of their parameters.
use Rattle.std.proofs.Common.{◌≡◌, ◌+◌, ℕ, suc, List, [], ◌∷◌, length, map, refl, ap, ◌∙◌}
use Rattle.pb_fixpoint_trees.specs.Equations.{total}
use Rattle.pb_base_values.specs.Carrier.{tuple_count}
use Rattle.pb_sorts.specs.Carrier.{values_of}
use Rattle.pb_sorts.specs.Instance.{instances_from}
use Rattle.pb_sorts.specs.Layout.{carriers_of, count_of}
use Rattle.pb_sorts.proofs.InstancePlaces.{length-instances_from-cons}
use Rattle.pb_bytecode.specs.Contents.{EquationContents, Contents}
use Rattle.pb_bytecode.specs.Limits.{instance_count}
use Rattle.pb_bytecode.specs.Meaning.{parameters, signature_of}

pub instances_counted : (k : ℕ) (es : List EquationContents) → length (instances_from k (carriers_of (map (λ (e : EquationContents). e.parameters) es))) ≡ instance_count es
instances_counted k [] = refl
instances_counted k (e ∷ es) =
    length-instances_from-cons k (map values_of e.parameters) (carriers_of (map (λ (e : EquationContents). e.parameters) es))
    ∙ ap (λ x. tuple_count (map values_of e.parameters) + x) (instances_counted (suc k) es)

instance_count-total : (es : List EquationContents) → instance_count es ≡ total (map signature_of es)
instance_count-total [] = refl
instance_count-total (e ∷ es) = ap (λ x. tuple_count (map values_of e.parameters) + x) (instance_count-total es)

pub count_is_limited : (m : Contents) → count_of (parameters m) ≡ instance_count m.equations
count_is_limited m = instances_counted 0 m.equations

pub count_is_total : (m : Contents) → count_of (parameters m) ≡ total (map signature_of m.equations)
count_is_total m = count_is_limited m ∙ instance_count-total m.equations
