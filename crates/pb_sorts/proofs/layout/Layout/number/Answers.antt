use Rattle.std.proofs.Common.{◌≡◌, ◌+◌, Bool, true, false, true≢false, IsTrue, Option, None, Some, IsSome, map, refl, sym, ◌∙◌, ap, subst, arith, ℕ}
use Rattle.std.specs.List.{slice_get}
use Rattle.std.proofs.lemmas.Option.{none-some}
use Rattle.pb_base_values.specs.Carrier.{Tuple, is_within}
use Rattle.pb_sorts.specs.Carrier.{values_of}
use Rattle.pb_sorts.specs.Instance.{instances, is_instance}
use Rattle.pb_sorts.specs.Layout.{carriers_of, IsWithinLimits}
use Rattle.pb_sorts.proofs.InstancePlaces.{with_values}
use Rattle.pb_sorts.proofs.Layouts.{limits_view, carriers_got, tuples_are_few, number_at, number_fits, is_instance-at}
use Rattle.pb_sorts.proofs.layout.Layout.number.Goals as goal
use Rattle.pb_sorts.proofs.layout.Layout.number.Goals.{After-deref-3}

-- no place, where the test is false
none_found : (o : Option ℕ) (b d : Bool) → o ≡ None → d ≡ b → (false ≡ true → IsTrue b) × (IsTrue b → false ≡ true) → (IsSome o → IsTrue d) × (IsTrue d → IsSome o)
none_found None b d is same h = (λ e. absurd (true≢false (sym e)), λ e. absurd (true≢false (sym (h.1 (subst IsTrue same e)))))
none_found (Some n) b d is same h = absurd (none-some n (sym is))

-- the equation's carriers
carriers_at : (c : After-deref-3) → slice_get c.args.self.now c.args.instance.now.equation ≡ Some c.deref-2.result.now
carriers_at c =
    let got = c.in_ok-carriers.ensures.lookup in
    carriers_got c.self.inside.carriers.items c.deref.result.now c.args.self.now c.args.instance.now.equation
    c.in_ok-carriers.carriers.now c.deref-2.result.now c.deref.ensures.value c.self.view_is got.3.0 got.1 c.deref-2.ensures.value

limits : (c : After-deref-3) → IsWithinLimits c.args.self.now
limits c = limits_view c.self.inside.carriers.items c.self.inside.firsts.items c.args.self.now c.self.view_is c.self.invariant

-- whether there is such an instance, by its values
tested : (c : After-deref-3) → is_instance (carriers_of c.args.self.now) (with_values c.args.instance.now.equation c.args.instance.now.values.items)
    ≡ is_within (map values_of c.deref-2.result.now) c.deref-3.result.now
tested c =
    is_instance-at c.args.self.now c.args.instance.now.equation c.deref-2.result.now c.args.instance.now.values.items (carriers_at c)
    ∙ ap (is_within (map values_of c.deref-2.result.now)) (sym c.deref-3.ensures)

pub place_of_tuple-requires : goal.place_of_tuple-requires
place_of_tuple-requires c =
    let at = (goal.at.place_of_tuple-requires c).After-deref-3 in
    tuples_are_few c.args.self.now c.args.instance.now.equation c.deref-2.result.now (limits at) (carriers_at at)

pub returns-in_err-place-clause-exists : goal.returns-in_err-place-clause-exists
returns-in_err-place-clause-exists c =
    none_found c.from_residual-in_err-place.result (is_within (map values_of c.deref-2.result.now) c.deref-3.result.now)
    _ c.from_residual-in_err-place.ensures (tested (goal.at.returns-in_err-place-clause-exists c).After-deref-3) c.in_err-place.ensures.exists

pub overflow_add-result : goal.overflow_add-result
overflow_add-result c =
    let at = (goal.at.overflow_add-result c).After-deref-3 in
    let fits = number_fits c.args.self.now c.args.instance.now.equation c.in_ok-place.place c.deref-2.result.now c.deref-3.result.now (limits at) (carriers_at at) c.in_ok-place.ensures.place in
    omega (arith, c.first.ensures, fits)

pub returns-clause-exists : goal.returns-clause-exists
returns-clause-exists c =
    let within : is_within (map values_of c.deref-2.result.now) c.deref-3.result.now ≡ true = c.in_ok-place.ensures.exists.0 refl in
    (λ _. tested (goal.at.returns-clause-exists c).After-deref-3 ∙ within, λ _. refl)

pub returns-clause-place : goal.returns-clause-place
returns-clause-place c =
    let k = c.args.instance.now.equation in
    ap (λ (n : ℕ). slice_get (instances (carriers_of c.args.self.now)) (n + c.in_ok-place.place)) c.first.ensures
    ∙ (number_at c.args.self.now k c.in_ok-place.place c.deref-2.result.now c.deref-3.result.now (carriers_at (goal.at.returns-clause-place c).After-deref-3) c.in_ok-place.ensures.place
    ∙ ap (λ (vs : Tuple). Some (with_values k vs)) c.deref-3.ensures)
