-- The initial instance: it has a number, and the truth there is the answer.
use Rattle.std.proofs.Common.{◌≡◌, ℕ, ◌<◌, Bool, true, false, cond, List, length, get_or, Option, Some, None, sym, ◌∙◌, ap, true≢false}
use Rattle.std.specs.List.{slice_get}
use Rattle.std.proofs.lemmas.Bool.{lt-ltb}
use Rattle.std.proofs.lemmas.List.Folds.{find_at}
use Rattle.std.proofs.lemmas.Option.{same_Some, slice_get_within, slice_get-get_or}
use Rattle.pb_fixpoint.specs.Solution.{Environment, solution, empty}
use Rattle.pb_base_values.specs.Carrier as carriers
use Rattle.pb_base_values.specs.Carrier.{Tuple}
use Rattle.pb_sorts.specs.declared.carrier.Carrier.{Carrier}
use Rattle.pb_sorts.specs.Instance as numbered
use Rattle.pb_sorts.specs.Instance.{instances, is_instance, is_tuple_of}
use Rattle.pb_sorts.specs.Layout.{carriers_of}
use Rattle.pb_sorts.proofs.Places.{slice_get-mapped}
use Rattle.pb_text_meaning.specs.Syntax.{Equation, Spec, same_name}
use Rattle.pb_text_meaning.specs.Formula as formula
use Rattle.pb_text_meaning.specs.Formula.{fits, call_truth, equation_named}
use Rattle.pb_text_meaning.specs.Meaning.{answer, equations_of}
use Rattle.pb_typing_rules.specs.WellTyped.{IsWellTyped}
use Rattle.pb_typing_tree.specs.InitialPlace.{initial_place, initial_values, HasInitial, IsInitial}
use Rattle.pb_typing_values.specs.Environment.{all_carriers, environment_of, place_named, IsLaidOut}
use Rattle.pb_typing_values.proofs.Called.{called, counted}

by_equation : (S : Spec) (o : Option Equation) → slice_get S.equations (initial_place S) ≡ o → fits S o (initial_values S) ≡ true → HasInitial S
by_equation S None there within = absurd (true≢false (sym within))
by_equation S (Some X) there within = record { equation = X; there = there; within = within }

has_initial : (S : Spec) → IsWellTyped S → HasInitial S
has_initial S h =
    by_equation S (equation_named S.equations S.initial) (sym (find_at (λ (X : Equation). same_name X.name S.initial) S.equations)) h.values

-- it is an instance of the layout
pub asked-there : (S : Spec) (layout : List (List Carrier)) (i : numbered.Instance) → IsLaidOut S layout → IsWellTyped S → IsInitial S i.equation i.values → is_instance (carriers_of layout) i ≡ true
asked-there S layout i laid h is =
    let x : HasInitial S = has_initial S h in
    ap (λ (css : List (List carriers.Carrier)). is_instance css i) laid.carriers
    ∙ (ap (λ (k : ℕ). is_tuple_of (slice_get (all_carriers S) k) i.values) is.equation
    ∙ (ap (λ (o : Option (List carriers.Carrier)). is_tuple_of o i.values) (slice_get-mapped (λ (X : Equation). formula.carriers_of S X.parameters) S.equations (initial_place S) x.equation x.there)
    ∙ (ap (λ (vs : Tuple). is_tuple_of (Some (formula.carriers_of S x.equation.parameters)) vs) is.values ∙ x.within)))

-- the truth at its number, in the solution
pub asked : (S : Spec) (layout : List (List Carrier)) (truths : List Bool) (n : ℕ) (i : numbered.Instance)
    → IsLaidOut S layout → IsWellTyped S → IsInitial S i.equation i.values → slice_get (instances (carriers_of layout)) n ≡ Some i
    → environment_of S truths ≡ solution (equations_of S) empty → get_or truths n false ≡ answer S
asked S layout truths n i laid h is at solved =
    let x : HasInitial S = has_initial S h in
    let lt : initial_place S < length S.equations = slice_get_within S.equations (initial_place S) x.equation x.there in
    let place : place_named S.equations S.initial ≡ Some (initial_place S) = ap (λ (b : Bool). cond b (Some (initial_place S)) None) (lt-ltb (initial_place S) (length S.equations) lt) in
    let same : place_named S.equations S.initial ≡ Some i.equation = place ∙ ap (λ (k : ℕ). Some k) (sym is.equation) in
    sym (counted layout (all_carriers S) truths n i laid.carriers at)
    ∙ (sym (called S truths S.initial i.values i.equation same)
    ∙ (ap (λ (vs : Tuple). call_truth S (environment_of S truths) (record { name = S.initial; values = vs })) is.values
    ∙ ap (λ (t : Environment formula.Instance). call_truth S t (record { name = S.initial; values = initial_values S })) solved))

-- what stands at a place is there by any default
pub any-default : (xs : List Bool) (n : ℕ) (d e : Bool) → n < length xs → get_or xs n d ≡ get_or xs n e
any-default xs n d e lt = same_Some (get_or xs n d) (get_or xs n e) (sym (slice_get-get_or xs n d lt) ∙ slice_get-get_or xs n e lt)
