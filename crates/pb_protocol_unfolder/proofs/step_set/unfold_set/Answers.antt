use Rattle.std.proofs.Common.{◌≡◌, ◌<◌, ◌∙◌, inl, inr, sym, ap, subst, arith, List, map, length}
use Rattle.std.specs.Prelude.{Contains}
use Rattle.std.proofs.lemmas.List.{length-map}
use Rattle.pb_protocol_tree.specs.Form.{step_set_form}
use Rattle.pb_text_meaning.specs.Syntax.{Name}
use Rattle.pb_text_tree.specs.declared.place.Place.{Place}
use Rattle.pb_protocol_unfolding.specs.Unfolding.{Instance, instances, named_steps}
use Rattle.pb_protocol_unfolder_steps.specs.declared.unfolder.Unfolder.{Unfolder}
use Rattle.pb_protocol_unfolder_steps.specs.Elements.{instance_said}
use Rattle.pb_protocol_unfolder_steps.specs.Steps.{is_kept}
use Rattle.pb_protocol_unfolder_steps.specs.Unfolder.{protocol_in, scope_within}
use Rattle.pb_protocol_unfolder.specs.Apart.{name_bytes}
use Rattle.pb_protocol_unfolder.specs.Faults.{IsFaultOfSteps}
use Rattle.pb_protocol_unfolder.specs.Left.{left_set, member_names}
use Rattle.pb_protocol_unfolder.specs.Operators.{name_count}
use Rattle.pb_protocol_unfolder.specs.Parts.{IsFaultOfModality}
use Rattle.pb_protocol_unfolder.proofs.FaultLemmas.{kept-in, of-many-by, of-value-by}
use Rattle.pb_protocol_unfolder.proofs.LeftLemmas.{each-left, named-left}
use Rattle.pb_protocol_unfolder.proofs.OperatorLemmas.{names-counted, same-left, same-over}
use Rattle.pb_protocol_unfolder.proofs.step_set.unfold_set.Goals.{After-take}
use Rattle.pb_protocol_unfolder.proofs.step_set.unfold_set.Goals as goal

pub returns-clause-set : goal.returns-clause-set
returns-clause-set c =
    let s = c.args.scope.now.names in
    let A = step_set_form c.args.set.now in
    c.in_ok-named_steps.ensures ∙ ap named_steps (c.in_ok-names.ensures.names ∙ ap (λ (u : Unfolder). member_names u s A (map instance_said c.left.result.now)) c.unfolder.ensures)
    ∙ named-left c.args.formulas.now s c.left.result.now A c.left.ensures (sym c.in_default.ensures)

pub returns-in-Some-clause-room : goal.returns-in-Some-clause-room
returns-in-Some-clause-room c =
    let none : 0 ≡ name_count (left_set c.args.formulas.now c.args.scope.now.names (step_set_form c.args.set.now)) = ap name_count
    (each-left c.args.formulas.now c.args.scope.now.names (step_set_form c.args.set.now) (sym c.in-Some.ensures)) in
    omega (arith, none)

-- as many names as the set that is left has
many : (c : After-take) → c.len.result ≡ name_count (left_set c.args.formulas.now c.args.scope.now.names (step_set_form c.args.set.now))
many c =
    let s = c.args.scope.now.names in
    let A = step_set_form c.args.set.now in
    let names : Unfolder → List Name = λ u. member_names u s A (map instance_said c.left.result.now) in
    let named = named-left c.args.formulas.now s c.left.result.now A c.left.ensures (sym c.in_default.ensures) in
    let same : length c.in_ok-names.names.items ≡ name_count (left_set c.args.formulas.now s A) =
    sym (length-map c.in_ok-names.names.items name_bytes) ∙ ap length (c.in_ok-names.ensures.names ∙ ap names c.unfolder.ensures)
    ∙ sym (names-counted (names c.args.formulas.now)) ∙ ap name_count named in
    omega (arith, c.len.ensures, c.in_ok-names.names.ok.0, same)

pub returns-clause-room : goal.returns-clause-room
returns-clause-room c = same-left _ _ _ _ c.in_ok-take.ensures.taken (many (goal.at.returns-clause-room c).After-take)

pub returns-in_err-names-clause-refused : goal.returns-in_err-names-clause-refused
returns-in_err-names-clause-refused c =
    let m = protocol_in c.args.formulas.now in
    let s = c.args.scope.now.names in
    let left = map instance_said c.left.result.now in
    let A = step_set_form c.args.set.now in
    let Many = c.args.room.now.operators < name_count (left_set c.args.formulas.now s A) in
    let IsFault : Unfolder → Place → Type 0 = λ u. IsFaultOfSteps (protocol_in u) (scope_within u s) left A in
    let there : (p : Place) → IsFault c.args.formulas.now p → IsFaultOfSteps m (scope_within c.args.formulas.now s) (instances m) A p =
    λ p o. (o.0, kept-in (is_kept m) (instances m) o.0 (subst (λ (v : List Instance). Contains v o.0) c.left.ensures.steps o.1), o.2) in
    of-value-by c.from_residual.result c.in_err-names.field-0.0 (IsFault c.unfolder.result.now) (IsFaultOfModality m Many (scope_within c.args.formulas.now s) c.args.place A)
    c.from_residual.ensures.1
    (λ f o. inr (o.0, there f.place (subst (λ (u : Unfolder). IsFault u f.place) c.unfolder.ensures o.1))) c.in_err-names.ensures.refused

pub returns-in_err-take-clause-refused : goal.returns-in_err-take-clause-refused
returns-in_err-take-clause-refused c =
    let u = c.args.formulas.now in
    of-many-by c.from_residual-in_err-take.result c.in_err-take.field-0.0 (c.args.room.now.operators < c.len.result) c.args.place
    (IsFaultOfModality (protocol_in u) (c.args.room.now.operators < name_count (left_set u c.args.scope.now.names (step_set_form c.args.set.now))) (scope_within u c.args.scope.now.names) c.args.place
    (step_set_form c.args.set.now)) c.from_residual-in_err-take.ensures.1
    (λ f o. inl (same-over _ _ _ (many (goal.at.returns-in_err-take-clause-refused c).After-take) o.0, o.1)) c.in_err-take.ensures.refused
