use Rattle.std.proofs.Common.{◌≡◌, ◌∙◌, inl, inr, sym, refl, subst, map, Bool}
use Rattle.std.proofs.lemmas.Result.{IfOk-weaker}
use Rattle.std.specs.List.{list_any}
use Rattle.pb_text_tree.specs.declared.place.Place.{Place}
use Rattle.pb_protocol_tree.specs.declared.step_set.StepSet.{StepSet}
use Rattle.pb_protocol_tree.specs.Form.{step_set_form}
use Rattle.pb_protocol_unfolder_steps.specs.Elements.{instance_said}
use Rattle.pb_protocol_unfolder_steps.specs.Unfolder.{protocol_in, scope_within}
use Rattle.pb_protocol_unfolder.specs.Faults.{IsFaultOfSet}
use Rattle.pb_protocol_unfolder.specs.Parts.{IsFaultOfSets}
use Rattle.pb_protocol_unfolder.specs.Values.{is_member}
use Rattle.pb_protocol_unfolder.specs.View.{set_operand}
use Rattle.pb_protocol_unfolder.proofs.FaultLemmas.{at-item, part, part-so}
use Rattle.pb_protocol_unfolder.proofs.ValueFaults.{fault-of-union}
use Rattle.pb_protocol_unfolder.proofs.MemberLemmas.{or-true, or-false, member-of-union}
use Rattle.pb_protocol_unfolder.proofs.set.+members.Goals as goal

pub is_in_set-returns-then-branch-clause-member : goal.is_in_set-returns-then-branch-clause-member
is_in_set-returns-then-branch-clause-member t c =
    let p = is_member c.args.unfolder.now c.args.scope.now.names (instance_said c.args.instance.now) in
    let whole =
    member-of-union c.args.unfolder.now c.args.scope.now.names (instance_said c.args.instance.now) c.deref-in-Union.result.now c.in-Union.first
    c.in-Union.links c.in-Union.links.items c.args.set.now c.in-Union.is c.deref-in-Union.ensures refl in
    or-true (p (step_set_form c.deref-in-Union.result.now)) (list_any p (map set_operand c.in-Union.links.items)) (p (step_set_form c.args.set.now)) whole
    (sym c.in_ok-is_in_set-in-Union.ensures.member ∙ c.if-branch.true)

pub is_in_set-returns-else-branch-clause-member : goal.is_in_set-returns-else-branch-clause-member
is_in_set-returns-else-branch-clause-member t c =
    let p = is_member c.args.unfolder.now c.args.scope.now.names (instance_said c.args.instance.now) in
    let ls = c.deref-in-Union-2.result.now in
    let whole =
    member-of-union c.args.unfolder.now c.args.scope.now.names (instance_said c.args.instance.now) c.deref-in-Union.result.now c.in-Union.first
    c.in-Union.links ls c.args.set.now c.in-Union.is c.deref-in-Union.ensures c.deref-in-Union-2.ensures.value in
    IfOk-weaker c.is_in_some.result (λ (b : Bool). b ≡ list_any p (map set_operand ls)) (λ (b : Bool). b ≡ p (step_set_form c.args.set.now))
    (λ b h. h ∙ or-false (p (step_set_form c.deref-in-Union.result.now)) (list_any p (map set_operand ls)) (p (step_set_form c.args.set.now))
    whole (sym c.in_ok-is_in_set-in-Union.ensures.member ∙ c.if-branch.false)) c.is_in_some.ensures.member

-- ---- what a fault says

pub is_in_some-returns-in_err-is_in_set-clause-refused : goal.is_in_some-returns-in_err-is_in_set-clause-refused
is_in_some-returns-in_err-is_in_set-clause-refused t c =
    let ls = c.args.links.now in
    let l = c.link-item.result in
    part c.from_residual.result c.in_err-is_in_set.field-0.0 (IsFaultOfSet (protocol_in c.args.unfolder.now) (scope_within c.args.unfolder.now c.args.scope.now.names)
    ((instance_said c.args.instance.now).own)
    (set_operand l))
    (IsFaultOfSets (protocol_in c.args.unfolder.now) (scope_within c.args.unfolder.now c.args.scope.now.names) ((instance_said c.args.instance.now).own) (map set_operand ls)) c.from_residual.ensures.1
    (λ p is. (set_operand l, at-item set_operand ls c.loop-link.link-index l c.loop-link-test.true c.link-item.is, is)) c.in_err-is_in_set.ensures.refused

pub is_in_set-returns-in_err-is_in-in-Complement-clause-refused : goal.is_in_set-returns-in_err-is_in-in-Complement-clause-refused
is_in_set-returns-in_err-is_in-in-Complement-clause-refused t c =
    let fault : StepSet → Place → Type 0 =
    λ A. IsFaultOfSet (protocol_in c.args.unfolder.now) (scope_within c.args.unfolder.now c.args.scope.now.names)
    (instance_said c.args.instance.now).own (step_set_form A) in
    part c.from_residual.result c.in_err-is_in-in-Complement.field-0.0 (fault c.deref-in-Complement.result.now) (fault c.args.set.now) c.from_residual.ensures.1
    (λ p is. subst (λ (A : StepSet). fault A p) (sym c.in-Complement.is) (subst (λ (A : StepSet). fault A p) c.deref-in-Complement.ensures is)) c.in_err-is_in-in-Complement.ensures.refused

pub is_in_set-returns-in_err-is_in_set-in-Union-clause-refused : goal.is_in_set-returns-in_err-is_in_set-in-Union-clause-refused
is_in_set-returns-in_err-is_in_set-in-Union-clause-refused t c =
    let x = c.deref-in-Union.result.now in
    part c.from_residual-in_err-is_in_set-in-Union.result c.in_err-is_in_set-in-Union.field-0.0
    (IsFaultOfSet (protocol_in c.args.unfolder.now) (scope_within c.args.unfolder.now c.args.scope.now.names) ((instance_said c.args.instance.now).own) (step_set_form x))
    (IsFaultOfSet (protocol_in c.args.unfolder.now) (scope_within c.args.unfolder.now c.args.scope.now.names) ((instance_said c.args.instance.now).own) (step_set_form c.args.set.now))
    c.from_residual-in_err-is_in_set-in-Union.ensures.1
    (λ p is. fault-of-union (protocol_in c.args.unfolder.now) (scope_within c.args.unfolder.now c.args.scope.now.names) p ((instance_said c.args.instance.now).own) x c.in-Union.first c.in-Union.links
    c.in-Union.links.items c.args.set.now c.in-Union.is
    c.deref-in-Union.ensures refl (inl is))
    c.in_err-is_in_set-in-Union.ensures.refused

pub is_in_set-returns-else-branch-clause-refused : goal.is_in_set-returns-else-branch-clause-refused
is_in_set-returns-else-branch-clause-refused t c =
    let m = protocol_in c.args.unfolder.now in
    let ρ = scope_within c.args.unfolder.now c.args.scope.now.names in
    let own = (instance_said c.args.instance.now).own in
    let A = c.args.set.now in
    part-so (IsFaultOfSets m ρ own (map set_operand c.deref-in-Union-2.result.now)) (IsFaultOfSet m ρ own (step_set_form A)) c.is_in_some.result
    (λ p is. fault-of-union m ρ p own c.deref-in-Union.result.now c.in-Union.first c.in-Union.links c.deref-in-Union-2.result.now A c.in-Union.is c.deref-in-Union.ensures
    c.deref-in-Union-2.ensures.value (inr is))
    c.is_in_some.ensures.refused
