use Rattle.std.proofs.Common.{◌≡◌, ◌∙◌, ◌+◌, ◌-◌, ◌++◌, List, drop, take, get_or, length, map, ap, rules, arith}
use Rattle.std.specs.Prelude.{min, string_bytes}
use Rattle.pb_typing_declarations.specs.Faults.{IsAmong}
use Rattle.pb_model_tree.specs.Form.{model_form}
use Rattle.pb_model_meaning.specs.Erase.{model_of}
use Rattle.pb_protocol_packing.specs.Sizes.{group_sizes}
use Rattle.pb_protocol_packer.specs.View.{variables_in}
use Rattle.pb_protocol_packer.specs.Groups.{groups_in}
use Rattle.pb_protocol_packer.specs.Initial.{names_by}
use Rattle.pb_protocol_groups.specs.declared.state_variables.StateVariable.{StateVariable}
use Rattle.pb_protocol_groups.specs.Sizes.{size_faults}
use Rattle.pb_protocol_groups.specs.Variables.{members_for}
use Rattle.pb_protocol_groups.proofs.Cuts.{start, step, clear, next-size, refuses}
use Rattle.pb_protocol_groups.proofs.grouping.groups_of.Goals as goal

pub loop-size-init : goal.loop-size-init
loop-size-init c =
    let vs = c.in_ok-variables.variables in
    start (model_of c.args.model.now) _ vs.items c.deref-size-items.result.now
    (ap (λ gs. map string_bytes gs ++ names_by c.in_ok-declared.declared.items) c.new-given.ensures.items ∙ c.in_ok-declared.ensures)
    (ap groups_in c.new-groups.ensures.items)
    (c.in_ok-variables.ensures ∙ ap variables_in c.deref.ensures.value)
    (c.deref-size-items.ensures.value ∙ c.in_ok-sizes.ensures ∙ ap (λ (xs : List StateVariable). group_sizes (members_for (model_of c.args.model.now) xs)) c.deref-2.ensures.value)

pub loop-size-preserved : goal.loop-size-preserved
loop-size-preserved c =
    let m = model_of c.args.model.now in
    let xs = c.in_ok-variables.variables.items in
    let items = c.deref-size-items.result.now in
    let i = c.loop-size.size-index in
    let k = get_or items i 0 in
    let first = c.loop-size.first in
    let end = first + c.min.result in
    let was = next-size m c.loop-size.grouping xs items i first c.loop-size-test.true c.loop-size.invariant in
    let is : end ≡ first + min (length xs - first) k = omega (arith, c.min.ensures, c.len.ensures, c.in_ok-variables.variables.ok.0) in
    let part = ap (λ (ys : List StateVariable). take (end - first) (drop first ys)) c.deref-in-loop-size.ensures.value in
    step m c.loop-size.grouping c.push.new.self xs _ k (drop (i + 1) items) first end was is part c.in_ok-push.ensures.made (clear _ c.args.model.now.initial.place c.in_ok-push.ensures.few)

pub returns-in_err-push-clause-few : goal.returns-in_err-push-clause-few
returns-in_err-push-clause-few c =
    let m = model_of c.args.model.now in
    let xs = c.in_ok-variables.variables.items in
    let items = c.deref-size-items.result.now in
    let i = c.loop-size.size-index in
    let k = get_or items i 0 in
    let first = c.loop-size.first in
    let end = first + c.min.result in
    let was = next-size m c.loop-size.grouping xs items i first c.loop-size-test.true c.loop-size.invariant in
    let is : end ≡ first + min (length xs - first) k = omega (arith, c.min.ensures, c.len.ensures, c.in_ok-variables.variables.ok.0) in
    let part = ap (λ (ys : List StateVariable). take (end - first) (drop first ys)) c.deref-in-loop-size.ensures.value in
    let e = c.in_err-push.field-0.0 in
    let h : IsAmong (size_faults (model_form c.args.model.now)) e =
    refuses m c.loop-size.grouping xs _ k (drop (i + 1) items) first end c.args.model.now.initial.place e was is part c.in_err-push.ensures.few in
    search rules
