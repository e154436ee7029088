use Rattle.std.proofs.Common.{◌≡◌, ◌+◌, ◌∙◌, Bool, ◌||◌, List, drop, ap, sym}
use Rattle.std.specs.List.{list_any}
use Rattle.pb_text_tree.specs.declared.name.Name as declared_name
use Rattle.pb_protocol_packing.specs.Apart.{is_among}
use Rattle.pb_protocol_packer.specs.View.{texts_of, variables_in}
use Rattle.pb_protocol_packer.specs.Scopes.{is_named}
use Rattle.pb_protocol_packer.proofs.HiddenNames.{declares-next}
use Rattle.pb_protocol_packer.proofs.scope.declares.Goals.{After-is_among}
use Rattle.pb_protocol_packer.proofs.scope.declares.Goals as goal

-- whether one of the variables that are left has the name, by the test of the next of them
next : (c : After-is_among) → list_any (is_named c.args.name.now) (variables_in (drop c.loop-group.group-index c.args.groups.now))
    ≡ (c.is_among.result || list_any (is_named c.args.name.now) (variables_in (drop (c.loop-group.group-index + 1) c.args.groups.now)))
next c =
    let x = c.args.name.now in
    let rest = list_any (is_named x) (variables_in (drop (c.loop-group.group-index + 1) c.args.groups.now)) in
    declares-next c.args.groups.now c.loop-group.group-index c.group-item.result x c.loop-group-test.true c.group-item.is
    ∙ ap (λ (b : Bool). b || rest) (ap (λ (ns : List declared_name.Name). is_among (texts_of ns) x) (sym c.deref.ensures.value) ∙ sym c.is_among.ensures)

pub returns-then-is_among : goal.returns-then-is_among
returns-then-is_among c =
    let rest = list_any (is_named c.args.name.now) (variables_in (drop (c.loop-group.group-index + 1) c.args.groups.now)) in
    sym (sym c.loop-group.invariant ∙ next (goal.at.returns-then-is_among c).After-is_among ∙ ap (λ (b : Bool). b || rest) c.if-is_among.true)

pub loop-group-preserved : goal.loop-group-preserved
loop-group-preserved c =
    let left = list_any (is_named c.args.name.now) (variables_in (drop (c.loop-group.group-index + 1) c.args.groups.now)) in
    sym (next (goal.at.loop-group-preserved c).After-is_among ∙ ap (λ (b : Bool). b || left) c.if-is_among.false) ∙ c.loop-group.invariant
