use Rattle.std.proofs.Common.{◌≡◌, ◌∙◌, List, sym, ap, true, false}
use Rattle.pb_text_tree.specs.declared.name.Name.{Name}
use Rattle.pb_typing_declarations.specs.Faults.{is_among}
use Rattle.pb_protocol_typing.specs.Names.{name_texts}
use Rattle.pb_protocol_typing.proofs.Groups.{group-next, group-found, group-left}
use Rattle.pb_protocol_typing.proofs.around.sort_in.Goals as goal

pub returns-then-is_among : goal.returns-then-is_among
returns-then-is_among c =
    let x = c.args.name.now in
    let g = c.group-item.result in
    let among : is_among (name_texts g.names.items) x ≡ true = ap (λ (ns : List Name). is_among (name_texts ns) x) (sym c.deref.ensures.value) ∙ (sym c.is_among.ensures ∙ c.if-is_among.true) in
    group-found _ _ _ _ (c.loop-group.invariant ∙ group-next c.args.groups.now c.loop-group.group-index g x c.loop-group-test.true c.group-item.is) among

pub loop-group-preserved : goal.loop-group-preserved
loop-group-preserved c =
    let x = c.args.name.now in
    let g = c.group-item.result in
    let among : is_among (name_texts g.names.items) x ≡ false = ap (λ (ns : List Name). is_among (name_texts ns) x) (sym c.deref.ensures.value) ∙ (sym c.is_among.ensures ∙ c.if-is_among.false) in
    group-left _ _ _ _ (c.loop-group.invariant ∙ group-next c.args.groups.now c.loop-group.group-index g x c.loop-group-test.true c.group-item.is) among
