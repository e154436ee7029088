use Rattle.std.proofs.Common.{◌∙◌, List, map, length, ap, sym, arith}
use Rattle.std.proofs.lemmas.List.{at_drop_all}
use Rattle.pb_text_meaning.specs.Erase.{erased_declaration}
use Rattle.pb_protocol_packing.specs.Packing.{with_sorts}
use Rattle.pb_protocol_packer.specs.declared.group.Group.{Group}
use Rattle.pb_protocol_packer.specs.Declarations.{declarations_in}
use Rattle.pb_protocol_packer.specs.Groups.{groups_in}
use Rattle.pb_protocol_packer.proofs.DeclarationRows.{declaration-forms}
use Rattle.pb_protocol_packer.proofs.declared.sorts.Goals as goal

pub loop-index-init : goal.loop-index-init
loop-index-init c =
    let gs = c.args.groups.now in
    sym (declaration-forms c.in_ok-sorts.sorts.items) ∙ ap (map erased_declaration) c.in_ok-sorts.ensures ∙ declaration-forms c.args.declared.now
    ∙ sym (at_drop_all (λ (hs : List Group). with_sorts (groups_in hs) (declarations_in c.args.declared.now)) gs (length gs) (omega arith))
