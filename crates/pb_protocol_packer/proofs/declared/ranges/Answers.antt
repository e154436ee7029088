use Rattle.std.proofs.Common.{◌∙◌, List, map, length, ap, sym, arith}
use Rattle.std.proofs.lemmas.List.{at_drop_all}
use Rattle.pb_text_meaning.specs.Erase.{erased_range}
use Rattle.pb_protocol_packing.specs.Packing.{with_ranges}
use Rattle.pb_protocol_packer.specs.declared.group.Group.{Group}
use Rattle.pb_protocol_packer.specs.Declarations.{ranges_in}
use Rattle.pb_protocol_packer.specs.Groups.{groups_in}
use Rattle.pb_protocol_packer.proofs.DeclarationRows.{range-forms}
use Rattle.pb_protocol_packer.proofs.declared.ranges.Goals as goal

pub loop-index-init : goal.loop-index-init
loop-index-init c =
    let gs = c.args.groups.now in
    sym (range-forms c.in_ok-ranges.ranges.items) ∙ ap (map erased_range) c.in_ok-ranges.ensures ∙ range-forms c.args.declared.now
    ∙ sym (at_drop_all (λ (hs : List Group). with_ranges (groups_in hs) (ranges_in c.args.declared.now)) gs (length gs) (omega arith))
