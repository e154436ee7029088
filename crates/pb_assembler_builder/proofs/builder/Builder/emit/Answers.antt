use Rattle.std.proofs.Common.{length, refl, ap, ◌∙◌}
use Rattle.pb_assembler_builder.specs.Draft.{are_labelled, is_labelled}
use Rattle.pb_assembler_builder.proofs.Drafts.{append_one, are_within_more, longer_by_one}
use Rattle.pb_assembler_builder.proofs.builder.Builder.emit.Goals as goal

pub invariant_of-self-2 : goal.invariant_of-self-2
invariant_of-self-2 c =
    let ops = c.self.inside.ops.items in
    let places = c.self.inside.places.items in
    let items = c.in_ok-push.ensures.items in (
      ap (are_labelled (length places)) items ∙ append_one (is_labelled (length places)) ops _ c.self.invariant.0 refl,
      are_within_more (length ops) (length c.push.new.self.items) places (longer_by_one ops c.push.new.self.items _ items) c.self.invariant.1,
    )
