use Rattle.std.proofs.Common.{rules, ◌≡◌, length, Some, ap, ◌∙◌}
use Rattle.std.specs.List.{slice_set}
use Rattle.pb_assembler_builder.specs.Draft.{are_labelled, are_within}
use Rattle.pb_assembler_builder.proofs.Drafts.{set_within, set_length}
use Rattle.pb_assembler_builder.proofs.builder.Builder.place.Goals as goal

pub invariant_of-self : goal.invariant_of-self
invariant_of-self c =
    let ops = c.self.inside.ops.items in
    let places = c.self.inside.places.items in
    let i = c.args.label.number in
    let end : c.len-place.result ≡ length ops = search rules in (
      ap (λ k. are_labelled k ops) (set_length places i (Some c.len-place.result)) ∙ c.self.invariant.0,
      ap (λ n. are_within (length ops) (slice_set places i (Some n))) end ∙ set_within (length ops) places i c.self.invariant.1,
    )
