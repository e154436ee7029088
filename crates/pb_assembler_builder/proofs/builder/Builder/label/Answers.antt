use Rattle.std.proofs.Common.{◌≤◌, ◌∷◌, [], length, None, refl, ap, ◌∙◌, arith, length-append}
use Rattle.pb_assembler_builder.specs.Draft.{is_at_or_behind, are_within}
use Rattle.pb_assembler_builder.proofs.Drafts.{append_one, labelled_more}
use Rattle.pb_assembler_builder.proofs.builder.Builder.label.Goals as goal

pub invariant_of-self-2 : goal.invariant_of-self-2
invariant_of-self-2 c =
    let ops = c.self.inside.ops.items in
    let places = c.self.inside.places.items in
    let items = c.in_ok-push.ensures.items in
    let longer : length places ≤ length c.push.new.self.items = let l = ap length items in omega (arith, l, length-append places (None ∷ [])) in (
      labelled_more (length places) (length c.push.new.self.items) ops longer c.self.invariant.0,
      ap (are_within (length ops)) items ∙ append_one (is_at_or_behind (length ops)) places None c.self.invariant.1 refl,
    )
