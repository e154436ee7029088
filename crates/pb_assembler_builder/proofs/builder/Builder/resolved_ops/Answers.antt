use Rattle.std.proofs.Common.{◌≤◌, length, ap, ◌∙◌, arith}
use Rattle.pb_base.specs.declared.limits.TheConstants.{MAX_INSTRUCTIONS}
use Rattle.pb_assembler_builder.specs.Draft.{Draft, are_within}
use Rattle.pb_assembler_builder.proofs.Drafts.{are_within_more}
use Rattle.pb_assembler_builder.proofs.builder.Builder.resolved_ops.Goals as goal

pub resolve-op-requires-clause-within : goal.resolve-op-requires-clause-within
resolve-op-requires-clause-within c =
    let few : length c.self.inside.ops.items ≤ MAX_INSTRUCTIONS = let n = ap (λ (d : Draft). length d.ops) c.self.view_is in omega (arith, n, c.requires.few) in
    ap (are_within MAX_INSTRUCTIONS) c.deref.ensures.value ∙ are_within_more (length c.self.inside.ops.items) MAX_INSTRUCTIONS c.self.inside.places.items few c.self.invariant.1
