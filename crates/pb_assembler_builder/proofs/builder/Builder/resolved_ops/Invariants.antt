use Rattle.std.proofs.Common.{◌≡◌, take}
use Rattle.pb_assembler_builder.specs.Draft.{label_place, resolved}
use Rattle.pb_assembler_builder.proofs.builder.Builder.resolved_ops.Given as goal

abbrev pub invariant-loop-instruction : goal.invariant-loop-instruction
invariant-loop-instruction l = l.ops.items ≡ resolved (label_place l.self.places) (take l.instruction-index l.self.ops)
