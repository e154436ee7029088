use Rattle.std.proofs.Common.{◌∙◌, ap, refl, false}
use Rattle.pb_protocol_folding.specs.FoldedModels as models
use Rattle.pb_protocol_folding.proofs.Seen.{set-alone, set-many}
use Rattle.pb_protocol_folding.proofs.step_set.+nones.Goals as goal

pub returns-then-is_empty : goal.returns-then-is_empty
returns-then-is_empty t c = c.is_none.ensures ∙ ap models.is_none (set-alone _ _ _ _ _ c.in-Union.is c.is_empty.ensures c.if-is_empty.true c.deref-then-is_empty.ensures)

pub returns-else-is_empty : goal.returns-else-is_empty
returns-else-is_empty t c = set-many models.is_none false (λ l r. refl) _ _ _ _ c.in-Union.is c.is_empty.ensures c.if-is_empty.false
