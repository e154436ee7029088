use Rattle.std.proofs.Common.{◌≡◌, ◌∙◌, ap, refl, None}
use Rattle.pb_text_tree.specs.declared.operator.Connective.{Connective}
use Rattle.pb_text_tree.specs.declared.operator.Connective.TheVariants as connective
use Rattle.pb_model_meaning.specs.Syntax.{Formula}
use Rattle.pb_model_meaning.specs.Erase.{joined}
use Rattle.pb_protocol_folding.specs.FoldedModels as models
use Rattle.pb_protocol_folding.proofs.Seen.{formula-alone, formula-many}
use Rattle.pb_protocol_folding.proofs.formula.+decisions.Goals as goal

of-joined : (k : Connective) (f g : Formula) → models.decided (joined k f g) ≡ None
of-joined connective.And f g = refl
of-joined connective.Or f g = refl
of-joined connective.Implies f g = refl

pub returns-then-is_empty : goal.returns-then-is_empty
returns-then-is_empty t c = c.decided.ensures ∙ ap models.decided (formula-alone _ _ _ _ _ _ c.in-Chain.is c.is_empty.ensures c.if-is_empty.true c.deref.ensures)

pub returns-else-is_empty : goal.returns-else-is_empty
returns-else-is_empty t c = formula-many models.decided None c.in-Chain.connective (of-joined c.in-Chain.connective) _ _ _ _ c.in-Chain.is c.is_empty.ensures c.if-is_empty.false
