use Rattle.std.proofs.Common.{◌≡◌, ◌∙◌, ap, refl, false}
use Rattle.pb_text_tree.specs.declared.operator.Connective.{Connective}
use Rattle.pb_text_tree.specs.declared.operator.Connective.TheVariants as connective
use Rattle.pb_model_meaning.specs.Syntax.{Formula}
use Rattle.pb_model_meaning.specs.Erase.{joined}
use Rattle.pb_model_translation.specs.Positive as positive
use Rattle.pb_protocol_folding.proofs.Seen.{formula-alone, formula-many}
use Rattle.pb_protocol_folding.proofs.formula.+constants.Goals as goal

of-joined : (k : Connective) (f g : Formula) → positive.is_constant (joined k f g) ≡ false
of-joined connective.And f g = refl
of-joined connective.Or f g = refl
of-joined connective.Implies f g = refl

pub returns-then-is_empty : goal.returns-then-is_empty
returns-then-is_empty t c = c.is_constant.ensures ∙ ap positive.is_constant (formula-alone _ _ _ _ _ _ c.in-Chain.is c.is_empty.ensures c.if-is_empty.true c.deref.ensures)

pub returns-else-is_empty : goal.returns-else-is_empty
returns-else-is_empty t c = formula-many positive.is_constant false c.in-Chain.connective (of-joined c.in-Chain.connective) _ _ _ _ c.in-Chain.is c.is_empty.ensures c.if-is_empty.false
