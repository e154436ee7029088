use Rattle.std.proofs.Common.{◌∙◌, ap, refl, None}
use Rattle.pb_protocol_folding.specs.Folding as folding
use Rattle.pb_protocol_folding.proofs.Seen.{chain-alone, chain-many, arithmetic-alone, arithmetic-many}
use Rattle.pb_protocol_folding.proofs.truth.+truths.Goals as goal

pub returns-then-is_empty : goal.returns-then-is_empty
returns-then-is_empty t c = c.truth_value.ensures ∙ ap (folding.truth_value) (chain-alone _ _ _ _ _ _ c.in-Chain.is c.is_empty.ensures c.if-is_empty.true c.deref.ensures)

pub returns-then-is_empty-2 : goal.returns-then-is_empty-2
returns-then-is_empty-2 t c =
    c.truth_value-then-is_empty-2.ensures
    ∙ ap (folding.truth_value)
    (arithmetic-alone _ _ _ _ _ c.in-Arithmetic.is c.is_empty-in-Arithmetic.ensures c.if-is_empty-2.true c.deref-then-is_empty-2.ensures)

pub returns-else-is_empty : goal.returns-else-is_empty
returns-else-is_empty t c = chain-many (folding.truth_value) (None) c.in-Chain.connective (λ l r. refl) _ _ _ _ c.in-Chain.is c.is_empty.ensures c.if-is_empty.false

pub returns-else-is_empty-2 : goal.returns-else-is_empty-2
returns-else-is_empty-2 t c = arithmetic-many (folding.truth_value) (None) (λ o l r. refl) _ _ _ _ c.in-Arithmetic.is c.is_empty-in-Arithmetic.ensures c.if-is_empty-2.false
