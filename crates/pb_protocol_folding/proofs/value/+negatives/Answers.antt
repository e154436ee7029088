use Rattle.std.proofs.Common.{◌∙◌, ap, refl, None}
use Rattle.pb_text_meaning.specs.Syntax as syntax
use Rattle.pb_protocol_folding.specs.Folding as folding
use Rattle.pb_protocol_folding.proofs.Seen.{chain-alone, chain-many, arithmetic-alone, arithmetic-many}
use Rattle.pb_protocol_folding.proofs.value.+negatives.Goals as goal

pub returns-then-is_empty : goal.returns-then-is_empty
returns-then-is_empty t c sorts =
    c.negative_value.ensures sorts
    ∙ ap (λ x. folding.written_value sorts (syntax.Term.Negative x))
    (chain-alone _ _ _ _ _ _ c.in-Chain.is c.is_empty.ensures c.if-is_empty.true c.deref.ensures)

pub returns-then-is_empty-2 : goal.returns-then-is_empty-2
returns-then-is_empty-2 t c sorts =
    c.negative_value-then-is_empty-2.ensures sorts
    ∙ ap (λ x. folding.written_value sorts (syntax.Term.Negative x))
    (arithmetic-alone _ _ _ _ _ c.in-Arithmetic.is c.is_empty-in-Arithmetic.ensures c.if-is_empty-2.true c.deref-then-is_empty-2.ensures)

pub returns-else-is_empty : goal.returns-else-is_empty
returns-else-is_empty t c sorts =
    chain-many (λ x. folding.written_value sorts (syntax.Term.Negative x)) (None) c.in-Chain.connective (λ l r. refl) _
    _ _ _ c.in-Chain.is c.is_empty.ensures c.if-is_empty.false

pub returns-else-is_empty-2 : goal.returns-else-is_empty-2
returns-else-is_empty-2 t c sorts =
    arithmetic-many (λ x. folding.written_value sorts (syntax.Term.Negative x)) (None) (λ o l r. refl) _ _ _ _
    c.in-Arithmetic.is c.is_empty-in-Arithmetic.ensures c.if-is_empty-2.false
