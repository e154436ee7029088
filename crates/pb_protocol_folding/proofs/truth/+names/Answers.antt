use Rattle.std.proofs.Common.{◌∙◌, ap, refl, false}
use Rattle.pb_protocol_folding.specs.FoldedModels.{is_name}
use Rattle.pb_protocol_folding.proofs.Seen.{chain-alone, chain-many, arithmetic-alone, arithmetic-many}
use Rattle.pb_protocol_folding.proofs.truth.+names.Goals as goal

pub returns-then-is_empty : goal.returns-then-is_empty
returns-then-is_empty t c = c.is_itself.ensures ∙ ap (is_name c.args.variable.now) (chain-alone _ _ _ _ _ _ c.in-Chain.is c.is_empty.ensures c.if-is_empty.true c.deref.ensures)

pub returns-then-is_empty-2 : goal.returns-then-is_empty-2
returns-then-is_empty-2 t c =
    c.is_itself-then-is_empty-2.ensures
    ∙ ap (is_name c.args.variable.now)
    (arithmetic-alone _ _ _ _ _ c.in-Arithmetic.is c.is_empty-in-Arithmetic.ensures c.if-is_empty-2.true c.deref-then-is_empty-2.ensures)

pub returns-else-is_empty : goal.returns-else-is_empty
returns-else-is_empty t c = chain-many (is_name c.args.variable.now) (false) c.in-Chain.connective (λ l r. refl) _ _ _ _ c.in-Chain.is c.is_empty.ensures c.if-is_empty.false

pub returns-else-is_empty-2 : goal.returns-else-is_empty-2
returns-else-is_empty-2 t c = arithmetic-many (is_name c.args.variable.now) (false) (λ o l r. refl) _ _ _ _ c.in-Arithmetic.is c.is_empty-in-Arithmetic.ensures c.if-is_empty-2.false
