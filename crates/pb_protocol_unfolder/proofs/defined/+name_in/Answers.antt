use Rattle.std.proofs.Common.{false, refl, sym, subst}
use Rattle.pb_text_meaning.specs.Syntax.{Term}
use Rattle.pb_protocol_folding.proofs.Seen.{chain-alone, chain-many, arithmetic-alone, arithmetic-many}
use Rattle.pb_protocol_unfolder.specs.Defined.{IsNameIn, is_named}
use Rattle.pb_protocol_unfolder.proofs.defined.+name_in.Goals as goal

pub returns-then-is_empty : goal.returns-then-is_empty
returns-then-is_empty t c =
    subst (λ (s : Term). IsNameIn c.name_in.result s) (chain-alone _ _ _ _ _ _ c.in-Chain.is c.is_empty.ensures c.if-is_empty.true c.deref.ensures) c.name_in.ensures

pub returns-else-is_empty : goal.returns-else-is_empty
returns-else-is_empty t c =
    sym (chain-many is_named false c.in-Chain.connective (λ l r. refl) _ _ _ _ c.in-Chain.is c.is_empty.ensures c.if-is_empty.false)

pub returns-then-is_empty-2 : goal.returns-then-is_empty-2
returns-then-is_empty-2 t c =
    subst (λ (s : Term). IsNameIn c.name_in-then-is_empty-2.result s)
    (arithmetic-alone _ _ _ _ _ c.in-Arithmetic.is c.is_empty-in-Arithmetic.ensures c.if-is_empty-2.true c.deref-then-is_empty-2.ensures) c.name_in-then-is_empty-2.ensures

pub returns-else-is_empty-2 : goal.returns-else-is_empty-2
returns-else-is_empty-2 t c =
    sym (arithmetic-many is_named false (λ o l r. refl) _ _ _ _ c.in-Arithmetic.is c.is_empty-in-Arithmetic.ensures c.if-is_empty-2.false)
