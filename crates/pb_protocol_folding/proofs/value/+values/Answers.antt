use Rattle.std.proofs.Common.{◌∙◌, ap, sym, refl, None}
use Rattle.pb_text_meaning.specs.Syntax as syntax
use Rattle.pb_protocol_folding.specs.Folding as folding
use Rattle.pb_protocol_folding.specs.View.{term_of, spec_of}
use Rattle.pb_protocol_folding.proofs.Seen.{chain-alone, chain-many, arithmetic-alone, arithmetic-many}
use Rattle.pb_protocol_folding.proofs.value.+values.Goals as goal

pub returns-in-Negative : goal.returns-in-Negative
returns-in-Negative t c =
    c.negative_value.ensures (spec_of c.args.sorts.now)
    ∙ ap (λ x. folding.written_value (spec_of c.args.sorts.now) (syntax.Term.Negative (term_of x))) c.deref.ensures
    ∙ sym (ap (λ x. folding.written_value (spec_of c.args.sorts.now) (term_of x)) c.in-Negative.is)

pub returns-then-is_empty : goal.returns-then-is_empty
returns-then-is_empty t c =
    c.written_value.ensures
    ∙ ap (folding.written_value (spec_of c.args.sorts.now))
    (chain-alone _ _ _ _ _ _ c.in-Chain.is c.is_empty.ensures c.if-is_empty.true c.deref-then-is_empty.ensures)

pub returns-then-is_empty-2 : goal.returns-then-is_empty-2
returns-then-is_empty-2 t c =
    c.written_value-then-is_empty-2.ensures
    ∙ ap (folding.written_value (spec_of c.args.sorts.now))
    (arithmetic-alone _ _ _ _ _ c.in-Arithmetic.is c.is_empty-in-Arithmetic.ensures c.if-is_empty-2.true c.deref-then-is_empty-2.ensures)

pub returns-else-is_empty : goal.returns-else-is_empty
returns-else-is_empty t c = chain-many (folding.written_value (spec_of c.args.sorts.now)) (None) c.in-Chain.connective (λ l r. refl) _ _ _ _ c.in-Chain.is c.is_empty.ensures c.if-is_empty.false

pub returns-else-is_empty-2 : goal.returns-else-is_empty-2
returns-else-is_empty-2 t c =
    arithmetic-many (folding.written_value (spec_of c.args.sorts.now)) (None) (λ o l r. refl) _ _ _ _ c.in-Arithmetic.is
    c.is_empty-in-Arithmetic.ensures c.if-is_empty-2.false
