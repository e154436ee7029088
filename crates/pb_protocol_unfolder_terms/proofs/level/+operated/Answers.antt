use Rattle.std.proofs.Common.{◌≡◌, ◌∙◌, [], ap, arith, length, sym, vec_len}
use Rattle.std.specs.Prelude.{box_value}
use Rattle.pb_text_tree.specs.Form.{TermForm, arithmetic_links, calculated, chained, term_form, term_links}
use Rattle.pb_text_tree.proofs.FormLemmas.{term-arithmetic, term-chain}
use Rattle.pb_protocol_unfolder_terms.proofs.ArgumentLemmas.{none-of}
use Rattle.pb_protocol_unfolder_terms.proofs.level.+operated.Goals as goal

pub returns-then-is_empty-clause-form : goal.returns-then-is_empty-clause-form
returns-then-is_empty-clause-form t c =
    let v = c.in-Chain.links in
    let none : v.items ≡ [] = none-of v.items (vec_len v) (omega (arith, v.ok.0)) (sym c.is_empty.ensures ∙ c.if-is_empty.true) in
    let o = c.in-Chain.connective in
    let said : term_form c.args.term.now ≡ term_form c.deref.result.now =
    ap term_form c.in-Chain.is ∙ term-chain o c.in-Chain.first v ∙ ap (λ ls. chained (TermForm.connected o) (term_form (box_value c.in-Chain.first)) (term_links ls)) none
    ∙ ap term_form (sym c.deref.ensures) in
    c.operated.ensures.form ∙ sym said

pub returns-then-is_empty-2-clause-form : goal.returns-then-is_empty-2-clause-form
returns-then-is_empty-2-clause-form t c =
    let v = c.in-Arithmetic.links in
    let counted : vec_len v ≡ length v.items = omega (arith, v.ok.0) in
    let none : v.items ≡ [] = none-of v.items (vec_len v) counted (sym c.is_empty-in-Arithmetic.ensures ∙ c.if-is_empty-2.true) in
    let said : term_form c.args.term.now ≡ term_form c.deref-then-is_empty-2.result.now =
    ap term_form c.in-Arithmetic.is ∙ term-arithmetic c.in-Arithmetic.first v ∙ ap (λ ls. calculated (term_form (box_value c.in-Arithmetic.first)) (arithmetic_links ls)) none
    ∙ ap term_form (sym c.deref-then-is_empty-2.ensures) in
    c.operated-then-is_empty-2.ensures.form ∙ sym said
