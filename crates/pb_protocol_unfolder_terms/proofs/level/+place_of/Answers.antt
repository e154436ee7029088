use Rattle.std.proofs.Common.{◌≡◌, ◌∙◌, refl, List, [], ◌∷◌, ap, sym}
use Rattle.pb_text_tree.specs.declared.operator.Connective.{Connective}
use Rattle.pb_text_tree.specs.declared.term.ArithmeticLink.{ArithmeticLink}
use Rattle.pb_text_tree.specs.declared.term.TermLink.{TermLink}
use Rattle.pb_text_tree.specs.Form.{TermForm, arithmetic_links, calculated, chained, term_form, term_links}
use Rattle.pb_text_tree.proofs.FormLemmas.{term-arithmetic, term-chain}
use Rattle.pb_protocol_unfolder_terms.specs.Deep.{told_at}
use Rattle.pb_protocol_unfolder_terms.proofs.level.+place_of.Goals as goal

chain-told : (k : Connective) (x : TermForm) (ls : List TermLink) → told_at x ≡ told_at (chained (TermForm.connected k) x (term_links ls))
chain-told k x [] = refl
chain-told k x (l ∷ ls) = refl

arithmetic-told : (x : TermForm) (ls : List ArithmeticLink) → told_at x ≡ told_at (calculated x (arithmetic_links ls))
arithmetic-told x [] = refl
arithmetic-told x (l ∷ ls) = arithmetic-told (TermForm.computed l.operator l.place x (term_form l.operand)) ls

pub returns-in-Chain : goal.returns-in-Chain
returns-in-Chain t c =
    let o = c.in-Chain.connective in
    c.place_of.ensures ∙ chain-told o (term_form c.deref.result.now) c.in-Chain.links.items
    ∙ ap told_at
    (ap (λ y. chained (TermForm.connected o) (term_form y) (term_links c.in-Chain.links.items)) c.deref.ensures
    ∙ sym (ap term_form c.in-Chain.is ∙ term-chain o c.in-Chain.first c.in-Chain.links))

pub returns-in-Arithmetic : goal.returns-in-Arithmetic
returns-in-Arithmetic t c =
    c.place_of-in-Arithmetic.ensures ∙ arithmetic-told (term_form c.deref-in-Arithmetic.result.now) c.in-Arithmetic.links.items
    ∙ ap told_at
    (ap (λ y. calculated (term_form y) (arithmetic_links c.in-Arithmetic.links.items)) c.deref-in-Arithmetic.ensures
    ∙ sym (ap term_form c.in-Arithmetic.is ∙ term-arithmetic c.in-Arithmetic.first c.in-Arithmetic.links))
