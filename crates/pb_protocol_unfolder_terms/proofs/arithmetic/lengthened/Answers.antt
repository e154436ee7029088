use Rattle.std.proofs.Common.{◌≡◌, ◌∙◌, ◌==◌, ℕ, List, sym, ap, length, arith, vec_len}
use Rattle.std.specs.Prelude.{box_value}
use Rattle.pb_text_tree.specs.declared.term.ArithmeticLink.{ArithmeticLink}
use Rattle.pb_text_meaning.specs.Syntax.{Term}
use Rattle.pb_text_meaning.specs.Erase.{of_arithmetic}
use Rattle.pb_protocol_folding.specs.Folding.{folded_operation}
use Rattle.pb_protocol_folding.specs.View as tree
use Rattle.pb_protocol_unfolder_terms.specs.Puts.{calculated_term}
use Rattle.pb_protocol_unfolder_terms.proofs.ArgumentLemmas.{some-of}
use Rattle.pb_protocol_unfolder_terms.proofs.TermLemmas.{arithmetic-said, calculated-last, operated-chain}
use Rattle.pb_protocol_unfolder_terms.proofs.arithmetic.lengthened.Goals as goal

pub returns : goal.returns
returns c =
    let S = tree.spec_of c.args.folding.now.sorts.now in
    let v = c.args.links in
    let l = c.args.link in
    let x = tree.term_of (box_value c.args.first) in
    let o = of_arithmetic l.operator in
    let y = tree.term_of l.operand in
    let counted : vec_len v ≡ length v.items = omega (arith, v.ok.0) in
    let some : length v.items ≡ 0 → ⊥ = some-of v.items (sym (ap (λ (m : ℕ). m == 0) counted) ∙ sym c.is_empty.ensures ∙ c.if-is_empty.false) in
    arithmetic-said c.args.first c.push.new.self
    ∙ ap (λ (ls : List ArithmeticLink). calculated_term x ls) c.in-Ok.ensures.items ∙ calculated-last x v.items l
    ∙ sym (operated-chain S o x v.items y some)
    ∙ ap (λ (z : Term). folded_operation S o z y) (sym (arithmetic-said c.args.first v))
