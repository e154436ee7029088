use Rattle.std.proofs.Common.{◌≡◌, ◌∙◌, sym, ap, refl, subst, arith, List, [], ◌∷◌, ℕ, ◌+◌, true, false, length}
use Rattle.std.specs.Prelude.{box_value}
use Rattle.std.specs.Result.{OnOk}
use Rattle.pb_text_tree.specs.declared.formula.Formula.{Formula}
use Rattle.pb_text_tree.specs.Form.{FormulaForm, formula_form, link_form}
use Rattle.pb_text_printer.specs.declared.level.Level.{Level}
use Rattle.pb_text_printer.specs.declared.level.Position.{Position}
use Rattle.pb_text_printer.specs.Words.{connective_word, connective_level, formula_side, is_open_end, formula_words, formula_needs_no_brackets}
use Rattle.pb_text_printer.specs.Page.{Page, after, page, typed}
use Rattle.pb_text_printer.specs.Parts.{placed_formula}
use Rattle.pb_text_printer.proofs.PageLemmas.{bracketed}
use Rattle.pb_text_printer.proofs.LinkParts as links
use Rattle.pb_text_printer.proofs.TermParts.{placed-formula, closed, connective-typed, quantified-formula}
use Rattle.pb_text_printer.proofs.formula.+formulas.Goals as goal

pub write_links-loop-index-init : goal.write_links-loop-index-init
write_links-loop-index-init t c = refl

pub write_links-returns-then-index-links : goal.write_links-returns-then-index-links
write_links-returns-then-index-links t c =
    let o = c.args.connective in
    let word : page c.word.new.self ≡ after (connective_word o ∷ []) (page c.loop-index.out) =
    c.in_ok-word.ensures ∙ ap (λ (v : List ℕ). typed true true v (page c.loop-index.out)) c.connective_token.ensures ∙ connective-typed o (page c.loop-index.out) in
    let end : c.loop-index.index + 1 ≡ length c.args.links.now = omega (arith, c.if-index-links.true) in
    let at : c.last-last.result ≡ record { level = connective_level o; right_end = c.args.right_end } =
    c.last-last.ensures ∙ ap (λ (v : Level). let r : Position = record { level = v; right_end = c.args.right_end } in r) c.connective_level.ensures in
    subst (λ (v : Page). OnOk c.write_formula.result (page c.write_formula.new.out ≡ v))
    (placed-formula c.index-links-index.result.operand c.index-links-index.result.operand c.last-last.result
    (record { level = connective_level o; right_end = c.args.right_end }) (page c.word.new.self) refl at
    ∙ links.link-last link_form (connective_word o) (λ y. placed_formula y (formula_side o) false) (λ y. placed_formula y (connective_level o) (is_open_end c.args.right_end))
    c.args.links.now c.loop-index.index c.index-links-index.result (page c.loop-index.out) (page c.word.new.self) end c.index-links-index.is word
    ∙ c.loop-index.invariant)
    c.write_formula.ensures

pub write_links-loop-index-preserved : goal.write_links-loop-index-preserved
write_links-loop-index-preserved t c =
    let o = c.args.connective in
    let word : page c.word.new.self ≡ after (connective_word o ∷ []) (page c.loop-index.out) =
    c.in_ok-word.ensures ∙ ap (λ (v : List ℕ). typed true true v (page c.loop-index.out)) c.connective_token.ensures ∙ connective-typed o (page c.loop-index.out) in
    let more : c.loop-index.index + 1 ≡ length c.args.links.now → ⊥ = λ e. omega (arith, e, c.if-index-links.false) in
    let at : c.closed-side.result ≡ closed (formula_side o) = c.closed-side.ensures ∙ ap closed c.operand_level.ensures in
    links.link-next link_form (connective_word o) (λ y. placed_formula y (formula_side o) false) (λ y. placed_formula y (connective_level o) (is_open_end c.args.right_end))
    c.args.links.now c.loop-index.index c.index-links-index.result (page c.loop-index.out) (page c.word.new.self) (page c.write_formula-in-loop-index.new.out)
    c.loop-index-test.true more c.index-links-index.is word
    (c.in_ok-write_formula.ensures ∙ placed-formula c.index-links-index.result.operand c.index-links-index.result.operand c.closed-side.result (closed (formula_side o)) (page c.word.new.self) refl at)
    ∙ c.loop-index.invariant

pub write_links-returns : goal.write_links-returns
write_links-returns t c =
    let o = c.args.connective in
    links.links-end link_form (connective_word o) (λ y. placed_formula y (formula_side o) false) (λ y. placed_formula y (connective_level o) (is_open_end c.args.right_end))
    c.args.links.now c.loop-index.index (page c.loop-index.out) c.loop-index-test.false
    ∙ c.loop-index.invariant

pub write_plain-returns-in-None : goal.write_plain-returns-in-None
write_plain-returns-in-None t c =
    subst (λ (v : Page). OnOk c.write_plain.result (page c.write_plain.new.out ≡ v))
    (ap (λ (x : FormulaForm). after (formula_words x (is_open_end c.args.right_end)) (page c.args.out.now))
    (ap formula_form c.deref-in-None.ensures
    ∙ links.formula-of-one c.in-Chain.connective c.in-Chain.first c.in-Chain.links c.deref-in-Chain.result.now
    c.args.formula.now c.in-Chain.is c.deref-in-Chain.ensures.value c.in-None.ensures.value))
    c.write_plain.ensures

pub write_plain-returns-in_ok-write_formula-in-Some : goal.write_plain-returns-in_ok-write_formula-in-Some
write_plain-returns-in_ok-write_formula-in-Some t c =
    let o = c.in-Chain.connective in
    let at : c.closed-side.result ≡ closed (formula_side o) = c.closed-side.ensures ∙ ap closed c.operand_level.ensures in
    subst (λ (v : Page). OnOk c.write_links.result (page c.write_links.new.out ≡ v))
    (links.formula-chain-words o c.in-Chain.first c.in-Chain.links c.deref-in-Chain.result.now
    c.deref-in-Some-2.result.now c.in-Some.field-0.now c.args.formula.now (is_open_end c.args.right_end)
    (page c.args.out.now) (page c.write_formula-in-Some.new.out)
    c.in-Chain.is c.deref-in-Chain.ensures.value c.deref-in-Some-2.ensures.value c.in-Some.ensures.value
    (c.in_ok-write_formula-in-Some.ensures
    ∙ placed-formula c.deref-in-Some.result.now (box_value c.in-Chain.first) c.closed-side.result
    (closed (formula_side o)) (page c.args.out.now) c.deref-in-Some.ensures at))
    c.write_links.ensures

pub write_plain-returns-in_ok-write_quantifier-in-Quantified : goal.write_plain-returns-in_ok-write_quantifier-in-Quantified
write_plain-returns-in_ok-write_quantifier-in-Quantified t c =
    subst (λ (v : Page). OnOk c.write_plain-in-Quantified.result (page c.write_plain-in-Quantified.new.out ≡ v))
    (ap (λ (x : Formula). after (formula_words (formula_form x) true) (page c.write_quantifier.new.out)) c.deref-in-Quantified-2.ensures
    ∙ quantified-formula c.in-Quantified.place c.in-Quantified.quantifier c.in-Quantified.variables
    c.deref-in-Quantified.result.now c.in-Quantified.body c.args.formula.now (is_open_end c.args.right_end)
    (page c.args.out.now) (page c.write_quantifier.new.out) c.in-Quantified.is c.deref-in-Quantified.ensures.value c.in_ok-write_quantifier-in-Quantified.ensures)
    c.write_plain-in-Quantified.ensures

pub write_formula-returns : goal.write_formula-returns
write_formula-returns t c =
    subst (λ (v : Page). OnOk c.close.result (page c.close.new.self ≡ v))
    (bracketed (formula_words (formula_form c.args.formula.now))
    (formula_needs_no_brackets (formula_form c.args.formula.now) c.args.position.level
    (is_open_end c.args.position.right_end)) (is_open_end c.args.position.right_end)
    (page c.args.out.now) (page c.open.new.self) (page c.write_plain-2.new.out) (sym c.needs_no_brackets.ensures ∙ c.if-needs_no_brackets.false) c.in_ok-open.ensures c.in_ok-write_plain.ensures)
    c.close.ensures
