use Rattle.std.proofs.Common.{◌≡◌, ◌∙◌, sym, ap, refl, subst, arith, List, [], ◌∷◌, ℕ, ◌+◌, true, false, length}
use Rattle.std.specs.Prelude.{box_value}
use Rattle.std.specs.Result.{OnOk}
use Rattle.std.proofs.lemmas.List.{drop_all}
use Rattle.pb_text_tree.specs.declared.term.Term.{Term}
use Rattle.pb_text_tree.specs.declared.term.ArithmeticLink.{ArithmeticLink}
use Rattle.pb_text_tree.specs.Form.{TermForm, term_form, term_link, arithmetic_links}
use Rattle.pb_text_printer.specs.declared.level.Level.{Level}
use Rattle.pb_text_printer.specs.declared.level.Bracketing.{Bracketing}
use Rattle.pb_text_printer.specs.declared.level.Position.{Position}
use Rattle.pb_text_printer.specs.Words.{Word, close_word, connective_word, connective_level, term_side, term_words, comparison_side, is_open_end, needs_no_brackets}
use Rattle.pb_text_printer.specs.Page.{Page, after, page, typed}
use Rattle.pb_text_printer.specs.Parts.{placed_words, bracket, computed_words, left_words}
use Rattle.pb_text_printer.proofs.PageLemmas.{bracketed}
use Rattle.pb_text_printer.proofs.ListParts.{argument-next, arguments-end}
use Rattle.pb_text_printer.proofs.LinkParts as links
use Rattle.pb_text_printer.proofs.ArithmeticParts.{computed-next, of-one-first, calculation}
use Rattle.pb_text_printer.proofs.TermParts.{placed, closed, connective-typed, comparison-typed, comparison-words, application-words, quantified-words}
use Rattle.pb_text_printer.proofs.term.+terms.Goals as goal

-- ---- arguments

pub write_arguments-loop-index-init : goal.write_arguments-loop-index-init
write_arguments-loop-index-init t c = refl

pub write_arguments-loop-index-preserved : goal.write_arguments-loop-index-preserved
write_arguments-loop-index-preserved t c =
    argument-next c.args.arguments.now c.loop-index.index c.index-arguments-index.result (page c.loop-index.out) (page c.write_separator.new.out) (page c.write_plain.new.out)
    c.loop-index-test.true c.index-arguments-index.is c.in_ok-write_separator.ensures c.in_ok-write_plain.ensures
    ∙ c.loop-index.invariant

pub write_arguments-returns : goal.write_arguments-returns
write_arguments-returns t c =
    subst (λ (v : Page). OnOk c.close.result (page c.close.new.self ≡ v))
    (ap (λ (w : List Word). after w (page c.loop-index.out)) (arguments-end c.args.arguments.now c.loop-index.index c.loop-index-test.false c.if-is_empty.ensures) ∙ c.loop-index.invariant)
    c.close.ensures

-- ---- chains

pub write_links-loop-index-init : goal.write_links-loop-index-init
write_links-loop-index-init t c = refl

pub write_links-returns-then-index-links : goal.write_links-returns-then-index-links
write_links-returns-then-index-links t c =
    let o = c.args.connective in
    let word : page c.word.new.self ≡ after (connective_word o ∷ []) (page c.loop-index.out) =
    c.in_ok-word.ensures ∙ ap (λ (v : List ℕ). typed true true v (page c.loop-index.out)) c.connective_token.ensures ∙ connective-typed o (page c.loop-index.out) in
    let end : c.loop-index.index + 1 ≡ length c.args.links.now = omega (arith, c.if-index-links.true) in
    let at : c.last-last.result ≡ record { level = connective_level o; right_end = c.args.right_end } =
    c.last-last.ensures ∙ ap (λ (v : Level). let r : Position = record { level = v; right_end = c.args.right_end } in r) c.connective_level.ensures in
    subst (λ (v : Page). OnOk c.write_term.result (page c.write_term.new.out ≡ v))
    (placed c.index-links-index.result.operand c.index-links-index.result.operand c.last-last.result
    (record { level = connective_level o; right_end = c.args.right_end }) (page c.word.new.self) refl at
    ∙ links.link-last term_link (connective_word o) (λ y. placed_words y (term_side o) false) (λ y. placed_words y (connective_level o) (is_open_end c.args.right_end))
    c.args.links.now c.loop-index.index c.index-links-index.result (page c.loop-index.out) (page c.word.new.self) end c.index-links-index.is word
    ∙ c.loop-index.invariant)
    c.write_term.ensures

pub write_links-loop-index-preserved : goal.write_links-loop-index-preserved
write_links-loop-index-preserved t c =
    let o = c.args.connective in
    let word : page c.word.new.self ≡ after (connective_word o ∷ []) (page c.loop-index.out) =
    c.in_ok-word.ensures ∙ ap (λ (v : List ℕ). typed true true v (page c.loop-index.out)) c.connective_token.ensures ∙ connective-typed o (page c.loop-index.out) in
    let more : c.loop-index.index + 1 ≡ length c.args.links.now → ⊥ = λ e. omega (arith, e, c.if-index-links.false) in
    let at : c.closed-side.result ≡ closed (term_side o) = c.closed-side.ensures ∙ ap closed c.operand_level.ensures in
    links.link-next term_link (connective_word o) (λ y. placed_words y (term_side o) false) (λ y. placed_words y (connective_level o) (is_open_end c.args.right_end))
    c.args.links.now c.loop-index.index c.index-links-index.result (page c.loop-index.out) (page c.word.new.self) (page c.write_term-in-loop-index.new.out)
    c.loop-index-test.true more c.index-links-index.is word
    (c.in_ok-write_term.ensures ∙ placed c.index-links-index.result.operand c.index-links-index.result.operand c.closed-side.result (closed (term_side o)) (page c.word.new.self) refl at)
    ∙ c.loop-index.invariant

pub write_links-returns : goal.write_links-returns
write_links-returns t c =
    let o = c.args.connective in
    links.links-end term_link (connective_word o) (λ y. placed_words y (term_side o) false) (λ y. placed_words y (connective_level o) (is_open_end c.args.right_end))
    c.args.links.now c.loop-index.index (page c.loop-index.out) c.loop-index-test.false
    ∙ c.loop-index.invariant

pub write_plain-returns-in-None : goal.write_plain-returns-in-None
write_plain-returns-in-None t c =
    subst (λ (v : Page). OnOk c.write_plain.result (page c.write_plain.new.out ≡ v))
    (ap (λ (x : TermForm). after (term_words x (is_open_end c.args.right_end)) (page c.args.out.now))
    (ap term_form c.deref-in-None.ensures
    ∙ links.chain-of-one c.in-Chain.connective c.in-Chain.first c.in-Chain.links c.deref-in-Chain.result.now
    c.args.term.now c.in-Chain.is c.deref-in-Chain.ensures.value c.in-None.ensures.value))
    c.write_plain.ensures

pub write_plain-returns-in_ok-write_term-in-Some : goal.write_plain-returns-in_ok-write_term-in-Some
write_plain-returns-in_ok-write_term-in-Some t c =
    let o = c.in-Chain.connective in
    let at : c.closed-side.result ≡ closed (term_side o) = c.closed-side.ensures ∙ ap closed c.operand_level.ensures in
    subst (λ (v : Page). OnOk c.write_links.result (page c.write_links.new.out ≡ v))
    (links.chain-words o c.in-Chain.first c.in-Chain.links c.deref-in-Chain.result.now c.deref-in-Some-2.result.now
    c.in-Some.field-0.now c.args.term.now (is_open_end c.args.right_end) (page c.args.out.now) (page c.write_term-in-Some.new.out)
    c.in-Chain.is c.deref-in-Chain.ensures.value c.deref-in-Some-2.ensures.value c.in-Some.ensures.value
    (c.in_ok-write_term-in-Some.ensures ∙ placed c.deref-in-Some.result.now (box_value c.in-Chain.first) c.closed-side.result (closed (term_side o)) (page c.args.out.now) c.deref-in-Some.ensures at))
    c.write_links.ensures

-- ---- comparisons

pub write_plain-returns-in_ok-word-in-Comparison : goal.write_plain-returns-in_ok-word-in-Comparison
write_plain-returns-in_ok-word-in-Comparison t c =
    let o = c.in-Comparison.comparison in
    let at : c.closed-side-in-Comparison.result ≡ closed (comparison_side o) = c.closed-side-in-Comparison.ensures ∙ ap closed c.comparison_levels.ensures.sides in
    let q = page c.write_term-in-Comparison.new.out in
    subst (λ (v : Page). OnOk c.write_term-in-Comparison-2.result (page c.write_term-in-Comparison-2.new.out ≡ v))
    (placed c.deref-in-Comparison-2.result.now (box_value c.in-Comparison.right) c.closed-side-in-Comparison.result
    (closed (comparison_side o)) (page c.word-in-Comparison.new.self) c.deref-in-Comparison-2.ensures at
    ∙ comparison-words c.in-Comparison.place o c.in-Comparison.left c.in-Comparison.right c.args.term.now
    (is_open_end c.args.right_end) (page c.args.out.now) q (page c.word-in-Comparison.new.self) c.in-Comparison.is
    (c.in_ok-write_term-in-Comparison.ensures
    ∙ placed c.deref-in-Comparison.result.now (box_value c.in-Comparison.left) c.closed-side-in-Comparison.result (closed (comparison_side o)) (page c.args.out.now) c.deref-in-Comparison.ensures at)
    (c.in_ok-word-in-Comparison.ensures ∙ ap (λ (v : List ℕ). typed true true v q) c.comparison_token.ensures ∙ comparison-typed o q))
    c.write_term-in-Comparison-2.ensures

-- ---- arithmetic

pub write_operations-loop-link-init : goal.write_operations-loop-link-init
write_operations-loop-link-init t c = refl

pub write_operations-loop-link-preserved : goal.write_operations-loop-link-preserved
write_operations-loop-link-preserved t c =
    computed-next c.loop-link.before c.args.links.now c.loop-link.link-index c.link-item.result (page c.loop-link.out)
    (page c.close_bracket.new.out) (page c.write_operation.new.out) c.loop-link-test.true c.link-item.is
    (c.in_ok-close_bracket.ensures ∙ ap (λ (b : Bracketing). after (bracket b close_word) (page c.loop-link.out)) c.left_bracketing.ensures)
    c.in_ok-write_operation.ensures
    ∙ c.loop-link.invariant

pub write_operations-returns : goal.write_operations-returns
write_operations-returns t c =
    ap (λ (v : List ArithmeticLink). after (computed_words c.loop-link.before (arithmetic_links v))
    (page c.loop-link.out)) (sym (drop_all c.loop-link.link-index c.args.links.now c.loop-link-test.false))
    ∙ c.loop-link.invariant

pub write_plain-returns-in-None-first : goal.write_plain-returns-in-None-first
write_plain-returns-in-None-first t c =
    subst (λ (v : Page). OnOk c.write_plain-in-None-first.result (page c.write_plain-in-None-first.new.out ≡ v))
    (ap (λ (x : TermForm). after (term_words x (is_open_end c.args.right_end)) (page c.args.out.now))
    (ap term_form c.deref-in-None-first.ensures
    ∙ of-one-first c.in-Arithmetic.first c.in-Arithmetic.links c.deref-in-Arithmetic.result.now c.args.term.now c.in-Arithmetic.is c.deref-in-Arithmetic.ensures.value c.in-None-first.ensures.value))
    c.write_plain-in-None-first.ensures

pub write_plain-returns-in_ok-write_left-in-Some-first : goal.write_plain-returns-in_ok-write_left-in-Some-first
write_plain-returns-in_ok-write_left-in-Some-first t c =
    let l = c.in-Some-first.link.now in
    subst (λ (v : Page). OnOk c.write_operations.result (page c.write_operations.new.out ≡ v))
    (calculation c.in-Arithmetic.first c.in-Arithmetic.links c.deref-in-Arithmetic.result.now
    c.deref-in-Some-first.result.now c.deref-in-Some-first-3.result.now l c.args.term.now (is_open_end c.args.right_end)
    (page c.args.out.now) (page c.open_brackets.new.out) (page c.write_left.new.out) c.in-Arithmetic.is
    c.deref-in-Arithmetic.ensures.value c.deref-in-Some-first.ensures.value c.deref-in-Some-first-3.ensures.value c.in-Some-first.ensures.value
    c.in_ok-open_brackets-in-Some-first.ensures
    (c.in_ok-write_left-in-Some-first.ensures ∙ ap (λ (x : Term). after (left_words l.operator (term_form x)) (page c.open_brackets.new.out)) c.deref-in-Some-first-2.ensures))
    c.write_operations.ensures

-- ---- applications and quantifiers

pub write_plain-returns-in_ok-word-in-Application : goal.write_plain-returns-in_ok-word-in-Application
write_plain-returns-in_ok-word-in-Application t c =
    subst (λ (v : Page). OnOk c.write_arguments.result (page c.write_arguments.new.out ≡ v))
    (application-words c.in-Application.function c.in-Application.arguments c.deref-in-Application.result.now
    c.args.term.now (is_open_end c.args.right_end) (page c.args.out.now) (page c.word-in-Application.new.self)
    c.in-Application.is c.deref-in-Application.ensures.value
    (c.in_ok-word-in-Application.ensures ∙ ap (λ (v : List ℕ). typed true true v (page c.args.out.now)) c.as_str-in-Application.ensures.value))
    c.write_arguments.ensures

pub write_plain-returns-in_ok-write_quantifier-in-Quantified : goal.write_plain-returns-in_ok-write_quantifier-in-Quantified
write_plain-returns-in_ok-write_quantifier-in-Quantified t c =
    subst (λ (v : Page). OnOk c.write_plain-in-Quantified.result (page c.write_plain-in-Quantified.new.out ≡ v))
    (ap (λ (x : Term). after (term_words (term_form x) true) (page c.write_quantifier.new.out)) c.deref-in-Quantified-2.ensures
    ∙ quantified-words c.in-Quantified.place c.in-Quantified.quantifier c.in-Quantified.variables c.deref-in-Quantified.result.now c.in-Quantified.body c.args.term.now (is_open_end c.args.right_end)
    (page c.args.out.now) (page c.write_quantifier.new.out) c.in-Quantified.is c.deref-in-Quantified.ensures.value c.in_ok-write_quantifier-in-Quantified.ensures)
    c.write_plain-in-Quantified.ensures

-- ---- brackets

pub write_term-returns : goal.write_term-returns
write_term-returns t c =
    subst (λ (v : Page). OnOk c.close.result (page c.close.new.self ≡ v))
    (bracketed (term_words (term_form c.args.term.now))
    (needs_no_brackets (term_form c.args.term.now) c.args.position.level (is_open_end c.args.position.right_end))
    (is_open_end c.args.position.right_end)
    (page c.args.out.now) (page c.open.new.self) (page c.write_plain-2.new.out) (sym c.needs_no_brackets.ensures ∙ c.if-needs_no_brackets.false) c.in_ok-open.ensures c.in_ok-write_plain.ensures)
    c.close.ensures
