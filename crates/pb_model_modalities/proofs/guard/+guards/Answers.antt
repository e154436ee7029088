use Rattle.std.proofs.Common.{◌≡◌, ◌∙◌, ◌==◌, ℕ, true, false, true≢false, vec_len, length, sym, ap, arith}
use Rattle.std.proofs.lemmas.Result.{IfOk-weaker}
use Rattle.std.proofs.lemmas.Bool.Decides.{nat_tests}
use Rattle.pb_text_tree.specs.declared.operator.Connective.{Connective}
use Rattle.pb_text_tree.specs.Form.{TermForm, FormulaForm, term_form}
use Rattle.pb_model_translation.specs.Placed.{behind_form}
use Rattle.pb_model_modalities.specs.Guard as guards
use Rattle.pb_model_modalities.proofs.Guards.{at-first, at-whole, alone-said, at-arithmetic, alone-calculated}
use Rattle.pb_model_modalities.proofs.guard.+guards.Goals as goal

pub behind-returns-then-is_empty : goal.behind-returns-then-is_empty
behind-returns-then-is_empty t c =
    let r = c.args.reading in
    let none : length c.in-Chain.links.items ≡ 0 = grind (arith, nat_tests) in
    let same : term_form c.deref-then-is_empty.result.now ≡ term_form c.args.guard.now =
    ap term_form c.deref-then-is_empty.ensures ∙ sym (alone-said c.in-Chain.connective c.in-Chain.first c.in-Chain.links c.args.guard.now c.in-Chain.is none) in
    IfOk-weaker c.behind-then-is_empty.result
    (λ f. guards.reversed_chain_form r.connective f
    ≡ behind_form r.connective r.place r.negated (term_form c.deref-then-is_empty.result.now)
    (guards.reversed_chain_form r.connective c.args.then))
    (λ f. guards.reversed_chain_form r.connective f ≡ behind_form r.connective r.place r.negated (term_form c.args.guard.now) (guards.reversed_chain_form r.connective c.args.then))
    (λ f h. h ∙ ap (λ (x : TermForm). behind_form r.connective r.place r.negated x (guards.reversed_chain_form r.connective c.args.then)) same) c.behind-then-is_empty.ensures

pub behind-returns-then-is_empty-2 : goal.behind-returns-then-is_empty-2
behind-returns-then-is_empty-2 t c =
    let r = c.args.reading in
    let none : length c.in-Arithmetic.links.items ≡ 0 = grind (arith, nat_tests) in
    let same : term_form c.deref-then-is_empty-2.result.now ≡ term_form c.args.guard.now =
    ap term_form c.deref-then-is_empty-2.ensures ∙ sym (alone-calculated c.in-Arithmetic.first c.in-Arithmetic.links c.args.guard.now c.in-Arithmetic.is none) in
    IfOk-weaker c.behind-then-is_empty-2.result
    (λ f. guards.reversed_chain_form r.connective f
    ≡ behind_form r.connective r.place r.negated (term_form c.deref-then-is_empty-2.result.now)
    (guards.reversed_chain_form r.connective c.args.then))
    (λ f. guards.reversed_chain_form r.connective f ≡ behind_form r.connective r.place r.negated (term_form c.args.guard.now) (guards.reversed_chain_form r.connective c.args.then))
    (λ f h. h ∙ ap (λ (x : TermForm). behind_form r.connective r.place r.negated x (guards.reversed_chain_form r.connective c.args.then)) same) c.behind-then-is_empty-2.ensures

pub behind-returns-then-not-is_cut : goal.behind-returns-then-not-is_cut
behind-returns-then-not-is_cut t c =
    let r = c.args.reading in
    let k = c.in-Chain.connective in
    let whole : guards.is_cut k r.negated ≡ false = sym c.is_cut.ensures ∙ c.if-not-is_cut.true in
    let some : length c.in-Chain.links.items ≡ 0 → ⊥ = λ e.
    let zero : vec_len c.in-Chain.links ≡ 0 = omega (arith, e, c.in-Chain.links.ok.0) in
    let test : (vec_len c.in-Chain.links == 0) ≡ true = ap (λ (n : ℕ). n == 0) zero in
    true≢false (sym test ∙ sym c.is_empty.ensures ∙ c.if-is_empty.false) in
    IfOk-weaker c.behind_conjunct.result
    (λ f. guards.reversed_chain_form r.connective f
    ≡ FormulaForm.connected r.connective r.place
    (FormulaForm.val r.place (guards.signed_term r.place r.negated (term_form c.args.guard.now)))
    (guards.reversed_chain_form r.connective c.args.then))
    (λ f. guards.reversed_chain_form r.connective f ≡ behind_form r.connective r.place r.negated (term_form c.args.guard.now) (guards.reversed_chain_form r.connective c.args.then))
    (λ f h. h ∙ sym
    (at-whole r.connective k r.place r.negated c.in-Chain.first c.in-Chain.links c.args.guard.now
    (guards.reversed_chain_form r.connective c.args.then) c.in-Chain.is whole some)) c.behind_conjunct.ensures

pub behind-returns-else-is_empty-2 : goal.behind-returns-else-is_empty-2
behind-returns-else-is_empty-2 t c =
    let r = c.args.reading in
    let some : length c.in-Arithmetic.links.items ≡ 0 → ⊥ = λ e.
    let zero : vec_len c.in-Arithmetic.links ≡ 0 = omega (arith, e, c.in-Arithmetic.links.ok.0) in
    let test : (vec_len c.in-Arithmetic.links == 0) ≡ true = ap (λ (n : ℕ). n == 0) zero in
    true≢false (sym test ∙ sym c.is_empty-in-Arithmetic.ensures ∙ c.if-is_empty-2.false) in
    IfOk-weaker c.behind_conjunct-in-Arithmetic.result
    (λ f. guards.reversed_chain_form r.connective f
    ≡ FormulaForm.connected r.connective r.place
    (FormulaForm.val r.place (guards.signed_term r.place r.negated (term_form c.args.guard.now)))
    (guards.reversed_chain_form r.connective c.args.then))
    (λ f. guards.reversed_chain_form r.connective f ≡ behind_form r.connective r.place r.negated (term_form c.args.guard.now) (guards.reversed_chain_form r.connective c.args.then))
    (λ f h. h ∙ sym
    (at-arithmetic r.connective r.place r.negated c.in-Arithmetic.first c.in-Arithmetic.links c.args.guard.now
    (guards.reversed_chain_form r.connective c.args.then) c.in-Arithmetic.is some)) c.behind_conjunct-in-Arithmetic.ensures

pub behind-returns-in_ok-then-in-Chain : goal.behind-returns-in_ok-then-in-Chain
behind-returns-in_ok-then-in-Chain t c =
    let r = c.args.reading in
    let k = c.in-Chain.connective in
    let s = c.operand_reading-sign.result in
    let y = c.deref-in-Chain-3.result.now in
    let after = c.in_ok-then-in-Chain.then in
    let g = guards.reversed_chain_form r.connective after in
    let cut : guards.is_cut k r.negated ≡ true = sym c.is_cut.ensures ∙ c.if-not-is_cut.false in
    let same : s.connective ≡ r.connective = c.operand_reading-sign.ensures.connective in
    let said = at-first r.connective k r.place r.negated c.in-Chain.first c.in-Chain.links c.args.guard.now (guards.reversed_chain_form r.connective c.args.then) c.in-Chain.is cut
    c.negates_first-others_negated.result c.negates_first-others_negated.ensures c.deref-in-Chain.result.now c.deref-in-Chain-2.result.now
    c.deref-in-Chain.ensures.value c.deref-in-Chain-2.ensures.value s.connective same s.place s.negated
    c.operand_reading-sign.ensures.sign y c.deref-in-Chain-3.ensures g c.in_ok-then-in-Chain.ensures in
    IfOk-weaker c.behind-in-Chain.result (λ f. guards.reversed_chain_form s.connective f ≡ behind_form s.connective s.place s.negated (term_form y) (guards.reversed_chain_form s.connective after))
    (λ f. guards.reversed_chain_form r.connective f ≡ behind_form r.connective r.place r.negated (term_form c.args.guard.now) (guards.reversed_chain_form r.connective c.args.then))
    (λ f h. ap (λ (d : Connective). guards.reversed_chain_form d f) (sym same) ∙ h
    ∙ ap (λ (d : Connective). behind_form s.connective s.place s.negated (term_form y) (guards.reversed_chain_form d after)) same ∙ said) c.behind-in-Chain.ensures
