use Rattle.std.proofs.Common.{◌≡◌, ◌∙◌, ◌==◌, ◌&&◌, ℕ, Bool, length, sym, ap, arith, vec_len, Vec, Global}
use Rattle.pb_typing_tree.specs.View.{formula_view}
use Rattle.pb_typing_tree.specs.declared.formula.Formula.{Formula}
use Rattle.pb_typing_calls.specs.Made.{is_test}
use Rattle.pb_typing_calls.proofs.Operands.{chain-test, quantifier-test}
use Rattle.pb_typing_calls.proofs.calls.+is_test.Goals as goal

-- a vector's length, as it is asked for
empty_items : {X : Type 0} (v : Vec X Global) {b : Bool} → b ≡ (vec_len v == 0) → (length v.items == 0) ≡ b
empty_items v is =
    let lengths : length v.items ≡ vec_len v = omega (arith, v.ok.0) in
    ap (λ (n : ℕ). n == 0) lengths ∙ sym is

pub returns-then-is_empty : goal.returns-then-is_empty
returns-then-is_empty t c =
    let tested : Formula → Bool = λ g. is_test (formula_view g) in
    c.is_test-then-is_empty.ensures
    ∙ (ap tested c.deref-then-is_empty.ensures
    ∙ sym (chain-test c.args.formula.now c.in-Chain.connective c.in-Chain.first c.in-Chain.links c.in-Chain.is
    ∙ ap (λ b. b && tested c.in-Chain.first.value) (empty_items c.in-Chain.links c.if-is_empty.ensures)))

pub returns-else-is_empty : goal.returns-else-is_empty
returns-else-is_empty t c =
    c.is_empty.ensures
    ∙ (sym c.if-is_empty.ensures
    ∙ sym (chain-test c.args.formula.now c.in-Chain.connective c.in-Chain.first c.in-Chain.links c.in-Chain.is
    ∙ ap (λ b. b && is_test (formula_view c.in-Chain.first.value)) (empty_items c.in-Chain.links c.if-is_empty.ensures)))

pub returns-else-is_empty-2 : goal.returns-else-is_empty-2
returns-else-is_empty-2 t c =
    let f = formula_view c.in-Quantified.body.value in
    let v = c.in-Quantified.carriers in
    c.is_empty-in-Quantified.ensures
    ∙ (sym c.if-is_empty-2.ensures
    ∙ sym (ap (λ (g : Formula). is_test (formula_view g)) c.in-Quantified.is
    ∙ (quantifier-test c.in-Quantified.quantifier c.in-Quantified.slot v.items f
    ∙ ap (λ b. b && is_test f) (empty_items v c.if-is_empty-2.ensures))))
