use Rattle.std.proofs.Common.{◌∙◌, ◌++◌, List, map, ap, refl, sym}
use Rattle.std.specs.Prelude.{box_value, Option}
use Rattle.std.proofs.lemmas.Result.{IfOk-at_ok}
use Rattle.pb_text_tree.specs.declared.term.Term as tree
use Rattle.pb_text_tree.specs.declared.term.Argument.{Argument}
use Rattle.pb_text_tree.specs.declared.term.TermLink.{TermLink}
use Rattle.pb_text_tree.specs.declared.term.ArithmeticLink.{ArithmeticLink}
use Rattle.pb_text_tree.specs.Form.{Named}
use Rattle.pb_text_meaning.specs.Syntax.{Operator, Term}
use Rattle.pb_text_meaning.specs.Erase.{of_connective, of_arithmetic, of_comparison}
use Rattle.pb_protocol_packing.specs.Said.{Digit, compared, digit_in, said, all_said}
use Rattle.pb_protocol_packer.specs.View.{term_of, name_bytes, operand_of, operands_of, operation_of, operations_of, terms_of, joined_terms, calculated_terms}
use Rattle.pb_protocol_packer.specs.Scopes.{operation_said, scope_in}
use Rattle.pb_protocol_packer.proofs.Nodes.{at-chain, at-arithmetic, at-application, says-so}
use Rattle.pb_protocol_packer.proofs.SaidNodes.{said-joined, said-calculated, terms_behind, terms-behind-none}
use Rattle.pb_protocol_packer.proofs.LoopRows.{loop-ends, loop-goes, row-ends, row-pushed, terms-pushed}
use Rattle.pb_protocol_packer.proofs.said.+terms.Goals as goal

pub said-returns-in_ok-first-in-Chain-2 : goal.said-returns-in_ok-first-in-Chain-2
said-returns-in_ok-first-in-Chain-2 t c =
    let σ = scope_in c.args.packing.now c.args.hiding.now in
    let k = of_connective c.in-Chain.connective in
    let x = c.deref.result.now in
    let ls = c.deref-in-Chain.result.now in
    says-so c.chain.result _ _
    (ap (λ (z : Term). joined_terms k z (operands_of c.in_ok-first-in-Chain-2.links.items)) (ap term_of c.in_ok-first-in-Chain-2.ensures.0 ∙ c.in_ok-first-in-Chain.ensures)
    ∙ ap (joined_terms k (said σ (term_of x))) (IfOk-at_ok _ c.in_ok-first-in-Chain-2.ensures.1 c.said_links.ensures)
    ∙ sym (said-joined σ c.in-Chain.connective (term_of x) (operands_of ls))
    ∙ ap (said σ) (sym (at-chain c.in-Chain.connective x c.in-Chain.first c.in-Chain.links ls c.args.term.now c.in-Chain.is c.deref.ensures c.deref-in-Chain.ensures.value)))
    c.chain.ensures

pub said-returns-in_ok-first-in-Arithmetic-2 : goal.said-returns-in_ok-first-in-Arithmetic-2
said-returns-in_ok-first-in-Arithmetic-2 t c =
    let σ = scope_in c.args.packing.now c.args.hiding.now in
    let x = c.deref-in-Arithmetic.result.now in
    let ls = c.deref-in-Arithmetic-2.result.now in
    says-so c.arithmetic.result _ _
    (ap (λ (z : Term). calculated_terms z (operations_of c.in_ok-first-in-Arithmetic-2.links.items)) (ap term_of c.in_ok-first-in-Arithmetic-2.ensures.0 ∙ c.in_ok-first-in-Arithmetic.ensures)
    ∙ ap (calculated_terms (said σ (term_of x))) (IfOk-at_ok _ c.in_ok-first-in-Arithmetic-2.ensures.1 c.said_operations.ensures)
    ∙ sym (said-calculated σ (term_of x) ls)
    ∙ ap (said σ) (sym (at-arithmetic x c.in-Arithmetic.first c.in-Arithmetic.links ls c.args.term.now c.in-Arithmetic.is c.deref-in-Arithmetic.ensures c.deref-in-Arithmetic-2.ensures.value)))
    c.arithmetic.ensures

pub said-returns-in_ok-arguments-in-Application : goal.said-returns-in_ok-arguments-in-Application
said-returns-in_ok-arguments-in-Application t c =
    let σ = scope_in c.args.packing.now c.args.hiding.now in
    let xs = c.deref-in-Application.result.now in
    c.application.ensures
    ∙ ap (λ (f : Named). Term.Apply f.text (terms_of c.in_ok-arguments-in-Application.arguments.items)) c.in_ok-function-in-Application.ensures
    ∙ ap (Term.Apply (name_bytes c.in-Application.function)) c.in_ok-arguments-in-Application.ensures
    ∙ ap (said σ) (sym (at-application c.in-Application.function c.in-Application.arguments xs c.args.term.now c.in-Application.is c.deref-in-Application.ensures.value))

abbrev with_operator : Operator → Term → Operator × Term
with_operator o x = (o, x)

pub said_arguments-loop-argument-preserved : goal.said_arguments-loop-argument-preserved
said_arguments-loop-argument-preserved t c =
    loop-goes (λ (ys : List Argument). terms_behind c.loop-argument.said_arguments.items (all_said (scope_in c.args.packing.now c.args.hiding.now) (terms_of ys))) c.args.arguments.now
    c.loop-argument.argument-index c.argument-item.result _ _ c.loop-argument-test.true c.argument-item.is
    (terms-pushed _ _ _ _ _ c.in_ok-push.ensures.items c.in_ok-term.ensures) c.loop-argument.invariant

pub said_arguments-returns : goal.said_arguments-returns
said_arguments-returns t c =
    let made = c.loop-argument.said_arguments.items in
    sym (terms-behind-none made)
    ∙ loop-ends (λ (ys : List Argument). terms_behind made (all_said (scope_in c.args.packing.now c.args.hiding.now) (terms_of ys))) c.args.arguments.now
    c.loop-argument.argument-index _ c.loop-argument-test.false c.loop-argument.invariant

pub said_links-loop-link-preserved : goal.said_links-loop-link-preserved
said_links-loop-link-preserved t c =
    loop-goes (λ (ys : List TermLink). operands_of c.loop-link.said_links.items ++ map (said (scope_in c.args.packing.now c.args.hiding.now)) (operands_of ys)) c.args.links.now
    c.loop-link.link-index c.link-item.result _ _ c.loop-link-test.true c.link-item.is
    (row-pushed operand_of _ _ _ _ _ c.in_ok-push.ensures.items c.in_ok-operand.ensures) c.loop-link.invariant

pub said_links-returns : goal.said_links-returns
said_links-returns t c =
    row-ends (λ (ys : List TermLink). map (said (scope_in c.args.packing.now c.args.hiding.now)) (operands_of ys)) (operands_of c.loop-link.said_links.items) c.args.links.now
    c.loop-link.link-index _ refl c.loop-link-test.false c.loop-link.invariant

pub said_operations-loop-link-preserved : goal.said_operations-loop-link-preserved
said_operations-loop-link-preserved t c =
    loop-goes (λ (ys : List ArithmeticLink). operations_of c.loop-link.said_links.items ++ map (operation_said (scope_in c.args.packing.now c.args.hiding.now)) (operations_of ys)) c.args.links.now
    c.loop-link.link-index c.link-item.result _ _ c.loop-link-test.true c.link-item.is
    (row-pushed operation_of _ _ _ _ _ c.in_ok-push.ensures.items (ap (with_operator (of_arithmetic c.link-item.result.operator)) c.in_ok-operand.ensures)) c.loop-link.invariant

pub said_operations-returns : goal.said_operations-returns
said_operations-returns t c =
    row-ends (λ (ys : List ArithmeticLink). map (operation_said (scope_in c.args.packing.now c.args.hiding.now)) (operations_of ys)) (operations_of c.loop-link.said_links.items) c.args.links.now
    c.loop-link.link-index _ refl c.loop-link-test.false c.loop-link.invariant

pub said-returns-in_ok-left-in-Comparison-2 : goal.said-returns-in_ok-left-in-Comparison-2
said-returns-in_ok-left-in-Comparison-2 t c =
    let σ = scope_in c.args.packing.now c.args.hiding.now in
    let o = of_comparison c.in-Comparison.comparison in
    let x = term_of (box_value c.in-Comparison.left) in
    let d = digit_in σ x in
    let left = term_of c.in_ok-left-in-Comparison-2.left in
    let right = term_of c.in_ok-left-in-Comparison-2.right in
    says-so c.compared.result _ _
    (ap (λ (e : Option Digit). compared o e left right) (c.digit_in-digit.ensures ∙ ap (λ (y : tree.Term). digit_in σ (term_of y)) c.deref-in-Comparison.ensures)
    ∙ ap (λ (z : Term). compared o d z right) (ap term_of c.in_ok-left-in-Comparison-2.ensures.0 ∙ c.in_ok-left-in-Comparison.ensures
    ∙ ap (λ (y : tree.Term). said σ (term_of y)) c.deref-in-Comparison-2.ensures)
    ∙ ap (λ (z : Term). compared o d (said σ x) z) (IfOk-at_ok _ c.in_ok-left-in-Comparison-2.ensures.1 c.said-in-Comparison-2.ensures
    ∙ ap (λ (y : tree.Term). said σ (term_of y)) c.deref-in-Comparison-3.ensures)
    ∙ ap (λ (y : tree.Term). said σ (term_of y)) (sym c.in-Comparison.is))
    c.compared.ensures
