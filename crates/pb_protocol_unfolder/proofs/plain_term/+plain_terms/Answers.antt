use Rattle.std.proofs.Common.{◌∙◌, not, sym, ap, map, refl}
use Rattle.std.specs.Prelude.{string_bytes}
use Rattle.std.specs.List.{list_all}
use Rattle.pb_text_tree.specs.Form.{argument_forms, term_form}
use Rattle.pb_text_counting.specs.Counting.{is_counting}
use Rattle.pb_protocol_unfolder.specs.Plain.{are_plain_arguments, is_plain_term}
use Rattle.pb_protocol_unfolder.specs.View.{operand_form, operation_form}
use Rattle.pb_protocol_unfolder.proofs.PlainChains.{at-false, at-true, term-chained, term-calculated, term-applied}
use Rattle.pb_protocol_unfolder.proofs.plain_term.+plain_terms.Goals as goal

pub is_plain_term-returns-then-not-is_plain_term : goal.is_plain_term-returns-then-not-is_plain_term
is_plain_term-returns-then-not-is_plain_term t c =
    let whole = term-chained c.in-Chain.connective c.deref-in-Chain.result.now c.in-Chain.first c.in-Chain.links c.in-Chain.links.items c.args.term.now c.in-Chain.is c.deref-in-Chain.ensures refl in
    at-false (is_plain_term (term_form c.deref-in-Chain.result.now)) (list_all is_plain_term (map operand_form c.in-Chain.links.items)) (is_plain_term (term_form c.args.term.now)) whole
    (sym c.is_plain_term-in-Chain.ensures ∙ c.if-not-is_plain_term.true)

pub is_plain_term-returns-else-not-is_plain_term : goal.is_plain_term-returns-else-not-is_plain_term
is_plain_term-returns-else-not-is_plain_term t c =
    let x = c.deref-in-Chain.result.now in
    let links = c.deref-in-Chain-2.result.now in
    let whole = term-chained c.in-Chain.connective x c.in-Chain.first c.in-Chain.links links c.args.term.now c.in-Chain.is c.deref-in-Chain.ensures c.deref-in-Chain-2.ensures.value in
    c.are_plain_links.ensures ∙ at-true (is_plain_term (term_form x)) (list_all is_plain_term (map operand_form links)) (is_plain_term (term_form c.args.term.now)) whole
    (sym c.is_plain_term-in-Chain.ensures ∙ c.if-not-is_plain_term.false)

pub is_plain_term-returns-then-not-is_plain_term-3 : goal.is_plain_term-returns-then-not-is_plain_term-3
is_plain_term-returns-then-not-is_plain_term-3 t c =
    let whole = term-calculated c.deref-in-Arithmetic.result.now c.in-Arithmetic.first c.in-Arithmetic.links c.in-Arithmetic.links.items c.args.term.now c.in-Arithmetic.is
    c.deref-in-Arithmetic.ensures refl in
    at-false (is_plain_term (term_form c.deref-in-Arithmetic.result.now)) (list_all is_plain_term (map operation_form c.in-Arithmetic.links.items)) (is_plain_term (term_form c.args.term.now)) whole
    (sym c.is_plain_term-in-Arithmetic.ensures ∙ c.if-not-is_plain_term-3.true)

pub is_plain_term-returns-else-not-is_plain_term-3 : goal.is_plain_term-returns-else-not-is_plain_term-3
is_plain_term-returns-else-not-is_plain_term-3 t c =
    let x = c.deref-in-Arithmetic.result.now in
    let links = c.deref-in-Arithmetic-2.result.now in
    let whole = term-calculated x c.in-Arithmetic.first c.in-Arithmetic.links links c.args.term.now c.in-Arithmetic.is c.deref-in-Arithmetic.ensures c.deref-in-Arithmetic-2.ensures.value in
    c.are_plain_operations.ensures ∙ at-true (is_plain_term (term_form x)) (list_all is_plain_term (map operation_form links)) (is_plain_term (term_form c.args.term.now)) whole
    (sym c.is_plain_term-in-Arithmetic.ensures ∙ c.if-not-is_plain_term-3.false)

pub is_plain_term-returns-then-is_counting : goal.is_plain_term-returns-then-is_counting
is_plain_term-returns-then-is_counting t c =
    let whole = term-applied c.in-Application.function c.in-Application.arguments c.in-Application.arguments.items c.args.term.now c.in-Application.is refl in
    let same = c.is_counting.ensures ∙ ap is_counting c.as_str.ensures.value in
    at-false (not (is_counting (string_bytes c.in-Application.function.text))) (are_plain_arguments (argument_forms c.in-Application.arguments.items)) (is_plain_term (term_form c.args.term.now)) whole
    (ap not (sym same ∙ c.if-is_counting.true))

pub is_plain_term-returns-else-is_counting : goal.is_plain_term-returns-else-is_counting
is_plain_term-returns-else-is_counting t c =
    let xs = c.deref-in-Application.result.now in
    let whole = term-applied c.in-Application.function c.in-Application.arguments xs c.args.term.now c.in-Application.is c.deref-in-Application.ensures.value in
    let same = c.is_counting.ensures ∙ ap is_counting c.as_str.ensures.value in
    c.are_plain_arguments.ensures
    ∙ at-true (not (is_counting (string_bytes c.in-Application.function.text))) (are_plain_arguments (argument_forms xs)) (is_plain_term (term_form c.args.term.now)) whole
    (ap not (sym same ∙ c.if-is_counting.false))
