use Rattle.std.proofs.Common.{◌≡◌, ◌∙◌, Some, sym, ap, take}
use Rattle.std.specs.Prelude.{box_value, string_bytes}
use Rattle.pb_text_meaning.specs.Syntax as syntax
use Rattle.pb_text_meaning.specs.Erase.{of_arithmetic}
use Rattle.pb_text_meaning.specs.Functions.{named_function}
use Rattle.pb_protocol_folding.specs.View.{term_of, terms_of}
use Rattle.pb_protocol_folding.proofs.Seen.{chain-alone, chain-many}
use Rattle.pb_protocol_unfolder_terms.specs.Bounds.{function_interval, operator_interval, truths}
use Rattle.pb_protocol_unfolder_terms.specs.Contexts.{interval_in, intervals_in}
use Rattle.pb_protocol_unfolder_terms.specs.Puts.{calculated_term}
use Rattle.pb_protocol_unfolder_terms.proofs.BoundsLemmas.{argument-none, argument-some, connective-truths}
use Rattle.pb_protocol_unfolder_terms.proofs.ChainLemmas.{application-said}
use Rattle.pb_protocol_unfolder_terms.proofs.TermLemmas.{arithmetic-said, calculated-next}
use Rattle.pb_protocol_unfolder_terms.proofs.bounds.+bounds.Goals as goal

pub bounds_at-returns-in_err-argument : goal.bounds_at-returns-in_err-argument
bounds_at-returns-in_err-argument t c = c.from_residual.ensures ∙ argument-none c.args.context.now c.args.arguments.now c.args.place c.in_err-argument.ensures.lookup.3

pub bounds_at-returns : goal.bounds_at-returns
bounds_at-returns t c =
    c.bounds_of.ensures
    ∙ argument-some c.args.context.now c.args.arguments.now c.args.place c.in_ok-argument.argument.now
    c.in_ok-argument.ensures.lookup.3.0 c.in_ok-argument.ensures.lookup.1

pub bounds_of-returns-then-is_empty : goal.bounds_of-returns-then-is_empty
bounds_of-returns-then-is_empty t c =
    c.bounds_of-then-is_empty.ensures
    ∙ ap (interval_in c.args.context.now) (chain-alone _ _ _ _ _ _ c.in-Chain.is c.is_empty.ensures c.if-is_empty.true c.deref-then-is_empty.ensures)

pub bounds_of-returns-else-is_empty : goal.bounds_of-returns-else-is_empty
bounds_of-returns-else-is_empty t c =
    ap Some c.new.ensures
    ∙ chain-many (interval_in c.args.context.now) (Some truths) c.in-Chain.connective
    (λ l r. connective-truths c.in-Chain.connective (interval_in c.args.context.now l)
    (interval_in c.args.context.now r)) _ _ _ _ c.in-Chain.is c.is_empty.ensures c.if-is_empty.false

pub bounds_of-returns-in-Arithmetic : goal.bounds_of-returns-in-Arithmetic
bounds_of-returns-in-Arithmetic t c =
    let said : calculated_term (term_of c.deref-in-Arithmetic.result.now) c.deref-in-Arithmetic-2.result.now ≡ term_of c.args.term.now =
    ap (λ y. calculated_term (term_of y) c.deref-in-Arithmetic-2.result.now) c.deref-in-Arithmetic.ensures
    ∙ ap (calculated_term (term_of (box_value c.in-Arithmetic.first))) c.deref-in-Arithmetic-2.ensures.value
    ∙ sym (arithmetic-said c.in-Arithmetic.first c.in-Arithmetic.links) ∙ ap term_of (sym c.in-Arithmetic.is) in
    c.bounds_of_links.ensures (term_of c.deref-in-Arithmetic.result.now) c.bounds_of-first.ensures ∙ ap (interval_in c.args.context.now) said

pub bounds_of-returns-in-Application : goal.bounds_of-returns-in-Application
bounds_of-returns-in-Application t c =
    let f = c.in-Application.function in
    let said : syntax.Term.Apply (string_bytes f.text) (terms_of c.deref-in-Application.result.now) ≡ term_of c.args.term.now =
    ap (λ ls. syntax.Term.Apply (string_bytes f.text) (terms_of ls)) c.deref-in-Application.ensures.value
    ∙ sym (application-said f c.in-Application.arguments) ∙ ap term_of (sym c.in-Application.is) in
    c.bounds_of_function.ensures ∙ ap (λ (x : _). function_interval (named_function x) (intervals_in c.args.context.now (terms_of c.deref-in-Application.result.now)))
    c.as_str-in-Application.ensures.value ∙ ap (interval_in c.args.context.now) said

pub bounds_of_links-loop-link-preserved : goal.bounds_of_links-loop-link-preserved
bounds_of_links-loop-link-preserved t c = λ x e.
    let k = c.args.context.now in
    let l = c.link-item.result in
    c.of_operator-bounds.ensures
    ∙ ap (λ i. operator_interval (of_arithmetic l.operator) i c.bounds_of-operand.result) (c.loop-link.invariant x e)
    ∙ ap (operator_interval (of_arithmetic l.operator) (interval_in k (calculated_term x (take c.loop-link.link-index c.args.links.now)))) c.bounds_of-operand.ensures
    ∙ ap (interval_in k) (calculated-next x c.args.links.now c.loop-link.link-index l c.loop-link-test.true c.link-item.is)
