use Rattle.std.proofs.Common.{◌∙◌, ap, sym}
use Rattle.pb_protocol_packing.specs.Numbers.{is_truth}
use Rattle.pb_protocol_packer.specs.View.{name_bytes}
use Rattle.pb_protocol_packer.proofs.Nodes.{at-application}
use Rattle.pb_protocol_packer.proofs.Tokens.{alone, alone-computed, several, several-computed, not-three, truth-choice}
use Rattle.pb_protocol_packer.proofs.seen.+truths.Goals as goal

pub is_truth-returns-in-Some : goal.is_truth-returns-in-Some
is_truth-returns-in-Some t c =
    sym (several c.in-Chain.connective c.in-Chain.first c.in-Chain.links c.deref.result.now c.in-Some.field-0.now c.args.term.now c.in-Chain.is c.deref.ensures.value c.in-Some.ensures.value).1

pub is_truth-returns-in-None : goal.is_truth-returns-in-None
is_truth-returns-in-None t c =
    c.is_truth.ensures
    ∙ ap is_truth
    (sym (alone c.in-Chain.connective c.deref-in-None.result.now c.in-Chain.first c.in-Chain.links
    c.deref.result.now c.args.term.now c.in-Chain.is c.deref-in-None.ensures c.deref.ensures.value c.in-None.ensures.value))

pub is_truth-returns-in-Some-first : goal.is_truth-returns-in-Some-first
is_truth-returns-in-Some-first t c =
    sym (several-computed c.in-Arithmetic.first c.in-Arithmetic.links c.deref-in-Arithmetic.result.now
    c.in-Some-first.field-0.now c.args.term.now c.in-Arithmetic.is c.deref-in-Arithmetic.ensures.value c.in-Some-first.ensures.value).1

pub is_truth-returns-in-None-first : goal.is_truth-returns-in-None-first
is_truth-returns-in-None-first t c =
    c.is_truth-in-None-first.ensures
    ∙ ap is_truth
    (sym (alone-computed c.deref-in-None-first.result.now c.in-Arithmetic.first c.in-Arithmetic.links
    c.deref-in-Arithmetic.result.now c.args.term.now c.in-Arithmetic.is c.deref-in-None-first.ensures
    c.deref-in-Arithmetic.ensures.value c.in-None-first.ensures.value))

pub are_truths-returns-then-arguments-ne3 : goal.are_truths-returns-then-arguments-ne3
are_truths-returns-then-arguments-ne3 t c = not-three is_truth c.args.arguments.now c.if-arguments-ne3.true

pub is_truth-returns-else-not-is_choice : goal.is_truth-returns-else-not-is_choice
is_truth-returns-else-not-is_choice t c =
    let f = name_bytes c.in-Application.function in
    let xs = c.deref-in-Application.result.now in
    c.are_truths.ensures ∙ truth-choice f xs (sym c.is_choice.ensures ∙ c.if-not-is_choice.false)
    ∙ ap is_truth (sym (at-application c.in-Application.function c.in-Application.arguments xs c.args.term.now c.in-Application.is c.deref-in-Application.ensures.value))
