use Rattle.std.proofs.Common.{◌∙◌, ap, sym, false, refl}
use Rattle.pb_protocol_packing.specs.Numbers.{is_enumerator}
use Rattle.pb_protocol_packer.specs.View.{name_bytes, texts_of}
use Rattle.pb_protocol_packer.proofs.Nodes.{at-application}
use Rattle.pb_protocol_packer.proofs.Tokens.{alone, alone-computed, chain-as, computed-as, not-three, enumerator-choice}
use Rattle.pb_protocol_packer.proofs.seen.+enumerators.Goals as goal

pub is_enumerator-returns-in-Some : goal.is_enumerator-returns-in-Some
is_enumerator-returns-in-Some t c =
    sym (chain-as (is_enumerator (texts_of c.args.enumerators.now)) (λ x. false) (λ o x y. refl)
    c.in-Chain.connective c.in-Chain.first c.in-Chain.links c.deref-in-Chain.result.now c.in-Some.field-0.now c.args.term.now c.in-Chain.is c.deref-in-Chain.ensures.value c.in-Some.ensures.value)

pub is_enumerator-returns-in-None : goal.is_enumerator-returns-in-None
is_enumerator-returns-in-None t c =
    c.is_enumerator.ensures
    ∙ ap (is_enumerator (texts_of c.args.enumerators.now))
    (sym (alone c.in-Chain.connective c.deref-in-None.result.now c.in-Chain.first c.in-Chain.links
    c.deref-in-Chain.result.now c.args.term.now c.in-Chain.is c.deref-in-None.ensures c.deref-in-Chain.ensures.value
    c.in-None.ensures.value))

pub is_enumerator-returns-in-Some-first : goal.is_enumerator-returns-in-Some-first
is_enumerator-returns-in-Some-first t c =
    sym (computed-as (is_enumerator (texts_of c.args.enumerators.now)) (λ x. false) (λ o x y. refl)
    c.in-Arithmetic.first c.in-Arithmetic.links c.deref-in-Arithmetic.result.now c.in-Some-first.field-0.now
    c.args.term.now c.in-Arithmetic.is c.deref-in-Arithmetic.ensures.value c.in-Some-first.ensures.value)

pub is_enumerator-returns-in-None-first : goal.is_enumerator-returns-in-None-first
is_enumerator-returns-in-None-first t c =
    c.is_enumerator-in-None-first.ensures
    ∙ ap (is_enumerator (texts_of c.args.enumerators.now))
    (sym (alone-computed c.deref-in-None-first.result.now c.in-Arithmetic.first c.in-Arithmetic.links
    c.deref-in-Arithmetic.result.now c.args.term.now c.in-Arithmetic.is c.deref-in-None-first.ensures
    c.deref-in-Arithmetic.ensures.value c.in-None-first.ensures.value))

pub are_enumerators-returns-then-arguments-ne3 : goal.are_enumerators-returns-then-arguments-ne3
are_enumerators-returns-then-arguments-ne3 t c = not-three (is_enumerator (texts_of c.args.enumerators.now)) c.args.arguments.now c.if-arguments-ne3.true

pub is_enumerator-returns-else-not-is_choice : goal.is_enumerator-returns-else-not-is_choice
is_enumerator-returns-else-not-is_choice t c =
    let f = name_bytes c.in-Application.function in
    let xs = c.deref-in-Application.result.now in
    let es = texts_of c.args.enumerators.now in
    c.are_enumerators.ensures ∙ enumerator-choice es f xs (sym c.is_choice.ensures ∙ c.if-not-is_choice.false)
    ∙ ap (is_enumerator es) (sym (at-application c.in-Application.function c.in-Application.arguments xs c.args.term.now c.in-Application.is c.deref-in-Application.ensures.value))
