use Rattle.std.proofs.Common.{refl, ◌∙◌, ap, sym}
use Rattle.std.specs.Prelude.{None}
use Rattle.pb_text_meaning.specs.Syntax.{Term}
use Rattle.pb_protocol_packer.specs.Written.{written_number}
use Rattle.pb_protocol_packer.proofs.Tokens.{alone, alone-computed, chain-as, computed-as}
use Rattle.pb_protocol_packer.proofs.seen.+written_number.Goals as goal

pub returns-in-Some : goal.returns-in-Some
returns-in-Some t c =
    sym (chain-as written_number (λ (x : Term). None) (λ o x y. refl)
    c.in-Chain.connective c.in-Chain.first c.in-Chain.links c.deref-in-Chain.result.now c.in-Some.field-0.now c.args.term.now c.in-Chain.is c.deref-in-Chain.ensures.value c.in-Some.ensures.value)

pub returns-in-None : goal.returns-in-None
returns-in-None t c =
    c.written_number.ensures
    ∙ ap written_number
    (sym (alone c.in-Chain.connective c.deref-in-None.result.now c.in-Chain.first c.in-Chain.links
    c.deref-in-Chain.result.now c.args.term.now c.in-Chain.is c.deref-in-None.ensures c.deref-in-Chain.ensures.value c.in-None.ensures.value))

pub returns-in-Some-first : goal.returns-in-Some-first
returns-in-Some-first t c =
    sym (computed-as written_number (λ (x : Term). None) (λ o x y. refl)
    c.in-Arithmetic.first c.in-Arithmetic.links c.deref-in-Arithmetic.result.now c.in-Some-first.field-0.now c.args.term.now c.in-Arithmetic.is
    c.deref-in-Arithmetic.ensures.value c.in-Some-first.ensures.value)

pub returns-in-None-first : goal.returns-in-None-first
returns-in-None-first t c =
    c.written_number-in-None-first.ensures
    ∙ ap written_number
    (sym (alone-computed c.deref-in-None-first.result.now c.in-Arithmetic.first c.in-Arithmetic.links
    c.deref-in-Arithmetic.result.now c.args.term.now c.in-Arithmetic.is c.deref-in-None-first.ensures
    c.deref-in-Arithmetic.ensures.value c.in-None-first.ensures.value))
