use Rattle.std.proofs.Common.{◌∙◌, ap, sym}
use Rattle.pb_protocol_packer.specs.Written.{written_in}
use Rattle.pb_protocol_packer.proofs.Tokens.{alone, alone-computed, several, several-computed}
use Rattle.pb_protocol_packer.proofs.seen.+as_written.Goals as goal

pub returns-in-Some : goal.returns-in-Some
returns-in-Some t c =
    sym (several c.in-Chain.connective c.in-Chain.first c.in-Chain.links c.deref.result.now c.in-Some.field-0.now c.args.term.now c.in-Chain.is c.deref.ensures.value c.in-Some.ensures.value).0

pub returns-in-None : goal.returns-in-None
returns-in-None t c =
    c.as_written.ensures
    ∙ ap written_in
    (sym (alone c.in-Chain.connective c.deref-in-None.result.now c.in-Chain.first c.in-Chain.links
    c.deref.result.now c.args.term.now c.in-Chain.is c.deref-in-None.ensures c.deref.ensures.value c.in-None.ensures.value))

pub returns-in-Some-first : goal.returns-in-Some-first
returns-in-Some-first t c =
    sym (several-computed c.in-Arithmetic.first c.in-Arithmetic.links c.deref-in-Arithmetic.result.now
    c.in-Some-first.field-0.now c.args.term.now c.in-Arithmetic.is c.deref-in-Arithmetic.ensures.value c.in-Some-first.ensures.value).0

pub returns-in-None-first : goal.returns-in-None-first
returns-in-None-first t c =
    c.as_written-in-None-first.ensures
    ∙ ap written_in
    (sym (alone-computed c.deref-in-None-first.result.now c.in-Arithmetic.first c.in-Arithmetic.links
    c.deref-in-Arithmetic.result.now c.args.term.now c.in-Arithmetic.is c.deref-in-None-first.ensures
    c.deref-in-Arithmetic.ensures.value c.in-None-first.ensures.value))
