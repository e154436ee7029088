use Rattle.std.proofs.Common.{◌∙◌}
use Rattle.pb_protocol_typing.specs.Written.{written}
use Rattle.pb_protocol_typing.proofs.WrittenRows.{chain-other, chain-same, arithmetic-other, arithmetic-same, chain-written, arithmetic-written}
use Rattle.pb_protocol_typing.proofs.written.+as_written.Goals as goal

pub returns-in-Some : goal.returns-in-Some
returns-in-Some t c = chain-other written chain-written c.in-Chain.links c.in-Chain.is c.deref-in-Chain.ensures.value c.in-Some.ensures.value

pub returns-in-None : goal.returns-in-None
returns-in-None t c = c.as_written.ensures ∙ chain-same written chain-written c.in-Chain.links c.in-Chain.is c.deref-in-None.ensures c.deref-in-Chain.ensures.value c.in-None.ensures.value

pub returns-in-Some-first : goal.returns-in-Some-first
returns-in-Some-first t c = arithmetic-other written arithmetic-written c.in-Arithmetic.links c.in-Arithmetic.is c.deref-in-Arithmetic.ensures.value c.in-Some-first.ensures.value

pub returns-in-None-first : goal.returns-in-None-first
returns-in-None-first t c =
    c.as_written-in-None-first.ensures
    ∙ arithmetic-same written arithmetic-written c.in-Arithmetic.links c.in-Arithmetic.is c.deref-in-None-first.ensures c.deref-in-Arithmetic.ensures.value c.in-None-first.ensures.value
