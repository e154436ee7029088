use Rattle.std.proofs.Common.{◌∙◌, ap}
use Rattle.pb_text_tree.specs.Form.{term_form}
use Rattle.pb_text_printer.specs.Words.{goes_on}
use Rattle.pb_text_printer.proofs.LinkParts.{chain-of-one, chain-of-more}
use Rattle.pb_text_printer.proofs.ArithmeticParts.{arithmetic-goes-on, of-one-last}
use Rattle.pb_text_printer.proofs.term.+goes_on.Goals as goal

pub returns-in-Some : goal.returns-in-Some
returns-in-Some t c =
    ap (goes_on c.args.operator)
    (chain-of-more c.in-Chain.connective c.in-Chain.first c.in-Chain.links c.deref.result.now c.in-Some.field-0.now c.args.term.now c.in-Chain.is c.deref.ensures.value c.in-Some.ensures.value)

pub returns-in-None : goal.returns-in-None
returns-in-None t c =
    c.goes_on.ensures
    ∙ ap (goes_on c.args.operator)
    (ap term_form c.deref-in-None.ensures
    ∙ chain-of-one c.in-Chain.connective c.in-Chain.first c.in-Chain.links c.deref.result.now c.args.term.now
    c.in-Chain.is c.deref.ensures.value c.in-None.ensures.value)

pub returns-in-Some-last : goal.returns-in-Some-last
returns-in-Some-last t c =
    c.chains_with.ensures
    ∙ arithmetic-goes-on c.args.operator c.in-Arithmetic.first c.in-Arithmetic.links c.deref-in-Arithmetic.result.now c.in-Some-last.link.now c.args.term.now c.in-Arithmetic.is
    c.deref-in-Arithmetic.ensures.value c.in-Some-last.ensures.value

pub returns-in-None-last : goal.returns-in-None-last
returns-in-None-last t c =
    c.goes_on-in-None-last.ensures
    ∙ ap (goes_on c.args.operator)
    (ap term_form c.deref-in-None-last.ensures
    ∙ of-one-last c.in-Arithmetic.first c.in-Arithmetic.links c.deref-in-Arithmetic.result.now c.args.term.now
    c.in-Arithmetic.is c.deref-in-Arithmetic.ensures.value c.in-None-last.ensures.value)
