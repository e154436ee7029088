use Rattle.std.proofs.Common.{◌∙◌, ap}
use Rattle.pb_text_tree.specs.Form.{TermForm, term_form}
use Rattle.pb_text_printer.specs.declared.level.Level.{Level}
use Rattle.pb_text_printer.specs.Words.{is_open_end, needs_no_brackets, fits}
use Rattle.pb_text_printer.proofs.LinkParts.{chain-of-one, chain-needs_no_brackets}
use Rattle.pb_text_printer.proofs.ArithmeticParts.{arithmetic-needs_no_brackets, of-one-last}
use Rattle.pb_text_printer.proofs.term.+needs_no_brackets.Goals as goal

pub returns-in-Some : goal.returns-in-Some
returns-in-Some t c =
    c.fits.ensures ∙ ap (λ (v : Level). fits v c.args.position.level) c.connective_level.ensures
    ∙ chain-needs_no_brackets c.in-Chain.connective c.in-Chain.first c.in-Chain.links c.deref.result.now
    c.in-Some.field-0.now c.args.term.now c.args.position.level (is_open_end c.args.position.right_end)
    c.in-Chain.is c.deref.ensures.value c.in-Some.ensures.value

pub returns-in-None : goal.returns-in-None
returns-in-None t c =
    c.needs_no_brackets.ensures
    ∙ ap (λ (v : TermForm). needs_no_brackets v c.args.position.level (is_open_end c.args.position.right_end))
    (ap term_form c.deref-in-None.ensures
    ∙ chain-of-one c.in-Chain.connective c.in-Chain.first c.in-Chain.links c.deref.result.now c.args.term.now
    c.in-Chain.is c.deref.ensures.value c.in-None.ensures.value)

pub returns-in-Some-last : goal.returns-in-Some-last
returns-in-Some-last t c =
    c.fits-in-Some-last.ensures ∙ ap (λ (v : Level). fits v c.args.position.level) c.arithmetic_levels.ensures.own
    ∙ arithmetic-needs_no_brackets c.in-Arithmetic.first c.in-Arithmetic.links c.deref-in-Arithmetic.result.now
    c.in-Some-last.link.now c.args.term.now c.args.position.level (is_open_end c.args.position.right_end) c.in-Arithmetic.is
    c.deref-in-Arithmetic.ensures.value c.in-Some-last.ensures.value

pub returns-in-None-last : goal.returns-in-None-last
returns-in-None-last t c =
    c.needs_no_brackets-in-None-last.ensures
    ∙ ap (λ (v : TermForm). needs_no_brackets v c.args.position.level (is_open_end c.args.position.right_end))
    (ap term_form c.deref-in-None-last.ensures
    ∙ of-one-last c.in-Arithmetic.first c.in-Arithmetic.links c.deref-in-Arithmetic.result.now c.args.term.now
    c.in-Arithmetic.is c.deref-in-Arithmetic.ensures.value c.in-None-last.ensures.value)
