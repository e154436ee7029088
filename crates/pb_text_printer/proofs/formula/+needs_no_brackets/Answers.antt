use Rattle.std.proofs.Common.{◌∙◌, ap}
use Rattle.pb_text_tree.specs.Form.{FormulaForm, formula_form}
use Rattle.pb_text_printer.specs.declared.level.Level.{Level}
use Rattle.pb_text_printer.specs.Words.{is_open_end, formula_needs_no_brackets, fits}
use Rattle.pb_text_printer.proofs.LinkParts.{formula-of-one}
use Rattle.pb_text_printer.proofs.LinkParts as parts
use Rattle.pb_text_printer.proofs.formula.+needs_no_brackets.Goals as goal

pub returns-in-Some : goal.returns-in-Some
returns-in-Some t c =
    c.fits.ensures ∙ ap (λ (v : Level). fits v c.args.position.level) c.connective_level.ensures
    ∙ parts.formula-needs_no_brackets c.in-Chain.connective c.in-Chain.first c.in-Chain.links c.deref.result.now
    c.in-Some.field-0.now c.args.formula.now c.args.position.level (is_open_end c.args.position.right_end)
    c.in-Chain.is c.deref.ensures.value c.in-Some.ensures.value

pub returns-in-None : goal.returns-in-None
returns-in-None t c =
    c.needs_no_brackets.ensures
    ∙ ap (λ (v : FormulaForm). formula_needs_no_brackets v c.args.position.level (is_open_end c.args.position.right_end))
    (ap formula_form c.deref-in-None.ensures
    ∙ formula-of-one c.in-Chain.connective c.in-Chain.first c.in-Chain.links c.deref.result.now c.args.formula.now
    c.in-Chain.is c.deref.ensures.value c.in-None.ensures.value)
