use Rattle.std.proofs.Common.{◌∙◌, refl}
use Rattle.pb_text_tree.specs.Form.{equation_form}
use Rattle.pb_text_printer.specs.Page.{page}
use Rattle.pb_text_printer.specs.Words.{equation_words}
use Rattle.pb_text_printer.proofs.ListParts.{line-next, lines-end}
use Rattle.pb_text_printer.proofs.text.write_equations.Goals as goal

pub loop-equation-init : goal.loop-equation-init
loop-equation-init c = refl

pub loop-equation-preserved : goal.loop-equation-preserved
loop-equation-preserved c =
    line-next equation_form equation_words c.args.equations.now c.loop-equation.equation-index c.equation-item.result (page c.loop-equation.out) (page c.write_equation.new.out)
    c.loop-equation-test.true c.equation-item.is c.in_ok-write_equation.ensures
    ∙ c.loop-equation.invariant

pub returns : goal.returns
returns c =
    lines-end equation_form equation_words c.args.equations.now c.loop-equation.equation-index (page c.loop-equation.out) c.loop-equation-test.false ∙ c.loop-equation.invariant
