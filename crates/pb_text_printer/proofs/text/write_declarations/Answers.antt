use Rattle.std.proofs.Common.{◌∙◌, refl}
use Rattle.pb_text_tree.specs.Form.{sort_declaration_form}
use Rattle.pb_text_printer.specs.Page.{page}
use Rattle.pb_text_printer.specs.Words.{declaration_words}
use Rattle.pb_text_printer.proofs.ListParts.{line-next, lines-end}
use Rattle.pb_text_printer.proofs.text.write_declarations.Goals as goal

pub loop-declaration-init : goal.loop-declaration-init
loop-declaration-init c = refl

pub loop-declaration-preserved : goal.loop-declaration-preserved
loop-declaration-preserved c =
    line-next sort_declaration_form declaration_words c.args.declarations.now c.loop-declaration.declaration-index
    c.declaration-item.result (page c.loop-declaration.out) (page c.write_declaration.new.out)
    c.loop-declaration-test.true c.declaration-item.is c.in_ok-write_declaration.ensures
    ∙ c.loop-declaration.invariant

pub returns : goal.returns
returns c =
    lines-end sort_declaration_form declaration_words c.args.declarations.now c.loop-declaration.declaration-index
    (page c.loop-declaration.out) c.loop-declaration-test.false ∙ c.loop-declaration.invariant
