use Rattle.std.proofs.Common.{◌∙◌, refl}
use Rattle.pb_text_printer.specs.Page.{page}
use Rattle.pb_text_printer.proofs.ListParts.{enumerator-next, enumerators-end}
use Rattle.pb_text_printer.proofs.text.write_enumerators.Goals as goal

pub loop-index-init : goal.loop-index-init
loop-index-init c = refl

pub loop-index-preserved : goal.loop-index-preserved
loop-index-preserved c =
    enumerator-next c.args.enumerators.now c.loop-index.index c.index-enumerators-index.result (page c.loop-index.out) (page c.write_bar.new.out) (page c.write_enumerator.new.out)
    c.loop-index-test.true c.index-enumerators-index.is c.in_ok-write_bar.ensures c.in_ok-write_enumerator.ensures
    ∙ c.loop-index.invariant

pub returns : goal.returns
returns c = enumerators-end c.args.enumerators.now c.loop-index.index (page c.loop-index.out) c.loop-index-test.false ∙ c.loop-index.invariant
