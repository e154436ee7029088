use Rattle.std.proofs.Common.{List, ◌∙◌, sym, ap, refl}
use Rattle.std.proofs.lemmas.List.{drop_all}
use Rattle.pb_text_tree.specs.declared.term.ArithmeticLink.{ArithmeticLink}
use Rattle.pb_text_tree.specs.Form.{arithmetic_links}
use Rattle.pb_text_printer.specs.declared.level.Bracketing.{Bracketing}
use Rattle.pb_text_printer.specs.Page.{after, page}
use Rattle.pb_text_printer.specs.Words.{open_word}
use Rattle.pb_text_printer.specs.Parts.{opened, bracket}
use Rattle.pb_text_printer.proofs.ArithmeticParts.{opened-next}
use Rattle.pb_text_printer.proofs.term.open_brackets.Goals as goal

pub loop-link-init : goal.loop-link-init
loop-link-init c = refl

pub loop-link-preserved : goal.loop-link-preserved
loop-link-preserved c =
    opened-next c.loop-link.before c.args.links.now c.loop-link.link-index c.link-item.result (page c.loop-link.out) (page c.open_bracket.new.out) c.loop-link-test.true c.link-item.is
    (c.in_ok-open_bracket.ensures ∙ ap (λ (b : Bracketing). after (bracket b open_word) (page c.loop-link.out)) c.left_bracketing.ensures)
    ∙ c.loop-link.invariant

pub returns : goal.returns
returns c =
    ap (λ (v : List ArithmeticLink). after (opened c.loop-link.before (arithmetic_links v)) (page c.loop-link.out)) (sym (drop_all c.loop-link.link-index c.args.links.now c.loop-link-test.false))
    ∙ c.loop-link.invariant
