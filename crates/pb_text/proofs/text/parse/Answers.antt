use Rattle.std.proofs.Common.{refl}
use Rattle.std.proofs.lemmas.Result.{err_from_is_err_and}
use Rattle.pb_text.proofs.ParseLemmas.{text_syntax, answered}
use Rattle.pb_text.proofs.WholeLemmas.{is-reading, only-reading, ranged, said, refused-is, stands-is}
use Rattle.pb_text.proofs.text.parse.Goals as goal

pub returns-in_err-text-clause-refused : goal.returns-in_err-text-clause-refused
returns-in_err-text-clause-refused c =
    let p = err_from_is_err_and c.from_residual.result c.from_residual.ensures.1 in
    let read = answered c.args.bytes.now c.new-input.result c.whole.result c.whole.new.input c.new-input.ensures c.whole.ensures in
    rw (p.1, p.2) (refused-is text_syntax c.args.bytes.now c.whole.result read c.in_err-text.field-0.0 c.in_err-text.ensures.cases)

pub returns-in_err-text-clause-stands : goal.returns-in_err-text-clause-stands
returns-in_err-text-clause-stands c =
    let p = err_from_is_err_and c.from_residual.result c.from_residual.ensures.1 in
    let read = answered c.args.bytes.now c.new-input.result c.whole.result c.whole.new.input c.new-input.ensures c.whole.ensures in
    rw (p.1, p.2) (stands-is text_syntax c.args.bytes.now c.whole.result read c.in_err-text.field-0.0 c.in_err-text.ensures.cases)

pub returns-clause-reading : goal.returns-clause-reading
returns-clause-reading c =
    let read = answered c.args.bytes.now c.new-input.result c.whole.result c.whole.new.input c.new-input.ensures c.whole.ensures in
    is-reading text_syntax c.args.bytes.now _ (ranged text_syntax c.args.bytes.now c.in_ok-text.text (record c.in_ok-text.text { ranges = c.in_ok-text-2.field-0 })
    (said text_syntax c.args.bytes.now c.whole.result read c.in_ok-text.text c.in_ok-text.ensures.cases) c.in_ok-text-2.ensures refl)

pub returns-clause-only : goal.returns-clause-only
returns-clause-only c =
    let read = answered c.args.bytes.now c.new-input.result c.whole.result c.whole.new.input c.new-input.ensures c.whole.ensures in
    only-reading text_syntax c.args.bytes.now _ (ranged text_syntax c.args.bytes.now c.in_ok-text.text (record c.in_ok-text.text { ranges = c.in_ok-text-2.field-0 })
    (said text_syntax c.args.bytes.now c.whole.result read c.in_ok-text.text c.in_ok-text.ensures.cases) c.in_ok-text-2.ensures refl)
