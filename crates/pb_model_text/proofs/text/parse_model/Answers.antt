use Rattle.std.proofs.Common.{refl}
use Rattle.std.proofs.lemmas.Result.{err_from_is_err_and}
use Rattle.pb_text.proofs.WholeLemmas.{is-reading, only-reading, ranged, said, refused-is, stands-is}
use Rattle.pb_model_text.proofs.ParseLemmas.{model_syntax, answered}
use Rattle.pb_model_text.proofs.text.parse_model.Goals as goal

pub returns-in_err-model-clause-refused : goal.returns-in_err-model-clause-refused
returns-in_err-model-clause-refused c =
    let p = err_from_is_err_and c.from_residual.result c.from_residual.ensures.1 in
    let read = answered c.args.bytes.now c.new-input.result c.whole.result c.whole.new.input c.new-input.ensures c.whole.ensures in
    rw (p.1, p.2) (refused-is model_syntax c.args.bytes.now c.whole.result read c.in_err-model.field-0.0 c.in_err-model.ensures.cases)

pub returns-in_err-model-clause-stands : goal.returns-in_err-model-clause-stands
returns-in_err-model-clause-stands c =
    let p = err_from_is_err_and c.from_residual.result c.from_residual.ensures.1 in
    let read = answered c.args.bytes.now c.new-input.result c.whole.result c.whole.new.input c.new-input.ensures c.whole.ensures in
    rw (p.1, p.2) (stands-is model_syntax c.args.bytes.now c.whole.result read c.in_err-model.field-0.0 c.in_err-model.ensures.cases)

pub returns-clause-reading : goal.returns-clause-reading
returns-clause-reading c =
    let read = answered c.args.bytes.now c.new-input.result c.whole.result c.whole.new.input c.new-input.ensures c.whole.ensures in
    is-reading model_syntax c.args.bytes.now _ (ranged model_syntax c.args.bytes.now c.in_ok-model.model (record c.in_ok-model.model {
      protocol = record c.in_ok-model.model.protocol {
        ranges = c.in_ok-model-2.field-0;
      };
    })
    (said model_syntax c.args.bytes.now c.whole.result read c.in_ok-model.model c.in_ok-model.ensures.cases) c.in_ok-model-2.ensures refl)

pub returns-clause-only : goal.returns-clause-only
returns-clause-only c =
    let read = answered c.args.bytes.now c.new-input.result c.whole.result c.whole.new.input c.new-input.ensures c.whole.ensures in
    only-reading model_syntax c.args.bytes.now _ (ranged model_syntax c.args.bytes.now c.in_ok-model.model (record c.in_ok-model.model {
      protocol = record c.in_ok-model.model.protocol {
        ranges = c.in_ok-model-2.field-0;
      };
    })
    (said model_syntax c.args.bytes.now c.whole.result read c.in_ok-model.model c.in_ok-model.ensures.cases) c.in_ok-model-2.ensures refl)
