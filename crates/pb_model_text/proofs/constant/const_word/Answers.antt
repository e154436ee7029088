use Rattle.std.specs.Prelude.{is_some}
use Rattle.std.proofs.Common.{rules, ◌≡◌, true, false}
use Rattle.pb_text_terms.proofs.ReaderLemmas.{refused, refuses}
use Rattle.pb_model_text.specs.Models.{const_of}
use Rattle.pb_model_text.proofs.FairLemmas.{no-unit, some-unit}
use Rattle.pb_model_text.proofs.WordLemmas.{word-refused, word-fails-at, word-taken-at}
use Rattle.pb_model_text.proofs.constant.const_word.Goals as goal

pub returns-in_err-place : goal.returns-in_err-place
returns-in_err-place c =
    refuses c.from_residual.result c.from_residual.ensures.1
    (word-refused const_of c.args.input.now c.in_err-place.field-0.0 c.in_err-place.ensures.reads)

pub returns-then-not-is_const : goal.returns-then-not-is_const
returns-then-not-is_const c =
    let other : is_some (const_of c.in_ok-place.text.now) ≡ false = search rules in
    refused (rw c.unexpected_name.ensures (word-fails-at c.args.input.now c.in_ok-place.ensures.reads const_of (no-unit (const_of c.in_ok-place.text.now) other)))

pub returns : goal.returns
returns c = record {
  reads = let on : is_some (const_of c.in_ok-place.text.now) ≡ true = search rules in
      word-taken-at c.args.input.now c.in_ok-place.ensures.reads const_of tt (some-unit (const_of c.in_ok-place.text.now) on);
  fewer = search rules;
}
