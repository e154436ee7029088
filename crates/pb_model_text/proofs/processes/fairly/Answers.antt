use Rattle.std.specs.Prelude.{is_some}
use Rattle.std.proofs.Common.{rules, ◌≡◌, true, false}
use Rattle.pb_text_terms.proofs.ReaderLemmas.{refused, refuses}
use Rattle.pb_model_text.specs.Words.{fairly_of}
use Rattle.pb_model_text.proofs.FairLemmas.{none-said, some-said}
use Rattle.pb_model_text.proofs.WordLemmas.{word-refused, word-fails-at, word-taken-at}
use Rattle.pb_model_text.proofs.processes.fairly.Goals as goal

pub returns-in_err-place : goal.returns-in_err-place
returns-in_err-place c =
    refuses c.from_residual.result c.from_residual.ensures.1
    (word-refused fairly_of c.args.input.now c.in_err-place.field-0.0 c.in_err-place.ensures.reads)

pub returns-then-not-is_fairly : goal.returns-then-not-is_fairly
returns-then-not-is_fairly c =
    let other : is_some (fairly_of c.in_ok-place.text.now) ≡ false = search rules in
    refused (rw c.unexpected_name.ensures (word-fails-at c.args.input.now c.in_ok-place.ensures.reads fairly_of (none-said c.in_ok-place.text.now other)))

pub returns : goal.returns
returns c = record {
  reads = let on : is_some (fairly_of c.in_ok-place.text.now) ≡ true = search rules in
      word-taken-at c.args.input.now c.in_ok-place.ensures.reads fairly_of tt (some-said c.in_ok-place.text.now on);
  fewer = search rules;
}
