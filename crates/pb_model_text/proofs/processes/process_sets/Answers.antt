use Rattle.std.proofs.Common.{rules, arith, ◌≡◌, true, false}
use Rattle.pb_text_lexer.specs.Steps.{kind}
use Rattle.pb_text_lexer.specs.Tokens.{tok}
use Rattle.pb_text_terms.specs.Reading.{is_open}
use Rattle.pb_text_terms.proofs.ReaderLemmas.{refused, refuses, read-as}
use Rattle.pb_model_text.proofs.FairLemmas.{bracket-missing, bracket-fails, bracket-opened}
use Rattle.pb_model_text.proofs.processes.process_sets.Goals as goal

pub returns-then-not-same_kind-clause-reads : goal.returns-then-not-same_kind-clause-reads
returns-then-not-same_kind-clause-reads c =
    let other : is_open (kind c.args.input.now) ≡ false = search rules in
    refused (rw c.refuse.ensures (bracket-missing c.args.depth c.args.input.now other))

pub returns-in_err-enter-clause-reads : goal.returns-in_err-enter-clause-reads
returns-in_err-enter-clause-reads c =
    let on : is_open (kind c.args.input.now) ≡ true = search rules in
    refuses c.from_residual.result c.from_residual.ensures.1 (bracket-fails c.args.depth c.args.input.now on c.in_err-enter.field-0.0 c.in_err-enter.ensures.reads)

pub returns-clause-reads : goal.returns-clause-reads
returns-clause-reads c =
    let on : is_open (kind c.args.input.now) ≡ true = search rules in
    read-as (bracket-opened c.args.depth c.args.input.now on (tok c.in_ok-enter.field-0) c.enter.new.self c.in_ok-enter.ensures.reads c.in_ok-enter.ensures.deeper)
    (omega (arith, c.in_ok-enter.ensures.fewer)) c.processes_behind.ensures
