use Rattle.pb_text_lexer.specs.Tokens.{tok}
use Rattle.pb_model_text.proofs.ModelLemmas.{initial-read}
use Rattle.pb_model_text.proofs.model.initial_parts.Goals as goal

pub returns : goal.returns
returns c =
    initial-read 64 c.args.input.now c.expect.new.self c.argument_list.new.input c.expect-2.new.self (tok c.in_ok-place.field-0) (tok c.in_ok-expect.field-0) c.in_ok-values.values.items
    c.in_ok-place.ensures.reads c.in_ok-values.ensures.reads c.in_ok-expect.ensures.reads
