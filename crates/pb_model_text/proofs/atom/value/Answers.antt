use Rattle.std.proofs.lemmas.Result.{MatchResult-at_err}
use Rattle.pb_text_tree.specs.Form.{term_form}
use Rattle.pb_text_lexer.specs.Tokens.{tok}
use Rattle.pb_text_terms.proofs.ReaderLemmas.{refuses}
use Rattle.pb_model_text.specs.Reading.{names_of}
use Rattle.pb_model_text.proofs.FormulaLemmas.{value-again}
use Rattle.pb_model_text.proofs.atom.value.Goals as goal

pub returns-in_err-term-2 : goal.returns-in_err-term-2
returns-in_err-term-2 c =
    let going = MatchResult-at_err _ _ _ c.in_err-term-2.ensures c.unless_going_on.ensures in
    refuses c.from_residual-in_err-term-2.result c.from_residual-in_err-term-2.ensures.1
    (rw going.1 (value-again (names_of c.args.scope.names.now) c.args.scope.depth c.args.input.now c.take.new.self c.data_operand.new.input
    (tok c.take.result) (term_form c.in_ok-term.term) c.requires c.take.ensures.reads c.in_ok-term.ensures.reads going.0))
