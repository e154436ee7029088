use Rattle.std.proofs.Common.{rules, ℕ, sym, subst}
use Rattle.pb_text_tree.specs.Form.{TermForm, term_form}
use Rattle.pb_text_lexer.specs.Steps.{Outcome, GivesExactly}
use Rattle.pb_text_lexer.specs.Tokens.{tok}
use Rattle.pb_text_terms.specs.Reading.{closed}
use Rattle.pb_text_terms.proofs.ReadLemmas.{number-is}
use Rattle.pb_text_terms.proofs.node.number.Goals as goal

pub returns : goal.returns
returns c = record {
  reads = subst (λ (o : Outcome TermForm). GivesExactly term_form o c.closed.result c.take.new.self)
      (sym (number-is c.args.input.now c.take.new.self (tok c.take.result) c.take.ensures.reads))
      (subst (λ (n : ℕ). GivesExactly term_form (closed (TermForm.number c.take.result.place n) c.take.new.self) c.closed.result c.take.new.self) c.number-value.ensures c.closed.ensures);
  fewer = search rules;
}
