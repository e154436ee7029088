use Rattle.std.proofs.Common.{rules, ◌≡◌, true, ap, ◌∙◌, Ok}
use Rattle.pb_text_lexer.specs.declared.kind.Kind.TheVariants.{Name}
use Rattle.pb_text_lexer.specs.Kinds.{same_kind}
use Rattle.pb_text_lexer.specs.Steps.{kind, head_text, expect, take_token}
use Rattle.pb_text_lexer.specs.Tokens.{tok}
use Rattle.pb_text_lexer.proofs.TokenLemmas.{name-taken}
use Rattle.pb_text_lexer.proofs.input.Input.expect_name.Goals as goal

pub returns-clause-reads : goal.returns-clause-reads
unfolding expect take_token
returns-clause-reads c =
    let same : same_kind (kind c.args.self.now) Name ≡ true = search rules in
    let text : c.text_of-text.result.now ≡ head_text c.args.self.now.tokens = search rules in
    let named = name-taken c.args.self.now.tokens c.args.self.now.operators c.take.new.self (tok c.take.result) c.text_of-text.result.now c.take.ensures.reads same text in
    rw same (c.take.ensures.reads ∙ ap (λ v. Ok (v, c.take.new.self)) named)
