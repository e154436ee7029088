use Rattle.std.proofs.Common.{◌≡◌, ◌∙◌, Bool, subst, arith}
use Rattle.pb_text_meaning.specs.Syntax.{Term}
use Rattle.pb_protocol_unfolder_terms.specs.Behind.{HasPassed}
use Rattle.pb_protocol_unfolder_terms.specs.Forms.{HasForm}
use Rattle.pb_protocol_unfolder_terms.specs.Unfolding.{name_in}
use Rattle.pb_protocol_unfolder_terms.proofs.assigned.passed_over.Goals as goal

pub returns-then-passed : goal.returns-then-passed
returns-then-passed c = λ S n left whole rest l r. record {
  term = r.term ∙ l.term;
  form = subst (λ (b : Bool). HasPassed b whole rest) c.if-passed.true l.form;
  room = omega (arith, l.room, r.room);
}

pub returns : goal.returns
returns c = λ S n left whole rest l r.
    let same : rest ≡ whole = subst (λ (b : Bool). HasPassed b whole rest) c.if-passed.false l.form in
    record {
      term = r.term ∙ l.term;
      form = subst (λ (z : Term). HasForm c.args.unfolded.form (name_in c.args.unfolded.term) z) same r.form;
      room = omega (arith, l.room, r.room);
    }
