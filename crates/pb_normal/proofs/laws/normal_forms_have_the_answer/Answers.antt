use Rattle.std.proofs.Common.{ap}
use Rattle.pb_fixpoint.specs.Solution.{Environment}
use Rattle.pb_text_meaning.specs.Erase.{erase}
use Rattle.pb_text_meaning.specs.Formula.{Instance}
use Rattle.pb_normal.proofs.Answer.{normal-solution, normal-answer}
use Rattle.pb_typing.proofs.Accepted.{accepted-well-typed}
use Rattle.pb_normal.proofs.laws.normal_forms_have_the_answer.Goals as goal

pub returns : goal.returns
returns c = record {
  solution = λ spec typed t i. ap (λ (u : Environment Instance). u i) (normal-solution spec typed t);
  answer = normal-answer;
  accepted = λ text faultless. normal-answer (erase text) (accepted-well-typed text faultless);
}
