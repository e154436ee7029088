-- The property is satisfied where its text is true.
use Rattle.std.proofs.Common.{◌∙◌, Option, Bool, sym, subst}
use Rattle.std.specs.Prelude.{IfSome}
use Rattle.pb_command_models.specs.Outcomes.{IsOutcomeBy, IsTruthBy}
use Rattle.pb_command_models.proofs.outcome.is_satisfied.Goals as goal

pub returns-in-Some : goal.returns-in-Some
returns-in-Some g c =
    let compiled = c.args.property.now in
    let truth : IsTruthBy compiled c.in-Some.truth = subst (λ (o : Option Bool). IfSome o (IsTruthBy compiled)) c.in-Some.is c.in_ok-truth.ensures in
    λ is. subst (IsTruthBy compiled) is truth

pub returns-in-Answered : goal.returns-in-Answered
returns-in-Answered g c = λ is model p h. sym is ∙ (subst (IsOutcomeBy c.args.property.now) c.in-Answered.is c.in_ok-answer.ensures model p h).exact
