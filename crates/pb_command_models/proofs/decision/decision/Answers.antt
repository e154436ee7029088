-- What the negation decides, by what becomes of its text.
use Rattle.std.proofs.Common.{refl, sym, subst}
use Rattle.pb_model_properties.specs.declared.verdicts.Verdict.TheVariants.{False, Unknown}
use Rattle.pb_command_models.specs.declared.finding.Finding.TheVariants.{Decided, Refused}
use Rattle.pb_command_models.specs.declared.property_module.PropertyModule.{PropertyModule}
use Rattle.pb_command_models.specs.Outcomes.{IsDecisionBy, IsOutcome}
use Rattle.pb_command_models.proofs.Decisions.{decides_false, decides_unknown}
use Rattle.pb_command_models.proofs.decision.decision.Goals as goal

pub returns-in-TooLarge : goal.returns-in-TooLarge
returns-in-TooLarge g c = subst (λ (n : PropertyModule). IsDecisionBy n c.args.answer (Refused c.in-TooLarge.excess)) (sym c.in-TooLarge.is) refl

pub returns-in-TooLarge-2 : goal.returns-in-TooLarge-2
returns-in-TooLarge-2 g c = subst (λ (n : PropertyModule). IsDecisionBy n c.args.answer (Refused c.in-TooLarge-2.excess)) (sym c.in-Verified.is)
    (λ m q h. subst (IsOutcome m q) c.in-TooLarge-2.is (c.in_ok-excess.ensures m q h))

pub returns-then-second : goal.returns-then-second
returns-then-second g c = subst (λ (n : PropertyModule). IsDecisionBy n c.args.answer (Decided False c.args.answer)) (sym c.in-Verified.is)
    (λ m q h. decides_false m c.args.answer c.in-Answered.second c.in_ok-excess.field-0 c.in-Answered.is c.if-second.true q (c.in_ok-excess.ensures m q h))

pub returns-else-second : goal.returns-else-second
returns-else-second g c = subst (λ (n : PropertyModule). IsDecisionBy n c.args.answer (Decided Unknown c.args.answer)) (sym c.in-Verified.is)
    (λ m q h. decides_unknown m c.args.answer c.in-Answered.second c.in_ok-excess.field-0 c.in-Answered.is c.if-second.false q (c.in_ok-excess.ensures m q h))
