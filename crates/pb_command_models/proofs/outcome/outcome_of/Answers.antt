-- The outcome of a module is that of the property whose text's it is.
use Rattle.std.proofs.Common.{subst}
use Rattle.pb_command_models.specs.Outcomes.{IsOutcome, IsPropertyModule}
use Rattle.pb_command_models.specs.declared.property_module.PropertyModule.TheVariants as property_module
use Rattle.pb_command_models.proofs.Excesses.{answer_more}
use Rattle.pb_command_models.proofs.outcome.outcome_of.Goals as goal

pub returns-in-TooLarge : goal.returns-in-TooLarge
returns-in-TooLarge g c model p h = subst (IsPropertyModule model p) c.in-TooLarge.is h

pub returns-in-Verified : goal.returns-in-Verified
returns-in-Verified g c =
    answer_more (λ m p. IsPropertyModule m p (property_module.Verified c.in-Verified.verified)) (λ m p. IsPropertyModule m p c.args.property.now) IsOutcome
    (λ m p h. subst (IsPropertyModule m p) c.in-Verified.is h) c.answered.result c.answered.ensures
