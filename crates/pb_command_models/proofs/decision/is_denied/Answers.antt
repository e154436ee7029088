-- The negation's module says that it is satisfied.
use Rattle.std.proofs.Common.{◌≡◌, Bool, Option, true, refl, sym, subst}
use Rattle.std.specs.Prelude.{IfSome}
use Rattle.pb_model_properties.specs.Said.{tree_satisfies}
use Rattle.pb_command_models.specs.Outcomes.{IsPropertyModule, OfModule}
use Rattle.pb_command_models.specs.declared.property_module.PropertyModule.TheVariants as property_module
use Rattle.pb_command_models.proofs.Decisions.{denied_at, of_known}
use Rattle.pb_command_models.proofs.Truths.{known_early, told_truth}
use Rattle.pb_command_models.proofs.decision.is_denied.Goals as goal

pub returns-in-Some-true-clause-denied : goal.returns-in-Some-true-clause-denied
returns-in-Some-true-clause-denied g c _ =
    let m = c.in-Verified.verified in
    let compiled = property_module.Verified m in
    let told = known_early compiled m refl c.in_ok-early.early c.in_ok-early.ensures in
    denied_at c.args.input.now c.args.place c.in_ok-verified.field-0 m c.in-Verified.is c.in_ok-verified.ensures.compiled
    (of_known (λ (b : Bool). OfModule compiled (λ n q. b ≡ tree_satisfies n q.formula))
    c.truth.result c.in-Some-true.field-0 true c.in-Some-true.is c.in-Some-true.field-0-test
    (subst (λ (o : Option Bool). IfSome o (λ b. OfModule compiled (λ n q. b ≡ tree_satisfies n q.formula))) (sym c.truth.ensures)
    (told_truth (λ n q. IsPropertyModule n q compiled) c.in_ok-early.early told)))
