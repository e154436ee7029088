-- The truth that is told is that of the property.
use Rattle.std.proofs.Common.{◌≡◌, Bool, Option, sym, subst}
use Rattle.std.specs.Prelude.{IfSome}
use Rattle.pb_model_tree.specs.Form.{ModelForm, PropertyForm}
use Rattle.pb_model_properties.specs.Said.{tree_satisfies}
use Rattle.pb_command_models.specs.Outcomes.{IsPropertyModule}
use Rattle.pb_command_models.proofs.Truths.{told_truth}
use Rattle.pb_command_models.proofs.outcome.early_truth.Goals as goal

pub returns : goal.returns
returns g c =
    let compiled = c.args.property.now in
    subst (λ (o : Option Bool). IfSome o (λ b. (model : ModelForm) (p : PropertyForm) → IsPropertyModule model p compiled → b ≡ tree_satisfies model p.formula)) (sym c.truth.ensures)
    (told_truth (λ model p. IsPropertyModule model p compiled) c.in_ok-early.early c.in_ok-early.ensures)
