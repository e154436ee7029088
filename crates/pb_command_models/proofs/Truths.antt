-- What the truth of the module of a property's text says of the property.
use Rattle.std.proofs.Common.{◌≡◌, ◌∙◌, Bool, subst}
use Rattle.std.specs.Prelude.{Result, Ok, Err, IfOk, IfSome}
use Rattle.pb_sorts.specs.declared.counting.Counting.TheVariants.{Reached}
use Rattle.pb_bytecode.specs.Contents.{Contents}
use Rattle.pb_model_tree.specs.Form.{ModelForm, PropertyForm}
use Rattle.pb_model_properties.specs.Said.{tree_satisfies}
use Rattle.pb_command_solver.specs.declared.early.Early.{Early}
use Rattle.pb_command_solver.specs.declared.early.Early.TheVariants as early
use Rattle.pb_command_solver.specs.Answers.{IsEarly, IsTruthOf, truth_in}
use Rattle.pb_command_models.specs.declared.property_module.PropertyModule.{PropertyModule}
use Rattle.pb_command_models.specs.declared.property_module.PropertyModule.TheVariants as property_module
use Rattle.pb_command_models.specs.Outcomes.{IsEarlyOf, IsPropertyModule}
use Rattle.pb_command_models.proofs.PropertyVerdicts.{property_verdict}

module _ (compiled : PropertyModule) (m : Contents) (same : compiled ≡ property_module.Verified m) where
  pub property_truth : (b : Bool) → IsTruthOf m b → (model : ModelForm) (p : PropertyForm) → IsPropertyModule model p compiled → b ≡ tree_satisfies model p.formula
  property_truth b is model p h =
      let text = subst (IsPropertyModule model p) same h in
      let some = text.2.trees in
      is some.0 some.1 ∙ ((text.2.says some.0 some.1).answer ∙ text.1.decides)

  -- what is told of the module early is told of the property
  pub property_early : {E : Type 0} (r : Result Early E) → IfOk r (IsEarly Reached m)
      → IfOk r (λ e. (model : ModelForm) (p : PropertyForm) → IsPropertyModule model p compiled → IsEarlyOf model p e)
  property_early (Ok early.Unknown) is = λ model p h. tt
  property_early (Ok (early.Shown b)) is = property_truth b is
  property_early (Ok (early.Whole a)) is = λ model p h.
      let text = subst (IsPropertyModule model p) same h in
      property_verdict model p text.0 text.1 m text.2 a is
  property_early (Err e) is = tt

  pub known_early : (e : Early) → IsEarly Reached m e → (model : ModelForm) (p : PropertyForm) → IsPropertyModule model p compiled → IsEarlyOf model p e
  known_early e is = property_early {E = Unit {0}} (Ok e) is

-- the truth that is told is the property's
pub told_truth : (A : ModelForm → PropertyForm → Type 0) (e : Early) → ((model : ModelForm) (p : PropertyForm) → A model p → IsEarlyOf model p e)
    → IfSome (truth_in e) (λ b. (model : ModelForm) (p : PropertyForm) → A model p → b ≡ tree_satisfies model p.formula)
told_truth A early.Unknown h = tt
told_truth A (early.Shown b) h = h
told_truth A (early.Whole a) h = λ model p is. (h model p is).exact
