-- What is said of the text of a formula that was made is said of that of each item, a property or a
-- step, that has the formula.
use Rattle.std.proofs.Common.{◌≡◌, subst, Result}
use Rattle.std.specs.Prelude.{IfOk}
use Rattle.std.proofs.lemmas.Result.{IfOk-weaker}
use Rattle.pb_base.specs.OrMemory.{IfRefused}
use Rattle.pb_base.specs.declared.or_memory.OrMemory.{OrMemory}
use Rattle.pb_base.proofs.Faults.{if_refused}
use Rattle.pb_text_tree.specs.declared.place.Place.{Place}
use Rattle.pb_model_tree.specs.Form.{FormulaForm}

module _ {X : Type 0} (IsAsked : X → Type 0) (made : Place × FormulaForm) (its : X → Place × FormulaForm) (same : (x : X) → IsAsked x → made ≡ its x) where
  -- where there is a text
  pub each-text : {T E : Type 0} (r : Result T E) (P : T → Place × FormulaForm → Type 0) → IfOk r (λ t. P t made) → IfOk r (λ t. (x : X) → IsAsked x → P t (its x))
  each-text r P = IfOk-weaker r _ _ (λ t said x is. subst (P t) (same x is) said)

  -- where it has a fault
  pub each-fault : {T F : Type 0} (r : Result T (OrMemory F)) (P : F → Place × FormulaForm → Type 0) → IfRefused r (λ f. P f made) → IfRefused r (λ f. (x : X) → IsAsked x → P f (its x))
  each-fault r P = if_refused r (λ f said x is. subst (P f) (same x is) said)
