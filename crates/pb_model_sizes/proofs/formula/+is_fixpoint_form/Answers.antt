use Rattle.std.proofs.Common.{◌∙◌, false, refl, sym}
use Rattle.pb_model_sizes.specs.Equations.{is_fixpoint_form}
use Rattle.pb_model_sizes.proofs.FormulaRows.{test-alone, test-several}
use Rattle.pb_model_sizes.proofs.formula.+is_fixpoint_form.Goals as goal

pub returns-in-Some : goal.returns-in-Some
returns-in-Some t c =
    sym (test-several is_fixpoint_form false (λ _ _ _ _. refl) c.args.formula.now c.in-Chain.connective c.in-Chain.first c.in-Chain.links c.deref.result.now
    c.in-Some.field-0.now c.in-Chain.is c.deref.ensures.value c.in-Some.ensures.value)

pub returns-in-None : goal.returns-in-None
returns-in-None t c =
    c.is_fixpoint_form.ensures
    ∙ sym (test-alone is_fixpoint_form false (λ _ _ _ _. refl) c.args.formula.now c.deref-in-None.result.now c.in-Chain.connective c.in-Chain.first
    c.in-Chain.links c.deref.result.now c.in-Chain.is c.deref-in-None.ensures c.deref.ensures.value c.in-None.ensures.value)
