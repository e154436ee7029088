-- The formula that asks whether a step can be taken in a state that is reached.
use Rattle.std.specs.Prelude.{true, codes}
use Rattle.pb_fixpoint.specs.declared.Sign.TheVariants.{Mu}
use Rattle.pb_text_tree.specs.declared.place.Place.{Place}
use Rattle.pb_text_tree.specs.declared.operator.Connective.TheVariants.{Or}
use Rattle.pb_text_meaning.specs.Syntax.{Name}
use Rattle.pb_model_tree.specs.declared.formula.Modality.TheVariants.{Diamond}
use Rattle.pb_model_tree.specs.Form.{FormulaForm, StepSetForm}
use Rattle.pb_model_meaning.specs.Syntax.{StepSet, Formula}

-- `mu X . <a> true || <true> X`: some run within the ranges leads to a state in which the step a
-- can be taken (`possibly_by` of pb_model_runs with `<a> true`)
abbrev pub reached : Name → Formula
reached a =
    Formula.Fixpoint Mu (codes "X")
    (Formula.Or (Formula.Diamond (StepSet.Only a) (Formula.Truth true))
    (Formula.Diamond StepSet.All (Formula.Named (codes "X"))))

-- `<a> true`, at a place
abbrev pub taken_form : Place → Name → FormulaForm
taken_form p a =
    FormulaForm.modal Diamond p (StepSetForm.step (record { place = p; text = a }))
    (FormulaForm.constant p true)

-- `<true> X`
abbrev pub onward_form : Place → FormulaForm
onward_form p =
    FormulaForm.modal Diamond p (StepSetForm.all p)
    (FormulaForm.variable (record { place = p; text = codes "X" }))

-- the formula, at a place
abbrev pub reached_form : Place → Name → FormulaForm
reached_form p a =
    FormulaForm.fixpoint Mu p (record { place = p; text = codes "X" })
    (FormulaForm.connected Or p (taken_form p a) (onward_form p))
