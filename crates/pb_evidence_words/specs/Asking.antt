-- Whether a formula of a property's text asks a test, beside the guards of steps.
--
-- Of each step that a modality names the text says that its guard holds, and then what is asked
-- behind it. What is said of a step stands in two places alone: each conjunct of the guard is data
-- at the place of the connective behind it, and `true` and `false` as operands of a modality stand
-- at the step's name. The data of a property, `true` and `false` stand at places of their own.
use Rattle.std.specs.Prelude.{Bool, true, false, not, ◌&&◌, ◌||◌, Option, Some, None, is_some}
use Rattle.pb_text_tree.specs.declared.place.Place.{Place}
use Rattle.pb_text_tree.specs.Form.{FormulaForm, EquationForm}
use Rattle.pb_model_words.specs.Vocabulary.{Vocabulary}
use Rattle.pb_model_words.specs.Words.{step_at}
use Rattle.pb_typing_calls.specs.Calls.{same_place}

-- an operand is a conjunct of a guard, where the connective behind it stands here
abbrev pub is_guard : Place → FormulaForm → Bool
is_guard here (FormulaForm.val p x) = same_place p here
is_guard here f = false

abbrev pub asks_test : Vocabulary → FormulaForm → Bool
asks_test m (FormulaForm.constant p b) = not (is_some (step_at m p))
asks_test m (FormulaForm.val p x) = true
asks_test m (FormulaForm.instance call) = false
asks_test m (FormulaForm.negation p f) = asks_test m f
asks_test m (FormulaForm.connected c p f g) =
    (asks_test m f && not (is_guard p f)) || asks_test m g
asks_test m (FormulaForm.quantified q p xs f) = asks_test m f

-- whether the right side of an equation does; of no equation nothing is known
abbrev pub equation_asks : Vocabulary → Option EquationForm → Bool
equation_asks m None = true
equation_asks m (Some X) = asks_test m X.right
