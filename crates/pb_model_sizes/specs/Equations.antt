-- How many equations the text of a property has, as `translate` writes it, by the formula as it is
-- read: a quantifier makes a copy of its body for each tuple of values of its variables.
use Rattle.std.specs.Prelude.{ℕ, ◌+◌, ◌*◌, Bool, true, false, not, if◌then◌else◌}
use Rattle.pb_text_meaning.specs.Syntax.{Spec}
use Rattle.pb_protocol_tree.specs.Form.{FormulaForm}
use Rattle.pb_model_sizes.specs.Counts.{tuples_of}

-- an operand of a modality that is none of these has an equation of its own
abbrev pub has_own_equation : FormulaForm → Bool
has_own_equation (FormulaForm.constant p b) = false
has_own_equation (FormulaForm.variable x) = false
has_own_equation (FormulaForm.fixpoint sign p x f) = false
has_own_equation f = true

abbrev pub is_fixpoint_form : FormulaForm → Bool
is_fixpoint_form (FormulaForm.fixpoint sign p x f) = true
is_fixpoint_form f = false

abbrev pub one_more : Bool → ℕ → ℕ
one_more b n = if b then n + 1 else n

-- of the fixpoints and operands in a formula
abbrev pub formula_equations : Spec → FormulaForm → ℕ
formula_equations spec (FormulaForm.constant p b) = 0
formula_equations spec (FormulaForm.«data» p x) = 0
formula_equations spec (FormulaForm.variable x) = 0
formula_equations spec (FormulaForm.negation p f) = formula_equations spec f
formula_equations spec (FormulaForm.connected c p f g) =
    formula_equations spec f + formula_equations spec g
formula_equations spec (FormulaForm.modal k p A f) =
    one_more (has_own_equation f) (formula_equations spec f)
formula_equations spec (FormulaForm.fixpoint sign p x f) = formula_equations spec f + 1
formula_equations spec (FormulaForm.quantified q p xs f) =
    tuples_of spec xs * formula_equations spec f

-- and one for the whole, where that is no fixpoint
abbrev pub total_equations : Spec → FormulaForm → ℕ
total_equations spec f = one_more (not (is_fixpoint_form f)) (formula_equations spec f)
