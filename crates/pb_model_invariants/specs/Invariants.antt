-- Invariants: properties that say the same of each reached state, as `always p` and `no_deadlock`
-- do (AG p of Clarke and Emerson 1981), and one fixpoint for several of them.
use Rattle.std.specs.Prelude.{Bool, true, false, not, ◌&&◌, ◌||◌, List, [], ◌∷◌, ◌++◌, Option}
use Rattle.std.specs.Prelude.{Some, None, map, filter, flat_map, codes}
use Rattle.std.specs.List.{list_all}
use Rattle.std.specs.Option.{option_map_or}
use Rattle.pb_fixpoint.specs.declared.Sign.TheVariants.{Nu}
use Rattle.pb_text_tree.specs.declared.place.Place.{Place}
use Rattle.pb_text_tree.specs.declared.operator.Connective.TheVariants.{And}
use Rattle.pb_text_tree.specs.Form.{Named, chained}
use Rattle.pb_text_meaning.specs.Syntax.{Name, same_name}
use Rattle.pb_model_tree.specs.declared.formula.Modality.{Modality}
use Rattle.pb_model_tree.specs.declared.formula.Modality.TheVariants.{Box, Diamond}
use Rattle.pb_model_tree.specs.Form.{FormulaForm, StepSetForm}

-- the operands of a conjunction; a formula of another kind is its only one
abbrev pub conjuncts : FormulaForm → List FormulaForm
conjuncts (FormulaForm.connected And p f g) = conjuncts f ++ conjuncts g
conjuncts f = f ∷ []

-- whether a formula has neither fixpoints nor their variables
abbrev pub is_fixpoint_free : FormulaForm → Bool
is_fixpoint_free (FormulaForm.constant p b) = true
is_fixpoint_free (FormulaForm.«data» p x) = true
is_fixpoint_free (FormulaForm.variable x) = false
is_fixpoint_free (FormulaForm.negation p f) = is_fixpoint_free f
is_fixpoint_free (FormulaForm.connected c p f g) = is_fixpoint_free f && is_fixpoint_free g
is_fixpoint_free (FormulaForm.modal k p A f) = is_fixpoint_free f
is_fixpoint_free (FormulaForm.fixpoint sign p x f) = false

-- whether a formula is X
abbrev pub is_variable : Name → FormulaForm → Bool
is_variable X (FormulaForm.variable x) = same_name x.text X
is_variable X f = false

-- whether a modality is `[A]`, and a set that of all steps
abbrev pub is_box : Modality → Bool
is_box Box = true
is_box Diamond = false

abbrev pub is_all : StepSetForm → Bool
is_all (StepSetForm.all p) = true
is_all A = false

-- `[true] X`: X holds after each step
abbrev pub is_onward : Name → FormulaForm → Bool
is_onward X (FormulaForm.modal k p A f) = is_box k && (is_all A && is_variable X f)
is_onward X f = false

-- a greatest fixpoint
pub record Greatest : Type 0 where
  pub variable : Name
  pub body : FormulaForm

abbrev pub greatest_fixpoint : FormulaForm → Option Greatest
greatest_fixpoint (FormulaForm.fixpoint Nu p x f) = Some (record { variable = x.text; body = f })
greatest_fixpoint f = None

abbrev pub is_part : Name → FormulaForm → Bool
is_part X g = is_onward X g || is_fixpoint_free g

-- its body is a conjunction of `[true] X` and of formulas without fixpoints
abbrev pub says_the_same : Greatest → Bool
says_the_same g = list_all (is_part g.variable) (conjuncts g.body)

abbrev pub is_single_invariant : FormulaForm → Bool
is_single_invariant f = option_map_or says_the_same (greatest_fixpoint f) false

-- a conjunction of such fixpoints
abbrev pub is_invariant : FormulaForm → Bool
is_invariant f = list_all is_single_invariant (conjuncts f)

-- the conjuncts but for `[true] X`
abbrev pub parts_besides : Name → List FormulaForm → List FormulaForm
parts_besides X fs = filter (λ f. not (is_onward X f)) fs

-- what the body says of each state
abbrev pub parts_of_greatest : Greatest → List FormulaForm
parts_of_greatest g = parts_besides g.variable (conjuncts g.body)

abbrev pub parts_of_single : FormulaForm → List FormulaForm
parts_of_single f = option_map_or parts_of_greatest (greatest_fixpoint f) []

-- what an invariant says of each state
abbrev pub parts : FormulaForm → List FormulaForm
parts f = flat_map parts_of_single (conjuncts f)

-- ---- the joint invariant

abbrev pub joint_variable : Place → Named
joint_variable p = record { place = p; text = codes "X" }

-- `[true] X`, at a place
abbrev pub onward : Place → FormulaForm
onward p = FormulaForm.modal Box p (StepSetForm.all p) (FormulaForm.variable (joint_variable p))

abbrev pub placed_at : Place → FormulaForm → Place × FormulaForm
placed_at p f = (p, f)

-- `true && f && .. && [true] X`
abbrev pub joint_body : Place → List FormulaForm → FormulaForm
joint_body p fs =
    chained (FormulaForm.connected And) (FormulaForm.constant p true)
    (map (placed_at p) (fs ++ onward p ∷ []))

-- nu X . f && .. && [true] X: all that these invariants say of each state
abbrev pub joint : Place → List FormulaForm → FormulaForm
joint p fs = FormulaForm.fixpoint Nu p (joint_variable p) (joint_body p (flat_map parts fs))
