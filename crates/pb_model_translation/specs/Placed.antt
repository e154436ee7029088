-- The translation over trees with places: each node of the text has the place in the model at which
-- a reader looks for what is wrong with it.
--
-- Terms, sorts, ranges and parameters keep their places. What is said of a step stands at the
-- step's name, each conjunct of its guard at the operator around it, where there is one, and what
-- it assigns at the assigned terms; what is said of a fixpoint or its variable, of a connective and
-- of data at their own places. The names of equations stand at the name of the property, and the
-- instance that is asked for at `init`.
use Rattle.std.specs.Prelude.{ℕ, suc, ◌+◌, Bool, true, false, not, if◌then◌else◌, List, [], ◌∷◌}
use Rattle.std.specs.Prelude.{map, filter, Option, Some, None, codes}
use Rattle.pb_fixpoint.specs.declared.Sign.{Sign}
use Rattle.pb_fixpoint.specs.declared.Sign.TheVariants.{Nu}
use Rattle.pb_text_tree.specs.declared.place.Place.{Place}
use Rattle.pb_text_tree.specs.declared.operator.Connective.{Connective}
use Rattle.pb_text_tree.specs.declared.operator.Connective.TheVariants.{And, Or, Implies}
use Rattle.pb_text_tree.specs.declared.operator.Quantifier.{Quantifier}
use Rattle.pb_text_tree.specs.declared.operator.Quantifier.TheVariants.{Forall, Exists}
use Rattle.pb_text_tree.specs.Form.{Named, VariableForm, TermForm, ArgumentForms, no_arguments}
use Rattle.pb_text_tree.specs.Form.{argument, chained, EquationForm, SpecForm}
use Rattle.pb_text_tree.specs.Form as text
use Rattle.pb_text_meaning.specs.Syntax.{Name, same_name}
use Rattle.pb_model_tree.specs.declared.formula.Modality.{Modality}
use Rattle.pb_model_tree.specs.declared.formula.Modality.TheVariants.{Box, Diamond}
use Rattle.pb_model_tree.specs.Form.{StepSetForm, FormulaForm, AssignmentForm, StepForm, ModelForm}
use Rattle.pb_model_meaning.specs.Erase.{erased_steps, erased_formula}
use Rattle.pb_model_meaning.specs.Steps.{has_step}
use Rattle.pb_model_translation.specs.Translation.{Callee, Constant, Numbered, FixpointScope}
use Rattle.pb_model_translation.specs.Translation.{callee_of, operand_callee, has_equation}
use Rattle.pb_model_translation.specs.Translation.{is_fixpoint, next_if, equation_count}
use Rattle.pb_model_translation.specs.Names.{names_of}

-- ---- the state after a step

abbrev pub assigned_form : List AssignmentForm → Name → Option AssignmentForm
assigned_form [] x = None
assigned_form (a ∷ assignments) x =
    if same_name a.variable.text x then Some a else assigned_form assignments x

-- what is assigned, else the variable itself, at the place where it is declared
abbrev pub value_place : Option AssignmentForm → Named → Place
value_place (Some a) x = a.place
value_place None x = x.place

abbrev pub value_form : Option AssignmentForm → Named → TermForm
value_form (Some a) x = a.value
value_form None x = TermForm.name x

abbrev pub next_forms : List AssignmentForm → List VariableForm → ArgumentForms
next_forms assignments [] = no_arguments
next_forms assignments (x ∷ variables) =
    let a = assigned_form assignments x.name.text in
    argument (value_place a x.name) (value_form a x.name) (next_forms assignments variables)

-- ---- right sides

abbrev pub joining : Modality → Connective
joining Box = And
joining Diamond = Or

-- `true` of no steps, and `false`
abbrev pub of_no_step : Modality → Bool
of_no_step Box = true
of_no_step Diamond = false

abbrev pub guarding : Modality → Connective
guarding Box = Implies
guarding Diamond = And

abbrev pub quantifier_of : Modality → Quantifier
quantifier_of Box = Forall
quantifier_of Diamond = Exists

abbrev pub joined_forms : Modality → Place → List (Place × text.FormulaForm) → text.FormulaForm
joined_forms k p [] = text.FormulaForm.constant p (of_no_step k)
joined_forms k p (f ∷ fs) = chained (text.FormulaForm.connected (joining k)) f.1 fs

abbrev pub over_form : Quantifier → Place → List VariableForm → text.FormulaForm → text.FormulaForm
over_form q p [] f = f
over_form q p (x ∷ xs) f = text.FormulaForm.quantified q p (x ∷ xs) f

-- a formula behind a guard at a place, or behind its negation: the guard's conjuncts one behind the
-- other, an operand at the place of its operator
abbrev pub behind_form : Connective → Place → Bool → TermForm → text.FormulaForm
    → text.FormulaForm
behind_form c p negated (TermForm.not q x) f = behind_form c q (not negated) x f
behind_form c p false (TermForm.connected And q x y) f =
    behind_form c q false x (behind_form c q false y f)
behind_form c p true (TermForm.connected Or q x y) f =
    behind_form c q true x (behind_form c q true y f)
behind_form c p true (TermForm.connected Implies q x y) f =
    behind_form c q false x (behind_form c q true y f)
behind_form c p false x f = text.FormulaForm.connected c p (text.FormulaForm.val p x) f
behind_form c p true x f =
    text.FormulaForm.connected c p (text.FormulaForm.val p (TermForm.not p x)) f

abbrev pub steps_of_set : ModelForm → StepSetForm → List StepForm
steps_of_set m A = filter (λ (a : StepForm). has_step (erased_steps A) a.name.text) m.steps

module _ (m : ModelForm) (names : ℕ → Name) where
  abbrev pub call_form : Place → Callee → List AssignmentForm → text.FormulaForm
  call_form p (Constant b) assignments = text.FormulaForm.constant p b
  call_form p (Numbered n) assignments =
      text.FormulaForm.instance (record {
        name = record { place = p; text = names n };
        arguments = next_forms assignments m.variables;
      })

  -- what a modality says of one step
  abbrev pub step_text : Modality → Callee → StepForm → text.FormulaForm
  step_text k c a =
      let p = a.name.place in
      over_form (quantifier_of k) p a.variables
      (behind_form (guarding k) p false a.guard (call_form p c a.assignments))

  abbrev pub placed_step : Modality → Callee → StepForm → Place × text.FormulaForm
  placed_step k c a = (a.name.place, step_text k c a)

  abbrev pub modal_form : Modality → Place → StepSetForm → Callee → text.FormulaForm
  modal_form k p A c = joined_forms k p (map (placed_step k c) (steps_of_set m A))

  -- what a formula whose equations begin at n says of the state
  abbrev pub right_form : FixpointScope → ℕ → FormulaForm → text.FormulaForm
  right_form scope n (FormulaForm.constant p b) = text.FormulaForm.constant p b
  right_form scope n (FormulaForm.«data» p x) = text.FormulaForm.val p x
  right_form scope n (FormulaForm.variable x) = call_form x.place (callee_of scope x.text) []
  right_form scope n (FormulaForm.negation p f) =
      text.FormulaForm.negation p (right_form scope n f)
  right_form scope n (FormulaForm.connected c p f g) =
      text.FormulaForm.connected c p (right_form scope n f)
      (right_form scope (n + equation_count (erased_formula f)) g)
  right_form scope n (FormulaForm.modal k p A f) =
      modal_form k p A (operand_callee scope n (erased_formula f))
  right_form scope n (FormulaForm.fixpoint sign p x f) = call_form p (Numbered n) []

  -- ---- equations, whose names stand at a place

  module _ (here : Place) where
    abbrev pub equation_at : Sign → ℕ → text.FormulaForm → EquationForm
    equation_at sign n f = record {
      sign = sign;
      name = record { place = here; text = names n };
      parameters = m.variables;
      right = f;
    }

    abbrev pub with_equation_form : Bool → EquationForm → List EquationForm → List EquationForm
    with_equation_form b X E = if b then X ∷ E else E

    abbrev pub equation_forms : FixpointScope → Sign → ℕ → FormulaForm → List EquationForm
        → List EquationForm
    equation_forms scope sign n (FormulaForm.constant p b) E = E
    equation_forms scope sign n (FormulaForm.«data» p x) E = E
    equation_forms scope sign n (FormulaForm.variable x) E = E
    equation_forms scope sign n (FormulaForm.negation p f) E = equation_forms scope sign n f E
    equation_forms scope sign n (FormulaForm.connected c p f g) E =
        equation_forms scope sign n f
        (equation_forms scope sign (n + equation_count (erased_formula f)) g E)
    equation_forms scope sign n (FormulaForm.modal k p A f) E =
        let own = has_equation (erased_formula f) in
        with_equation_form own (equation_at sign n (right_form scope (next_if own n) f))
        (equation_forms scope sign (next_if own n) f E)
    equation_forms scope sign n (FormulaForm.fixpoint inner p x f) E =
        equation_at inner n (right_form ((x.text, n) ∷ scope) (suc n) f)
        ∷ equation_forms ((x.text, n) ∷ scope) inner (suc n) f E

    abbrev pub all_equation_forms : FormulaForm → List EquationForm
    all_equation_forms f =
        if is_fixpoint (erased_formula f) then equation_forms [] Nu 0 f [] else
        (equation_at Nu 0 (right_form [] 1 f) ∷ equation_forms [] Nu 1 f [])

-- the text of a formula, whose equations have their names at a place
abbrev pub placed : ModelForm → Place → FormulaForm → SpecForm
placed m here f = record {
  sorts = m.sorts;
  ranges = m.ranges;
  equations = all_equation_forms m (names_of (erased_formula f)) here f;
  initial = record {
    name = record { place = m.initial.place; text = names_of (erased_formula f) 0 };
    arguments = m.initial.values;
  };
}

-- nu X . [true] X, at a place: its text has the guard and the assignments of each step
abbrev pub every_step_form : Place → FormulaForm
every_step_form p =
    let x : Named = record { place = p; text = codes "X" } in
    FormulaForm.fixpoint Nu p x
    (FormulaForm.modal Box p (StepSetForm.all p) (FormulaForm.variable x))
