-- Nothing counts in the model of a plain protocol.
use Rattle.std.proofs.Common.{◌≡◌, Bool, true, not, ◌&&◌, false, List, [], ◌∷◌, map, true≢false, refl, sym}
use Rattle.std.specs.List.{list_all}
use Rattle.std.proofs.lemmas.Bool.{and_parts}
use Rattle.pb_text_tree.specs.declared.operator.Connective.TheVariants.{And, Or, Implies}
use Rattle.pb_text_tree.specs.Form.{TermForm, ArgumentForms, no_arguments, argument}
use Rattle.pb_text_meaning.specs.Erase.{erased_term, erased_arguments}
use Rattle.pb_text_counting.specs.Counting.{is_counting}
use Rattle.pb_model_tree.specs.Form.{FormulaForm, AssignmentForm, StepForm, PropertyForm, ModelForm}
use Rattle.pb_model_tree.specs.declared.formula.Modality.TheVariants.{Box, Diamond}
use Rattle.pb_model_meaning.specs.Erase.{erase, erased_assignment, erased_step, erased_formula, erased_property}
use Rattle.pb_protocol_unfolding.specs.Plain.{CountsNothing, CountNothing, AssignmentsCountNothing, StepsCountNothing, FormulaCountsNothing, PropertiesCountNothing, ModelCountsNothing}
use Rattle.pb_protocol_unfolder.specs.Plain.{is_plain_term, are_plain_arguments, is_plain_assignment, is_plain_step, is_plain_set, is_plain_formula}
use Rattle.pb_protocol_unfolder.specs.Plain.{is_plain_property, is_plain_variable, is_plain_protocol}
use Rattle.pb_protocol_unfolder.specs.Plain.{plain_variable_form, plain_assignment_form, plain_step_form, plain_set_form, plain_formula_form, plain_property_form, plain_form}

not_counting : (b : Bool) → not b ≡ true → b ≡ false
not_counting false e = refl
not_counting true e = absurd (true≢false (sym e))

mutual
  term_counts_nothing : (x : TermForm) → is_plain_term x ≡ true → CountsNothing (erased_term x)
  term_counts_nothing (TermForm.constant p b) e = tt
  term_counts_nothing (TermForm.number p n) e = tt
  term_counts_nothing (TermForm.name x) e = tt
  term_counts_nothing (TermForm.not p x) e = term_counts_nothing x e
  term_counts_nothing (TermForm.negative p x) e = term_counts_nothing x e
  term_counts_nothing (TermForm.connected c p x y) e =
      let both = and_parts (is_plain_term x) (is_plain_term y) e in (term_counts_nothing x both.0, term_counts_nothing y both.1)
  term_counts_nothing (TermForm.compared o p x y) e =
      let both = and_parts (is_plain_term x) (is_plain_term y) e in (term_counts_nothing x both.0, term_counts_nothing y both.1)
  term_counts_nothing (TermForm.computed o p x y) e =
      let both = and_parts (is_plain_term x) (is_plain_term y) e in (term_counts_nothing x both.0, term_counts_nothing y both.1)
  term_counts_nothing (TermForm.application f xs) e =
      let both = and_parts (not (is_counting f.text)) (are_plain_arguments xs) e in (not_counting (is_counting f.text) both.0, arguments_count_nothing xs both.1)
  term_counts_nothing (TermForm.quantified q p xs x) e = absurd (true≢false (sym e))

  arguments_count_nothing : (xs : ArgumentForms) → are_plain_arguments xs ≡ true → CountNothing (erased_arguments xs)
  arguments_count_nothing no_arguments e = tt
  arguments_count_nothing (argument p x xs) e =
      let both = and_parts (is_plain_term x) (are_plain_arguments xs) e in (term_counts_nothing x both.0, arguments_count_nothing xs both.1)

assignments_count_nothing : (list : List AssignmentForm) → list_all is_plain_assignment (map plain_assignment_form list) ≡ true → AssignmentsCountNothing (map erased_assignment list)
assignments_count_nothing [] e = tt
assignments_count_nothing (a ∷ list) e =
    let both = and_parts (is_plain_term a.value) (list_all is_plain_assignment (map plain_assignment_form list)) e in
    (term_counts_nothing a.value both.0, assignments_count_nothing list both.1)

steps_count_nothing : (steps : List StepForm) → list_all is_plain_step (map plain_step_form steps) ≡ true → StepsCountNothing (map erased_step steps)
steps_count_nothing [] e = tt
steps_count_nothing (a ∷ steps) e =
    let both = and_parts (is_plain_step (plain_step_form a)) (list_all is_plain_step (map plain_step_form steps)) e in
    let own = and_parts (is_plain_term a.guard) (list_all is_plain_assignment (map plain_assignment_form a.assignments)) both.0 in
    ((term_counts_nothing a.guard own.0, assignments_count_nothing a.assignments own.1), steps_count_nothing steps both.1)

formula_counts_nothing : (f : FormulaForm) → is_plain_formula (plain_formula_form f) ≡ true → FormulaCountsNothing (erased_formula f)
formula_counts_nothing (FormulaForm.constant p b) e = tt
formula_counts_nothing (FormulaForm.«data» p x) e = term_counts_nothing x e
formula_counts_nothing (FormulaForm.variable x) e = tt
formula_counts_nothing (FormulaForm.negation p f) e = formula_counts_nothing f e
formula_counts_nothing (FormulaForm.connected And p f g) e =
    let both = and_parts (is_plain_formula (plain_formula_form f)) (is_plain_formula (plain_formula_form g)) e in (formula_counts_nothing f both.0, formula_counts_nothing g both.1)
formula_counts_nothing (FormulaForm.connected Or p f g) e =
    let both = and_parts (is_plain_formula (plain_formula_form f)) (is_plain_formula (plain_formula_form g)) e in (formula_counts_nothing f both.0, formula_counts_nothing g both.1)
formula_counts_nothing (FormulaForm.connected Implies p f g) e =
    let both = and_parts (is_plain_formula (plain_formula_form f)) (is_plain_formula (plain_formula_form g)) e in (formula_counts_nothing f both.0, formula_counts_nothing g both.1)
formula_counts_nothing (FormulaForm.modal Box p A f) e = formula_counts_nothing f (and_parts (is_plain_set (plain_set_form A)) (is_plain_formula (plain_formula_form f)) e).1
formula_counts_nothing (FormulaForm.modal Diamond p A f) e = formula_counts_nothing f (and_parts (is_plain_set (plain_set_form A)) (is_plain_formula (plain_formula_form f)) e).1
formula_counts_nothing (FormulaForm.fixpoint sign p x f) e = formula_counts_nothing f e

properties_count_nothing : (list : List PropertyForm) → list_all is_plain_property (map plain_property_form list) ≡ true → PropertiesCountNothing (map erased_property list)
properties_count_nothing [] e = tt
properties_count_nothing (p ∷ list) e =
    let both = and_parts (is_plain_formula (plain_formula_form p.formula)) (list_all is_plain_property (map plain_property_form list)) e in
    (formula_counts_nothing p.formula both.0, properties_count_nothing list both.1)

pub counts_nothing : (m : ModelForm) → is_plain_protocol (plain_form m) ≡ true → ModelCountsNothing (erase m)
counts_nothing m e =
    let declared = list_all is_plain_variable (map plain_variable_form m.variables) && true in
    let steps = list_all is_plain_step (map plain_step_form m.steps) in
    let initial = are_plain_arguments m.initial.values in
    let whole = and_parts (declared && steps && initial) (list_all is_plain_property (map plain_property_form m.properties)) e in
    let before = and_parts (declared && steps) initial whole.0 in
    record {
      steps = steps_count_nothing m.steps (and_parts declared steps before.0).1;
      initial = arguments_count_nothing m.initial.values before.1;
      properties = properties_count_nothing m.properties whole.1;
    }
