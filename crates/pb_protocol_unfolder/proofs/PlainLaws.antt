-- A protocol in which nothing is left out is its flat model, word for word.
use Rattle.std.proofs.Common.{◌≡◌, ◌∙◌, refl, ap, Bool, true, false, ◌&&◌, List, [], ◌∷◌, map, Option, Some, None}
use Rattle.std.specs.List.{list_all}
use Rattle.pb_text_tree.specs.Form.{VariableForm, ArgumentForms, no_arguments, argument}
use Rattle.pb_protocol_tree.specs.Form.{StepSetForm, FormulaForm, StateVariableForm, CopiesForm, AssignmentForm, StepForm, DefinitionForm, PropertyForm, ProtocolForm}
use Rattle.pb_protocol_unfolder.specs.Plain.{plain_variable_form, plain_assignment_form, plain_step_form, plain_set_form, plain_formula_form, plain_property_form, plain_form, flat_variable, flat_assignment, flat_step_form, flat_set, flat_formula_form, flat_property, flat_form, is_plain_term, are_plain_arguments, has_no_variables, has_no_arguments, has_no_copies, is_plain_variable, is_plain_assignment, is_plain_step, is_plain_set, is_plain_formula, is_plain_property, has_no_definitions, is_plain_protocol}

left : (b c : Bool) → b && c ≡ true → b ≡ true
left true c e = refl
left false c e = cc

right : (b c : Bool) → b && c ≡ true → c ≡ true
right true c e = e
right false c e = cc

-- what is done and undone to each of a list
module _ {A B : Type 0} (to : A → B) (back : B → A) (test : A → Bool) (same : (x : A) → test x ≡ true → back (to x) ≡ x) where
  all-same : (xs : List A) → list_all test xs ≡ true → map back (map to xs) ≡ xs
  all-same [] e = refl
  all-same (x ∷ xs) e =
      ap (λ y. y ∷ map back (map to xs)) (same x (left (test x) (list_all test xs) e))
      ∙ ap (λ ys. x ∷ ys) (all-same xs (right (test x) (list_all test xs) e))

none : (xs : List VariableForm) → has_no_variables xs ≡ true → [] ≡ xs
none [] e = refl
none (x ∷ xs) e = cc

no-arguments : (xs : ArgumentForms) → has_no_arguments xs ≡ true → no_arguments ≡ xs
no-arguments no_arguments e = refl
no-arguments (argument p x xs) e = cc

no-definitions : (ds : List DefinitionForm) → has_no_definitions ds ≡ true → [] ≡ ds
no-definitions [] e = refl
no-definitions (d ∷ ds) e = cc

variable-same : (y : StateVariableForm) → is_plain_variable y ≡ true → plain_variable_form (flat_variable y) ≡ y
variable-same y e = ap (λ (is : List VariableForm). let z : StateVariableForm = record { name = y.name; indices = is; sort = y.sort } in z) (none y.indices e)

no-copies : (o : Option CopiesForm) → has_no_copies o ≡ true → None ≡ o
no-copies None e = refl
no-copies (Some x) e = cc

assignment-same : (a : AssignmentForm) → is_plain_assignment a ≡ true → plain_assignment_form (flat_assignment a) ≡ a
assignment-same a e =
    let with : Option CopiesForm → ArgumentForms → AssignmentForm = λ o ts. record { copies = o; variable = a.variable; index = ts; place = a.place; value = a.value } in
    let once = has_no_copies a.copies in
    let whole = has_no_arguments a.index in
    let first = left (once && whole) (is_plain_term a.value) e in
    ap (λ o. with o no_arguments) (no-copies a.copies (left once whole first)) ∙ ap (with a.copies) (no-arguments a.index (right once whole first))

step-same : (a : StepForm) → is_plain_step a ≡ true → plain_step_form (flat_step_form a) ≡ a
step-same a e =
    ap (λ (bs : List AssignmentForm). let z : StepForm = record { name = a.name; variables = a.variables; guard = a.guard; assignments = bs } in z)
    (all-same flat_assignment plain_assignment_form is_plain_assignment assignment-same a.assignments (right (is_plain_term a.guard) (list_all is_plain_assignment a.assignments) e))

set-same : (A : StepSetForm) → is_plain_set A ≡ true → plain_set_form (flat_set A) ≡ A
set-same (StepSetForm.all p) e = refl
set-same (StepSetForm.step x) e = refl
set-same (StepSetForm.instances x values) e = cc
set-same (StepSetForm.complement p A) e = ap (StepSetForm.complement p) (set-same A e)
set-same (StepSetForm.union p A B) e =
    ap (λ (C : StepSetForm). StepSetForm.union p C (plain_set_form (flat_set B))) (set-same A (left (is_plain_set A) (is_plain_set B) e))
    ∙ ap (StepSetForm.union p A) (set-same B (right (is_plain_set A) (is_plain_set B) e))

formula-same : (f : FormulaForm) → is_plain_formula f ≡ true → plain_formula_form (flat_formula_form f) ≡ f
formula-same (FormulaForm.constant p b) e = refl
formula-same (FormulaForm.«data» p x) e = refl
formula-same (FormulaForm.variable x) e = refl
formula-same (FormulaForm.negation p f) e = ap (FormulaForm.negation p) (formula-same f e)
formula-same (FormulaForm.connected c p f g) e =
    ap (λ (h : FormulaForm). FormulaForm.connected c p h (plain_formula_form (flat_formula_form g))) (formula-same f (left (is_plain_formula f) (is_plain_formula g) e))
    ∙ ap (FormulaForm.connected c p f) (formula-same g (right (is_plain_formula f) (is_plain_formula g) e))
formula-same (FormulaForm.modal k p A f) e =
    ap (λ (B : StepSetForm). FormulaForm.modal k p B (plain_formula_form (flat_formula_form f))) (set-same A (left (is_plain_set A) (is_plain_formula f) e))
    ∙ ap (FormulaForm.modal k p A) (formula-same f (right (is_plain_set A) (is_plain_formula f) e))
formula-same (FormulaForm.fixpoint sign p x f) e = ap (FormulaForm.fixpoint sign p x) (formula-same f e)
formula-same (FormulaForm.quantified q p xs f) e = cc

property-same : (p : PropertyForm) → is_plain_property p ≡ true → plain_property_form (flat_property p) ≡ p
property-same p e = ap (λ (f : FormulaForm). let z : PropertyForm = record { name = p.name; formula = f } in z) (formula-same p.formula e)

pub protocol-same : (m : ProtocolForm) → is_plain_protocol m ≡ true → plain_form (flat_form m) ≡ m
protocol-same m e =
    let v = list_all is_plain_variable m.variables in
    let d = has_no_definitions m.definitions in
    let s = list_all is_plain_step m.steps in
    let i = are_plain_arguments m.initial.values in
    let p = list_all is_plain_property m.properties in
    let with : List StateVariableForm → List DefinitionForm → List StepForm → List PropertyForm → ProtocolForm = λ ys ds us ps. record {
      sorts = m.sorts;
      ranges = m.ranges;
      variables = ys;
      definitions = ds;
      steps = us;
      initial = m.initial;
      properties = ps;
    } in
    let first4 = left (v && d && s && i) p e in
    let first3 = left (v && d && s) i first4 in
    let first2 = left (v && d) s first3 in
    ap (λ ys. with ys [] (map plain_step_form (map flat_step_form m.steps)) (map plain_property_form (map flat_property m.properties)))
    (all-same flat_variable plain_variable_form is_plain_variable variable-same m.variables (left v d first2))
    ∙ ap (λ ds. with m.variables ds (map plain_step_form (map flat_step_form m.steps)) (map plain_property_form (map flat_property m.properties))) (no-definitions m.definitions (right v d first2))
    ∙ ap (λ us. with m.variables m.definitions us (map plain_property_form (map flat_property m.properties)))
    (all-same flat_step_form plain_step_form is_plain_step step-same m.steps (right (v && d) s first3))
    ∙ ap (with m.variables m.definitions m.steps) (all-same flat_property plain_property_form is_plain_property property-same m.properties (right (v && d && s && i) p e))
