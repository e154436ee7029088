-- A flat model as a protocol says the flat model.
use Rattle.std.proofs.Common.{◌≡◌, ◌∙◌, refl, ap, List, [], ◌∷◌, map}
use Rattle.pb_text_tree.specs.declared.operator.Connective.{Connective}
use Rattle.pb_text_tree.specs.declared.operator.Connective.TheVariants as connective
use Rattle.pb_text_meaning.specs.Erase.{erased_term, erased_arguments, erased_variable, erased_variables, erased_declaration, erased_range}
use Rattle.pb_model_tree.specs.declared.formula.Modality.{Modality}
use Rattle.pb_model_tree.specs.declared.formula.Modality.TheVariants as modality
use Rattle.pb_model_tree.specs.Form as flat
use Rattle.pb_model_meaning.specs.Syntax as flat_syntax
use Rattle.pb_model_meaning.specs.Erase as flat_erase
use Rattle.pb_protocol_meaning.specs.Syntax.{StateVariable, Assignment, Step, StepSet, Formula, Property, Protocol}
use Rattle.pb_protocol_meaning.specs.Erase.{erase, erased_state_variable, erased_assignment, erased_step, erased_steps, erased_formula, erased_property, joined, modal}
use Rattle.pb_protocol_unfolding.specs.Plain as plain
use Rattle.pb_protocol_unfolder.specs.Plain as forms

-- two ways to each item are one
module _ {A B C D : Type 0} (f : A → B) (g : B → D) (h : A → C) (k : C → D) (same : (x : A) → g (f x) ≡ k (h x)) where
  both-ways : (xs : List A) → map g (map f xs) ≡ map k (map h xs)
  both-ways [] = refl
  both-ways (x ∷ xs) = ap (λ y. y ∷ map g (map f xs)) (same x) ∙ ap (λ ys. k (h x) ∷ ys) (both-ways xs)

step-says : (a : flat.StepForm) → erased_step (forms.plain_step_form a) ≡ plain.plain_step (flat_erase.erased_step a)
step-says a =
    ap (λ (bs : List Assignment). let z : Step = record { name = a.name.text; variables = erased_variables a.variables; guard = erased_term a.guard; assignments = bs } in z)
    (both-ways forms.plain_assignment_form erased_assignment flat_erase.erased_assignment plain.plain_assignment (λ b. refl) a.assignments)

set-says : (A : flat.StepSetForm) → erased_steps (forms.plain_set_form A) ≡ plain.plain_set (flat_erase.erased_steps A)
set-says (flat.StepSetForm.all p) = refl
set-says (flat.StepSetForm.step x) = refl
set-says (flat.StepSetForm.complement p A) = ap StepSet.Complement (set-says A)
set-says (flat.StepSetForm.union p A B) =
    ap (λ (C : StepSet). StepSet.Union C (erased_steps (forms.plain_set_form B))) (set-says A)
    ∙ ap (StepSet.Union (plain.plain_set (flat_erase.erased_steps A))) (set-says B)

joined-plain : (c : Connective) (f g : flat_syntax.Formula) → joined c (plain.plain_formula f) (plain.plain_formula g) ≡ plain.plain_formula (flat_erase.joined c f g)
joined-plain connective.And f g = refl
joined-plain connective.Or f g = refl
joined-plain connective.Implies f g = refl

modal-plain : (k : Modality) (A : flat_syntax.StepSet) (f : flat_syntax.Formula) → modal k (plain.plain_set A) (plain.plain_formula f) ≡ plain.plain_formula (flat_erase.modal k A f)
modal-plain modality.Box A f = refl
modal-plain modality.Diamond A f = refl

formula-says : (f : flat.FormulaForm) → erased_formula (forms.plain_formula_form f) ≡ plain.plain_formula (flat_erase.erased_formula f)
formula-says (flat.FormulaForm.constant p b) = refl
formula-says (flat.FormulaForm.«data» p x) = refl
formula-says (flat.FormulaForm.variable x) = refl
formula-says (flat.FormulaForm.negation p f) = ap Formula.Not (formula-says f)
formula-says (flat.FormulaForm.connected c p f g) =
    ap (λ (h : Formula). joined c h (erased_formula (forms.plain_formula_form g))) (formula-says f)
    ∙ ap (joined c (plain.plain_formula (flat_erase.erased_formula f))) (formula-says g)
    ∙ joined-plain c (flat_erase.erased_formula f) (flat_erase.erased_formula g)
formula-says (flat.FormulaForm.modal k p A f) =
    ap (λ (B : StepSet). modal k B (erased_formula (forms.plain_formula_form f))) (set-says A)
    ∙ ap (modal k (plain.plain_set (flat_erase.erased_steps A))) (formula-says f)
    ∙ modal-plain k (flat_erase.erased_steps A) (flat_erase.erased_formula f)
formula-says (flat.FormulaForm.fixpoint sign p x f) = ap (Formula.Fixpoint sign x.text) (formula-says f)

property-says : (p : flat.PropertyForm) → erased_property (forms.plain_property_form p) ≡ plain.plain_property (flat_erase.erased_property p)
property-says p = ap (λ (f : Formula). let z : Property = record { name = p.name.text; formula = f } in z) (formula-says p.formula)

pub plain-says : (m : flat.ModelForm) → erase (forms.plain_form m) ≡ plain.plain (flat_erase.erase m)
plain-says m =
    let with : List StateVariable → List Step → List Property → Protocol = λ ys us ps. record {
      sorts = map erased_declaration m.sorts;
      ranges = map erased_range m.ranges;
      variables = ys;
      definitions = [];
      steps = us;
      initial = erased_arguments m.initial.values;
      properties = ps;
    } in
    ap (λ ys. with ys (map erased_step (map forms.plain_step_form m.steps)) (map erased_property (map forms.plain_property_form m.properties)))
    (both-ways forms.plain_variable_form erased_state_variable erased_variable plain.plain_variable (λ x. refl) m.variables)
    ∙ ap (λ us. with (map plain.plain_variable (erased_variables m.variables)) us (map erased_property (map forms.plain_property_form m.properties)))
    (both-ways forms.plain_step_form erased_step flat_erase.erased_step plain.plain_step step-says m.steps)
    ∙ ap (with (map plain.plain_variable (erased_variables m.variables)) (map plain.plain_step (map flat_erase.erased_step m.steps)))
    (both-ways forms.plain_property_form erased_property flat_erase.erased_property plain.plain_property property-says m.properties)
