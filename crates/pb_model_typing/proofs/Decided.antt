-- The texts of a model's formulas.
use Rattle.std.proofs.Common.{◌≡◌, ℕ, zero, suc, ◌<◌, List, [], ◌∷◌, map, length, get_or, sym, ◌∙◌, ap, subst, inl, arith}
use Rattle.std.specs.Prelude.{Contains, Some}
use Rattle.std.specs.List.{slice_get}
use Rattle.std.proofs.lemmas.Grind.{not_there}
use Rattle.std.proofs.Math.Logic.{∥∥₁_elim}
use Rattle.std.proofs.Props.{props}
use Rattle.pb_text_tree.specs.declared.place.Place.{Place}
use Rattle.pb_text_tree.specs.Form.{SpecForm}
use Rattle.pb_text_meaning.specs.Syntax.{Spec}
use Rattle.pb_text_meaning.specs.Erase as text
use Rattle.pb_text_meaning.specs.Meaning.{answer}
use Rattle.pb_model_tree.specs.declared.model.Model as declared_model
use Rattle.pb_model_meaning.specs.Satisfaction.{satisfies}
use Rattle.pb_model_translation.specs.Names.{translation}
use Rattle.pb_typing_declarations.specs.Faults.{IsAmong}
use Rattle.pb_typing_rules.specs.Faults.{faults}
use Rattle.pb_typing_rules.specs.WellTyped.{IsWellTyped, IsWellTypedWithin}
use Rattle.pb_sorts.specs.Counting.{instance_limit}
use Rattle.pb_sorts.specs.declared.counting.Counting.TheVariants.{Reached}
use Rattle.pb_model_tree.specs.declared.model.Property as tree
use Rattle.pb_model_tree.specs.declared.step.Step as declared_step
use Rattle.pb_model_tree.specs.Form.{FormulaForm, StepForm, PropertyForm, ModelForm, model_form, step_form, property_form}
use Rattle.pb_model_meaning.specs.Erase.{erase, erased_formula, model_of}
use Rattle.pb_model_translation.specs.Placed.{placed, every_step_form}
use Rattle.pb_model_translation.proofs.Answer.{translations_have_the_answer}
use Rattle.pb_model_translation.proofs.PlacedLemmas.{placed-translated}
use Rattle.pb_typing_declarations.specs.declared.fault.TypingFault.{TypingFault}
use Rattle.pb_base.specs.OrMemory.{IfFault, raised}
use Rattle.pb_base.specs.declared.or_memory.OrMemory.{OrMemory}
use Rattle.pb_base.proofs.Faults.{if_fault, if_raised}
use Rattle.pb_model_typing.specs.Data.{fault_in_model}
use Rattle.pb_model_typing.specs.Faults.{model_faults}
use Rattle.pb_model_typing.specs.Laws.{FormulasAreDecided}
use Rattle.pb_model_typing.specs.Reached.{reached, reached_form}
use Rattle.pb_model_typing.specs.Texts.{HasTypedText, IsTypedModel, IsFaultFromText, IsModelFault}
use Rattle.pb_model_typing.proofs.Apart.{names_are_apart}

pub formulas_are_decided : FormulasAreDecided
formulas_are_decided model f e = translations_have_the_answer (erase model) f (names_are_apart model e)

-- well typed means well typed by what is reached
by-reached : (S : Spec) → IsWellTyped S → IsWellTypedWithin (instance_limit Reached) S
by-reached S h = record { typed = h; few = h.declarations.few_instances }

-- ---- the text of a formula

module _ (model : ModelForm) where
  -- what the text that was made says
  pub text-said : (here : Place) (f : FormulaForm) (t : SpecForm) → t ≡ placed model here f → text.erase t ≡ translation (erase model) (erased_formula f)
  text-said here f t is = ap text.erase is ∙ placed-translated model here f

  -- a fault of it, as it is in the model
  pub text-fault : (f : Place × FormulaForm) (t : SpecForm) (e x : OrMemory TypingFault) → raised (λ fault above. above ≡ fault_in_model model fault) e x
      → t ≡ placed model f.0 f.1 → IsAmong (faults (instance_limit Reached) t) e → IfFault x (IsFaultFromText model f)
  text-fault f t e x made is among =
      if_raised e x made (λ fault above same h. (fault, subst (λ (s : SpecForm). Contains (faults (instance_limit Reached) s) fault) is h, same)) among

  -- which isn't well typed
  pub text-broken : (here : Place) (f : FormulaForm) (t : SpecForm) (e x : OrMemory TypingFault) → raised (λ fault above. above ≡ fault_in_model model fault) e x
      → t ≡ placed model here f → IfFault e (λ _. ¬ IsWellTypedWithin (instance_limit Reached) (text.erase t)) → IfFault x (λ _. ¬ HasTypedText (erase model) (erased_formula f))
  text-broken here f t e x made is not =
      if_raised e x made (λ fault above same ill typed. ill (by-reached (text.erase t) (subst (λ (S : Spec). IsWellTyped S) (sym (text-said here f t is)) typed))) not

-- ---- models

module _ (model : ModelForm) where
  -- a fault of its own rules
  pub rule-fault : (e : OrMemory TypingFault) → IsAmong (model_faults model) e → IfFault e (IsModelFault model)
  rule-fault e = if_fault e (λ fault h. inl h)

  pub rule-broken : (e : OrMemory TypingFault) → IsAmong (model_faults model) e → IfFault e (λ _. ¬ IsTypedModel model)
  rule-broken e = if_fault e (λ fault h typed. let none : Contains [] fault = subst (λ (zs : List TypingFault). Contains zs fault) typed.rules h in omega (arith, none.1))

-- what the item at a place says
form-at : {X Y : Type 0} (form : X → Y) (xs : List X) (i : ℕ) (x : X) (y : Y) → i < length xs → x ≡ get_or xs i x → slice_get (map form xs) i ≡ Some y → form x ≡ y
form-at form [] i x y below at is = absurd (omega arith)
form-at form (z ∷ xs) zero x y below at is =
    let same : form z ≡ y = cc in
    ap form at ∙ same
form-at form (z ∷ xs) (suc i) x y below at is = form-at form xs i x y (omega arith) at is

-- ---- the text of a property

-- the property at a place
pub property-at : (ps : List tree.Property) (i : ℕ) (x : tree.Property) (p : PropertyForm) → i < length ps → x ≡ get_or ps i x → slice_get (map property_form ps) i ≡ Some p → property_form x ≡ p
property-at ps i x p below at is = form-at property_form ps i x p below at is

-- its text has the answer
pub property-decided : (model : declared_model.Model) (p : PropertyForm) (t : SpecForm) → ∥ IsTypedModel (model_form model) ∥₁ → t ≡ placed (model_form model) p.name.place p.formula
    → answer (text.erase t) ≡ satisfies (model_of model) (erased_formula p.formula)
property-decided model p t typed says =
    ap answer (text-said (model_form model) p.name.place p.formula t says)
    ∙ ∥∥₁_elim typed (hlevel props) (λ h. formulas_are_decided (model_form model) (erased_formula p.formula) h.rules)

-- the text of whichever formula has the answer
pub formula-decided : (model : declared_model.Model) (here : Place) (f : FormulaForm) (t : SpecForm) → ∥ IsTypedModel (model_form model) ∥₁ → t ≡ placed (model_form model) here f
    → answer (text.erase t) ≡ satisfies (model_of model) (erased_formula f)
formula-decided model here f t typed says =
    ap answer (text-said (model_form model) here f t says) ∙ ∥∥₁_elim typed (hlevel props) (λ h. formulas_are_decided (model_form model) (erased_formula f) h.rules)

-- ---- the text in which each step stands

pub steps-typed : (model : ModelForm) (t : SpecForm) → ∥ IsTypedModel model ∥₁ → t ≡ placed model model.initial.place (every_step_form model.initial.place) → (IsWellTypedWithin (instance_limit Reached) (text.erase t) → ⊥) → ⊥
steps-typed model t typed says not =
    let said = text-said model model.initial.place (every_step_form model.initial.place) t says in
    not_there typed (λ h. not (by-reached (text.erase t) (subst (λ (S : Spec). IsWellTyped S) (sym said) h.steps)))

-- ---- the text that asks whether a step can be taken

-- the step at a place
pub step-at : (steps : List declared_step.Step) (i : ℕ) (x : declared_step.Step) (a : StepForm) → i < length steps → x ≡ get_or steps i x → slice_get (map step_form steps) i ≡ Some a → step_form x ≡ a
step-at steps i x a below at is = form-at step_form steps i x a below at is

-- its text has the answer
pub reached-decided : (model : declared_model.Model) (here : Place) (a : StepForm) (t : SpecForm)
    → ∥ IsTypedModel (model_form model) ∥₁ → t ≡ placed (model_form model) here (reached_form here a.name.text)
    → answer (text.erase t) ≡ satisfies (model_of model) (reached a.name.text)
reached-decided model here a t typed says =
    ap answer (text-said (model_form model) here (reached_form here a.name.text) t says)
    ∙ ∥∥₁_elim typed (hlevel props) (λ h. formulas_are_decided (model_form model) (reached a.name.text) h.rules)
