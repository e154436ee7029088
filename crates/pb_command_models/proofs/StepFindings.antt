-- What is found of the steps of a model, and what is told of them.
use Rattle.std.proofs.Common.{◌≡◌, ◌∙◌, ◌++◌, ◌+◌, ◌<◌, ℕ, zero, suc, Bool, true, false, List, [], ◌∷◌, Some, length, drop, get_or, refl, sym, ap, subst, arith}
use Rattle.std.specs.Prelude.{Contains, IfOk, IfSome, Option, Result, Ok, Err}
use Rattle.std.specs.List.{slice_get}
use Rattle.std.proofs.lemmas.List.{append_assoc, drop_more}
use Rattle.std.proofs.lemmas.Option.{slice_get_within, get_or_from_slice_get}
use Rattle.pb_base.specs.OrMemory.{IfFault, IfRefused}
use Rattle.pb_base.specs.declared.or_memory.OrMemory.{OrMemory}
use Rattle.pb_base.specs.declared.or_memory.OrMemory.TheVariants as or_memory
use Rattle.pb_base.proofs.Faults.{if_fault, if_refused}
use Rattle.pb_command_faults.specs.Errors.{fault_of_model}
use Rattle.pb_command_faults.specs.declared.property_fault.PropertyExcess.{PropertyExcess}
use Rattle.pb_command_faults.specs.declared.solve_fault.SolveFault.{SolveFault}
use Rattle.pb_model_tree.specs.Form.{ModelForm, PropertyForm, StepForm, model_form}
use Rattle.pb_model_words.specs.Vocabulary.{Vocabulary}
use Rattle.pb_model_faults.specs.declared.ModelFault.{ModelFault}
use Rattle.pb_model_faults.specs.declared.ModelFault.TheVariants as model_fault
use Rattle.pb_model_properties.specs.declared.solved.SolvedModel.{SolvedModel}
use Rattle.pb_model_properties.specs.Reached.{name_of_step, reached_property}
use Rattle.pb_model_properties.specs.Refusals.{IsRefusedText}
use Rattle.pb_model_properties.specs.Said.{tree_satisfies}
use Rattle.pb_report.specs.declared.answer.Answer.{Answer}
use Rattle.pb_command_models.specs.declared.outcome.Outcome.{Outcome}
use Rattle.pb_command_models.specs.declared.outcome.Outcome.TheVariants as outcome
use Rattle.pb_command_models.specs.declared.property_module.PropertyModule.{PropertyModule}
use Rattle.pb_command_models.specs.declared.property_text.AskedText.{AskedText}
use Rattle.pb_command_models.specs.declared.property_text.PropertyText.{PropertyText}
use Rattle.pb_command_models.specs.declared.property_text.PropertyText.TheVariants as property_text
use Rattle.pb_command_models.specs.declared.step_finding.StepFinding.{StepFinding}
use Rattle.pb_command_models.specs.declared.step_finding.StepFinding.TheVariants.{Refused}
use Rattle.pb_command_models.specs.Models.{IsPropertyAnswer}
use Rattle.pb_command_models.specs.Outcomes.{IsFault, IsOutcome, IsPropertyModule, IsPropertyText}
use Rattle.pb_model_properties.specs.Refusals.{is_limit}
use Rattle.pb_command_models.specs.ReachedSteps.{IsFoundOfStep, IsStepModule, IsStepText, IsUntypedStep, by_truth, can_be_taken, step_line, step_lines_from}
use Rattle.pb_command_models.proofs.PropertyTexts.{text_over_limit}

-- ---- the text of a step

-- a step stands at each place within
pub some_step : (steps : List StepForm) (k : ℕ) → k < length steps → (a : StepForm) × (slice_get steps k ≡ Some a)
some_step [] k below = absurd (omega arith)
some_step (a ∷ steps) zero below = (a, refl)
some_step (a ∷ steps) (suc k) below = some_step steps k (omega arith)

contains_step : (steps : List StepForm) (k : ℕ) (a : StepForm) → slice_get steps k ≡ Some a → Contains steps a
contains_step steps k a at = (k, slice_get_within steps k a at, get_or_from_slice_get steps k a a at)

module _ (solved : SolvedModel) where
  -- what a fault says of the text of the step at a place
  abbrev IsRefusedStep : ℕ → ModelFault → Type 0
  IsRefusedStep place fault = (a : StepForm) → slice_get (model_form solved.typed.model).steps place ≡ Some a → IsRefusedText solved (reached_property (model_form solved.typed.model) a) fault

  -- it is too large
  pub large_step : {E : Type 0} (place : ℕ) (error : OrMemory ModelFault) (r : Result AskedText E)
      → IfOk r (λ asked. (asked.place ≡ place) × (asked.text ≡ property_text.TooLarge) × IfFault error (λ fault. is_limit fault ≡ true) × IsFault error)
      → IfFault error (IsRefusedStep place) → IfOk r (λ asked. IsStepText (model_form solved.typed.model) place asked.text)
  large_step place error (Ok asked) (here, large, limit, is) h = λ a at.
      let p = reached_property (model_form solved.typed.model) a in
      subst (IsPropertyText (model_form solved.typed.model) p) (sym large) (text_over_limit solved p error is limit (if_fault error (λ fault refused. refused a at) h))
  large_step place error (Err e) made h = tt

  untyped_by : (a : StepForm) (fault : ModelFault) → Contains (model_form solved.typed.model).steps a → is_limit fault ≡ false
      → IsRefusedText solved (reached_property (model_form solved.typed.model) a) fault → IsUntypedStep solved (fault_of_model fault)
  untyped_by a (model_fault.Typing fault) among other h = (other, (a, among, h))
  untyped_by a (model_fault.Text fault) among other h = absurd h
  untyped_by a model_fault.NoProperty among other h = absurd h

  untyped_told : (place : ℕ) (error : OrMemory ModelFault) (made : SolveFault) → place < length (model_form solved.typed.model).steps → IsFault error
      → IfFault error (λ fault. made ≡ fault_of_model fault) → IfFault error (λ fault. is_limit fault ≡ false) → IfFault error (IsRefusedStep place)
      → IsUntypedStep solved made
  untyped_told place (or_memory.Refused fault) made below is same other h =
      let steps = (model_form solved.typed.model).steps in
      let some = some_step steps place below in
      subst (IsUntypedStep solved) (sym same) (untyped_by some.0 fault (contains_step steps place some.0 some.1) other (h some.0 some.1))
  untyped_told place or_memory.Memory made below is same other h = absurd is

  -- or breaks another rule
  pub untyped_step : {A : Type 0} (place : ℕ) (error : OrMemory ModelFault) (r : Result A (OrMemory SolveFault)) → place < length (model_form solved.typed.model).steps
      → IfRefused r (λ made. IfFault error (λ fault. made ≡ fault_of_model fault) × IsFault error × IfFault error (λ fault. is_limit fault ≡ false)) → IfFault error (IsRefusedStep place)
      → IfRefused r (IsUntypedStep solved)
  untyped_step place error r below made h = if_refused r (λ fault was. untyped_told place error fault below was.1 was.0 was.2 h) made

-- ---- what is found of the step at a place

-- the module of its text
pub module_of_step : (model : ModelForm) (place : ℕ) (text : PropertyText) (compiled : PropertyModule) → IsStepText model place text
    → ((m : ModelForm) (p : PropertyForm) → IsPropertyText m p text → IsPropertyModule m p compiled) → IsStepModule model place compiled
module_of_step model place text compiled asks made a at = made model (reached_property model a) (asks a at)

module _ (model : ModelForm) (place : ℕ) (compiled : PropertyModule) (made : IsStepModule model place compiled) where
  step_known : (b : Bool) → ((a : StepForm) → slice_get model.steps place ≡ Some a → b ≡ can_be_taken model a) → IsFoundOfStep model place (by_truth b)
  step_known true known = λ a at. sym (known a at)
  step_known false known = λ a at. sym (known a at)

  -- by the nearest instances
  pub step_shown : (early : Option Bool) (b : Bool) (finding : StepFinding) → early ≡ Some b
      → IfSome early (λ truth. (m : ModelForm) (p : PropertyForm) → IsPropertyModule m p compiled → truth ≡ tree_satisfies m p.formula)
      → finding ≡ by_truth b → IsFoundOfStep model place finding
  step_shown early b finding is shows same =
      let known : (m : ModelForm) (p : PropertyForm) → IsPropertyModule m p compiled → b ≡ tree_satisfies m p.formula =
      subst (λ (o : Option Bool). IfSome o (λ truth. (m : ModelForm) (p : PropertyForm) → IsPropertyModule m p compiled → truth ≡ tree_satisfies m p.formula)) is shows in
      subst (IsFoundOfStep model place) (sym same) (step_known b (λ a at. known model (reached_property model a) (made a at)))

  -- by all of them
  module _ (o : Outcome) (becomes : (m : ModelForm) (p : PropertyForm) → IsPropertyModule m p compiled → IsOutcome m p o) where
    becomes_of : (x : Outcome) → o ≡ x → (a : StepForm) → slice_get model.steps place ≡ Some a → IsOutcome model (reached_property model a) x
    becomes_of x is a at =
        let p = reached_property model a in
        subst (IsOutcome model p) is (becomes model p (made a at))

    pub step_large : (excess : PropertyExcess) → o ≡ outcome.TooLarge excess → IsFoundOfStep model place (Refused excess)
    step_large excess is = becomes_of (outcome.TooLarge excess) is

    pub step_answered : (x : Answer) (finding : StepFinding) → o ≡ outcome.Answered x → finding ≡ by_truth x.truth → IsFoundOfStep model place finding
    step_answered x finding is same =
        subst (IsFoundOfStep model place) (sym same) (step_known x.truth (λ a at.
        let answer : IsPropertyAnswer model (reached_property model a) x = becomes_of (outcome.Answered x) is a at in
        answer.exact))

-- ---- the findings of all steps

pub nothing_found : (model : ModelForm) (xs : List StepFinding) → xs ≡ [] → (j : ℕ) (f : StepFinding) → slice_get xs j ≡ Some f → IsFoundOfStep model j f
nothing_found model [] is j f at = absurd (cc at)
nothing_found model (x ∷ xs) is j f at = absurd (cc is)

pushed_found : (P : ℕ → StepFinding → Type 0) (xs : List StepFinding) (x : StepFinding) → ((k : ℕ) (f : StepFinding) → slice_get xs k ≡ Some f → P k f) → P (length xs) x
    → (k : ℕ) (f : StepFinding) → slice_get (xs ++ x ∷ []) k ≡ Some f → P k f
pushed_found P [] x all last zero f at = let is : x ≡ f = cc at in subst (P 0) is last
pushed_found P [] x all last (suc k) f at = absurd (cc at)
pushed_found P (y ∷ xs) x all last zero f at = all zero f at
pushed_found P (y ∷ xs) x all last (suc k) f at = pushed_found (λ j. P (suc j)) xs x (λ j. all (suc j)) last k f at

-- one more is pushed, that of the next step
pub step_pushed : (model : ModelForm) (new xs : List StepFinding) (k : ℕ) (x : StepFinding) → new ≡ xs ++ x ∷ [] → length xs ≡ k
    → ((j : ℕ) (f : StepFinding) → slice_get xs j ≡ Some f → IsFoundOfStep model j f) → IsFoundOfStep model k x → (j : ℕ) (f : StepFinding) → slice_get new j ≡ Some f → IsFoundOfStep model j f
step_pushed model new xs k x pushed long all last j f at =
    pushed_found (IsFoundOfStep model) xs x all (subst (λ (i : ℕ). IsFoundOfStep model i x) (sym long) last) j f (subst (λ (zs : List StepFinding). slice_get zs j ≡ Some f) pushed at)

-- the line of one more
pub step_lines_next : (words : Vocabulary) (fs : List StepFinding) (k : ℕ) (f d : StepFinding) (all old new : List ℕ)
    → k < length fs → f ≡ get_or fs k d → new ≡ old ++ step_line (name_of_step words k) f
    → old ++ step_lines_from k words (drop k fs) ≡ all → new ++ step_lines_from (k + 1) words (drop (k + 1) fs) ≡ all
step_lines_next words fs k f d all old new below is pushed before =
    let rest = step_lines_from (k + 1) words (drop (k + 1) fs) in
    let next : f ∷ drop (k + 1) fs ≡ drop k fs = ap (λ y. y ∷ drop (k + 1) fs) is ∙ sym (drop_more fs k d below) in
    ap (λ (l : List ℕ). l ++ rest) pushed ∙ (append_assoc old (step_line (name_of_step words k) f) rest
    ∙ (ap (λ (gs : List StepFinding). old ++ step_lines_from k words gs) next ∙ before))
