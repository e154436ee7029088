-- What a fault says of a model that is checked or explained, whichever layer finds it.
use Rattle.std.proofs.Common.{◌≡◌, ◌≢◌, ◌∙◌, ℕ, true, false, List, [], Some, sym, subst, inl, inr}
use Rattle.std.specs.Prelude.{Contains, Result, Err}
use Rattle.std.specs.List.{slice_get}
use Rattle.pb_text_tree.specs.declared.place.Place.{Place}
use Rattle.pb_model_tree.specs.Form.{ModelForm, PropertyForm}
use Rattle.pb_model_faults.specs.declared.ModelFault.{ModelFault}
use Rattle.pb_model_faults.specs.declared.ModelFault.TheVariants as model_fault
use Rattle.pb_model_properties.specs.declared.solved.SolvedModel.{SolvedModel}
use Rattle.pb_model_properties.specs.Asked.{asked_places, have_properties, is_asked}
use Rattle.pb_model_properties.specs.Refusals.{IsIllTypedText, IsRefusedModel}
use Rattle.pb_model_properties.specs.Said.{IsModelOf}
use Rattle.pb_model_properties.specs.Words.{IsToldModelOf}
use Rattle.pb_command_faults.specs.Errors.{IfInputRefused, fault_of_model}
use Rattle.pb_command_faults.specs.declared.solve_error.SolveError.{SolveError}
use Rattle.pb_command_faults.specs.declared.solve_error.SolveError.TheVariants as solve_error
use Rattle.pb_command_faults.specs.declared.solve_fault.SolveFault.{SolveFault}
use Rattle.pb_command_faults.specs.declared.solve_fault.SolveFault.TheVariants as solve_fault
use Rattle.pb_command_line.specs.declared.options.Checking.{Checking}
use Rattle.pb_command_models.specs.Models.{HasIllTypedStep, IsUnchecked, IsUnexplained, LacksProperties, asked_names, solved_form}
use Rattle.pb_command_models.specs.Outcomes.{IsUnexplainedAt, IsUnexplainedText, IsUntypedAt, IsUntypedText}
use Rattle.pb_command_models.specs.ReachedSteps.{IsUntypedStep}
use Rattle.pb_command_models.specs.Why.{IsUnexplainedOf}
use Rattle.pb_command_models.proofs.Decisions.{asked_at}
use Rattle.pb_command_models.proofs.PropertyVerdicts.{contains_at}

module _ (bytes : List ℕ) where
  -- the bytes say no model
  pub model_unchecked : (options : Checking) (f : ModelFault) → IsRefusedModel bytes f → IsUnchecked options bytes (fault_of_model f)
  model_unchecked options (model_fault.Text fault) h = h
  model_unchecked options (model_fault.Typing fault) h = inl (inl h)
  model_unchecked options model_fault.NoProperty h = absurd h

  pub model_unexplained : (names : List (List ℕ)) (f : ModelFault) → IsRefusedModel bytes f → IsUnexplained names bytes (fault_of_model f)
  model_unexplained names (model_fault.Text fault) h = h
  model_unexplained names (model_fault.Typing fault) h = inl h
  model_unexplained names model_fault.NoProperty h = absurd h

  -- the model has no property of a name
  pub names_unchecked : (options : Checking) (model : ModelForm) → IsModelOf bytes model → (f : ModelFault)
      → (f ≡ model_fault.NoProperty) × (have_properties (asked_names options) model.properties ≡ false) → IsUnchecked options bytes (fault_of_model f)
  names_unchecked options model said f h =
      subst (λ (x : ModelFault). IsUnchecked options bytes (fault_of_model x)) (sym h.0) (model, said, h.1)

  module _ (solved : SolvedModel) (told : IsToldModelOf bytes solved) where
    -- the text of a property that is asked for isn't well typed
    module _ (options : Checking) (p : PropertyForm) (among : Contains (solved_form solved).properties p) (asked : is_asked (asked_names options) p ≡ true) where
      untyped_unchecked : (f : SolveFault) → IsUntypedText solved p f → IsUnchecked options bytes f
      untyped_unchecked (solve_fault.Typing fault) h =
          inl (inr (solved_form solved, told.said, (h.0, (p, among, asked, subst (λ (steps : List Place). IsIllTypedText (solved_form solved) steps p fault) told.places h.1))))
      untyped_unchecked (solve_fault.Text fault) h = absurd h
      untyped_unchecked (solve_fault.Limit excess) h = absurd h
      untyped_unchecked (solve_fault.Module fault) h = absurd h
      untyped_unchecked (solve_fault.Acceptance fault) h = absurd h
      untyped_unchecked solve_fault.TooManyVertices h = absurd h
      untyped_unchecked (solve_fault.Property fault) h = absurd h
      untyped_unchecked solve_fault.NoProperty h = absurd h

    pub text_unchecked : (options : Checking) (place : ℕ) → Contains (asked_places (asked_names options) (solved_form solved).properties) place
        → (f : SolveFault) → IsUntypedAt solved place f → IsUnchecked options bytes f
    text_unchecked options place among f (p, at, h) =
        untyped_unchecked options p (contains_at (solved_form solved).properties place p at)
        (asked_at (asked_names options) (solved_form solved).properties place p among at) f h

    -- so isn't that which asks for a step
    pub step_unchecked : (options : Checking) (f : SolveFault) → (options.counts ≡ true) × IsUntypedStep solved f → IsUnchecked options bytes f
    step_unchecked options (solve_fault.Typing fault) h =
        inr (h.0, (solved_form solved, told.said, subst (λ (steps : List Place). HasIllTypedStep steps (solved_form solved) fault) told.places h.1))
    step_unchecked options (solve_fault.Text fault) h = absurd h.1
    step_unchecked options (solve_fault.Limit excess) h = absurd h.1
    step_unchecked options (solve_fault.Module fault) h = absurd h.1
    step_unchecked options (solve_fault.Acceptance fault) h = absurd h.1
    step_unchecked options solve_fault.TooManyVertices h = absurd h.1
    step_unchecked options (solve_fault.Property fault) h = absurd h.1
    step_unchecked options solve_fault.NoProperty h = absurd h.1

    -- the text of the property at a place is refused
    module _ (place : ℕ) (q : PropertyForm) (at : slice_get (solved_form solved).properties place ≡ Some q) (names : List (List ℕ)) (asked : is_asked names q ≡ true) where
      refused_unexplained : (f : SolveFault) → IsUnexplainedText solved q f → IsUnexplained names bytes f
      refused_unexplained (solve_fault.Typing fault) h =
          inr (
            solved_form solved,
            told.said,
            (
              q,
              contains_at (solved_form solved).properties place q at,
              asked,
              subst (λ (steps : List Place). IsIllTypedText (solved_form solved) steps q fault) told.places h,
            ),
          )
      refused_unexplained (solve_fault.Property fault) h = record {
        model = solved_form solved;
        said = told.said;
        index = place;
        property = q;
        at = at;
        asked = asked;
        stands = h.0;
        large = inl h.1;
      }
      refused_unexplained (solve_fault.Text fault) h = absurd h
      refused_unexplained (solve_fault.Limit excess) h = absurd h
      refused_unexplained (solve_fault.Module fault) h = absurd h
      refused_unexplained (solve_fault.Acceptance fault) h = absurd h
      refused_unexplained solve_fault.TooManyVertices h = absurd h
      refused_unexplained solve_fault.NoProperty h = absurd h

    pub text_unexplained : (place : ℕ) (f : SolveFault) → IsUnexplainedAt solved place f → IsUnexplainedOf bytes (solved_form solved) place f
    text_unexplained place f (q, at, h) names x there asked =
        let both : Some x ≡ Some q = sym there ∙ at in
        let is : x ≡ q = cc both in
        refused_unexplained place q at names (subst (λ (y : PropertyForm). is_asked names y ≡ true) is asked) f h

-- what is refused for want of a property was asked by a name
pub lacked_names : {T : Type 0} (options : Checking) (bytes : List ℕ) (r : Result T SolveError) → IfInputRefused r (IsUnchecked options bytes)
    → r ≡ Err (solve_error.Refused solve_fault.NoProperty) → asked_names options ≢ []
lacked_names options bytes r h is none =
    let lack : LacksProperties (asked_names options) bytes = subst (λ x. IfInputRefused x (IsUnchecked options bytes)) is h in
    let missing = subst (λ ns. LacksProperties ns bytes) none lack in
    let no : true ≡ false = missing.2 in
    absurd (cc no)
