-- The verdict on a property of a model, and what is refused of the model by what is refused of the property's text.
use Rattle.std.proofs.Common.{◌≡◌, ◌∙◌, ℕ, zero, suc, ◌<◌, List, [], ◌∷◌, Option, Some, length, map, refl, sym, ap, arith}
use Rattle.std.specs.Prelude.{Contains}
use Rattle.std.specs.List.{slice_get}
use Rattle.std.proofs.lemmas.List.{length-map}
use Rattle.std.proofs.lemmas.Option.{slice_get_within, get_or_from_slice_get}
use Rattle.pb_sorts.specs.declared.counting.Counting.TheVariants.{Reached}
use Rattle.pb_text_tree.specs.declared.place.Place.{Place}
use Rattle.pb_text_tree.specs.Form.{SpecForm}
use Rattle.pb_model_tree.specs.Form.{PropertyForm, ModelForm}
use Rattle.pb_model_properties.specs.Said.{IsTextOf}
use Rattle.pb_bytecode.specs.Contents.{Contents}
use Rattle.pb_report.specs.declared.answer.Answer.{Answer}
use Rattle.pb_command_solver.specs.Answers.{IsAnswerOf}
use Rattle.pb_command_faults.specs.declared.solve_fault.SolveFault.{SolveFault}
use Rattle.pb_command_faults.specs.declared.solve_fault.SolveFault.TheVariants as solve_fault
use Rattle.pb_command_texts.specs.Answers.{IsModuleOfForm}
use Rattle.pb_model_faults.specs.declared.ModelFault.{ModelFault}
use Rattle.pb_model_faults.specs.declared.ModelFault.TheVariants as model_fault
use Rattle.pb_model_properties.specs.Refusals as untranslated
use Rattle.pb_command_faults.specs.Errors.{fault_of_model}
use Rattle.pb_model_properties.specs.declared.solved.SolvedModel.{SolvedModel}
use Rattle.pb_command_models.specs.Models.{fault_of_property, IsUntranslated, IsPropertyAnswer, solved_form}
use Rattle.pb_command_models.specs.Outcomes.{IsUnexplainedAt}
use Rattle.pb_command_texts.specs.Refusals.{IsUnexplainedForm}

-- an element stands at each place within
pub some_at : {X : Type 0} (xs : List X) (k : ℕ) → k < length xs → (x : X) × (slice_get xs k ≡ Some x)
some_at [] k less = absurd (omega arith)
some_at (x ∷ xs) zero less = (x, refl)
some_at (x ∷ xs) (suc k) less = some_at xs k (omega arith)

-- a property stands at each place within
pub some_property : {A : Type 0} (form : A → PropertyForm) (items : List A) (k : ℕ) → k < length items → (p : PropertyForm) × (slice_get (map form items) k ≡ Some p)
some_property form items k less = let long = length-map items form in some_at (map form items) k (omega (arith, less, long))

pub contains_at : (ps : List PropertyForm) (k : ℕ) (p : PropertyForm) → slice_get ps k ≡ Some p → Contains ps p
contains_at ps k p e = (k, slice_get_within ps k p e, get_or_from_slice_get ps k p p e)

-- the text of the property at a place
pub record IsTextAt (model : ModelForm) (k : ℕ) (x : SpecForm) : Type 0 where
  pub property : PropertyForm
  pub stands : slice_get model.properties k ≡ Some property
  pub of_property : IsTextOf model property x

pub text_at_place : (model : ModelForm) (k : ℕ) (x : SpecForm) → (p : PropertyForm) × (slice_get model.properties k ≡ Some p)
    → ((p : PropertyForm) → slice_get model.properties k ≡ Some p → IsTextOf model p x) → IsTextAt model k x
text_at_place model k x some text = record { property = some.0; stands = some.1; of_property = text some.0 some.1 }

-- a text that isn't compiled, or whose game is too large, is refused at the property's name
module _ (solved : SolvedModel) (k : ℕ) (x : SpecForm) (at : IsTextAt (solved_form solved) k x) (place : Place) (here : place ≡ at.property.name.place) where
  pub unexplained_property : (f : SolveFault) → IsUnexplainedForm Reached x f → IsUnexplainedAt solved k (fault_of_property place f)
  unexplained_property solve_fault.TooManyVertices (m, of_text, large) =
      (at.property, at.stands, (sym here, record { text = x; of_property = at.of_property; contents = m; of_text = of_text; large = large }))
  unexplained_property (solve_fault.Limit excess) h =
      (at.property, at.stands, (sym here, record { text = x; of_property = at.of_property; excess = excess; exceeds = h; first = refl }))
  unexplained_property solve_fault.NoProperty h = absurd h
  unexplained_property (solve_fault.Property fault) h = absurd h
  unexplained_property (solve_fault.Text fault) h = absurd h
  unexplained_property (solve_fault.Typing fault) h = absurd h
  unexplained_property (solve_fault.Module fault) h = absurd h
  unexplained_property (solve_fault.Acceptance fault) h = absurd h

-- the answer to the property's text is the verdict on the property
pub property_verdict : (model : ModelForm) (p : PropertyForm) (x : SpecForm) → IsTextOf model p x → (m : Contents) → IsModuleOfForm x m
    → (a : Answer) → IsAnswerOf Reached m a → IsPropertyAnswer model p a
property_verdict model p x text m of_text a answered = let some = of_text.trees in record {
  exact = ap (λ (b : Answer). b.truth) (answered some.0 some.1).exact ∙ ((of_text.says some.0 some.1).answer ∙ text.decides);
  text = x;
  of_property = text;
  contents = m;
  of_text = of_text;
  counted = answered;
}

-- what is wrong with a model that is translated
pub model_untranslated : (name : Option (List ℕ)) (bytes : List ℕ) (f : ModelFault) → untranslated.LacksTranslation name bytes f
    → IsUntranslated name bytes (fault_of_model f)
model_untranslated name bytes (model_fault.Text fault) h = h
model_untranslated name bytes (model_fault.Typing fault) h = h
model_untranslated name bytes model_fault.NoProperty h = h
