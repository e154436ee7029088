-- Which models are solved in a protocol's place, by the laws of what they are made by.
use Rattle.std.proofs.Common.{◌≡◌, ◌∙◌, true, List, [], ◌∷◌, map, refl, sym, ap, subst}
use Rattle.std.specs.Prelude.{Contains}
use Rattle.pb_model_meaning.specs.Syntax as model
use Rattle.pb_model_meaning.specs.Steps.{State}
use Rattle.pb_model_meaning.specs.Steps as model_steps
use Rattle.pb_model_meaning.specs.Satisfaction as model_satisfaction
use Rattle.pb_model_meaning.specs.Erase as model_text
use Rattle.pb_model_tree.specs.Form.{ModelForm}
use Rattle.pb_protocol_tree.specs.Form.{ProtocolForm}
use Rattle.pb_protocol_meaning.specs.Syntax.{Protocol, Property, StepSet}
use Rattle.pb_protocol_meaning.specs.Steps.{is_state, initial_state, successors}
use Rattle.pb_protocol_meaning.specs.Satisfaction.{satisfies}
use Rattle.pb_protocol_meaning.specs.Erase.{erase, erased_formula, erased_property}
use Rattle.pb_protocol_unfolding.specs.Plain.{plain, plain_formula, PlainModelsKeepTheirMeaning}
use Rattle.pb_protocol_unfolding.specs.Unfolding.{unfolded, unfolded_property}
use Rattle.pb_protocol_folding.specs.FoldedModels.{folded_property}
use Rattle.pb_protocol_unfolding.specs.ModelLaws.{flat_formula, flat_model, FlatModelsSatisfyTheSame, FlatModelsGoTheSame}
use Rattle.pb_protocol_unfolding.proofs.WholeSteps.{properties_name_no_whole}
use Rattle.pb_model_runs.proofs.Elements.{mapped}
use Rattle.pb_protocol_laws.specs.Solved.{itself, GoesAlong}
use Rattle.pb_protocol_laws.specs.SolvedLaws.{PlainModelsAreSolved, UnfoldedModelsAreSolved}
use Rattle.pb_protocol_laws.proofs.Properties.{are_plain, are_same}
use Rattle.pb_protocol_laws.proofs.States.{goes_along}

twice : {A B C : Type 0} (f : A → B) (g : B → C) (xs : List A) → map g (map f xs) ≡ map (λ x. g (f x)) xs
twice f g [] = refl
twice f g (x ∷ xs) = ap (λ ys. g (f x) ∷ ys) (twice f g xs)

pub plain_models_are_solved : PlainModelsKeepTheirMeaning → PlainModelsAreSolved
plain_models_are_solved law protocol m is_plain counts made named =
    let keeps = law (model_text.erase m) is_plain in
    record {
      properties = are_plain protocol m plain_formula
          (λ f none. subst (λ (x : Protocol). satisfies x (plain_formula f) ≡ model_satisfaction.satisfies (model_text.erase m) f) (sym made) (keeps.3 f none))
          protocol.properties m.properties counts named (ap (λ (x : Protocol). x.properties) made);
      runs = subst (λ (x : Protocol). GoesAlong x (model_text.erase m) itself) (sym made)
          (goes_along (plain (model_text.erase m)) (model_text.erase m) (λ s. sym (keeps.1 s)) (sym keeps.0) (λ s is. sym (keeps.2 model.StepSet.All s is)));
    }

pub unfolded_models_are_solved : FlatModelsSatisfyTheSame → FlatModelsGoTheSame → UnfoldedModelsAreSolved
unfolded_models_are_solved same goes protocol m hides made named =
    let along = goes (erase protocol) hides in
    record {
      properties = are_same protocol m (flat_formula (erase protocol)) protocol.properties
          (λ p among.
          let f = erased_formula p.formula in
          subst (λ (x : model.Model). model_satisfaction.satisfies x (flat_formula (erase protocol) f) ≡ satisfies (erase protocol) f) (sym made)
          (same (erase protocol) hides f (properties_name_no_whole (erase protocol) (erased_property p) (mapped erased_property protocol.properties p among))))
          m.properties named
          (ap (λ (x : model.Model). x.properties) made
          ∙ twice (unfolded_property (erase protocol)) (folded_property (unfolded (erase protocol))) (erase protocol).properties);
      runs = subst (λ (x : model.Model). GoesAlong (erase protocol) x itself) (sym made)
          (goes_along (erase protocol) (flat_model (erase protocol)) along.1 along.0 (λ s is. along.2 s));
    }
