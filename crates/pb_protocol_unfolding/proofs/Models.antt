-- The flat model satisfies what the protocol does.
use Rattle.std.proofs.Common.{◌≡◌, ◌&&◌, List, [], ◌∷◌, ◌++◌, map, refl, sym, ap, ◌∙◌}
use Rattle.std.proofs.lemmas.List.{map-append}
use Rattle.pb_base_values.specs.Carrier.{Value, Tuple, tuples}
use Rattle.pb_text_meaning.specs.Syntax.{Term, Terms}
use Rattle.pb_text_meaning.specs.Value.{value}
use Rattle.pb_text_meaning.specs.Meaning.{assigned}
use Rattle.pb_text_meaning.specs.Formula.{carriers_of}
use Rattle.pb_model_meaning.specs.Steps.{State}
use Rattle.pb_model_meaning.specs.Steps as flat_steps
use Rattle.pb_model_meaning.specs.Satisfaction.{no_sets}
use Rattle.pb_model_meaning.specs.Satisfaction as flat_satisfaction
use Rattle.pb_protocol_meaning.specs.Syntax.{StateVariable, Protocol}
use Rattle.pb_protocol_meaning.specs.Meaning.{no_functions, meaning}
use Rattle.pb_protocol_meaning.specs.Steps.{data_of, functions_at_start, initial_values, initial_state, is_state}
use Rattle.pb_protocol_unfolding.specs.Written.{written_tuples}
use Rattle.pb_protocol_unfolding.specs.PutIn.{no_forms, put_in}
use Rattle.pb_protocol_unfolding.specs.Unfolding.{written, values_of, forms_at_start, unfolded_initial, unfolded_formula, unfolded}
use Rattle.pb_protocol_unfolding.specs.Hygiene.{HidesNothing}
use Rattle.pb_protocol_unfolding.specs.TermLaws.{Means}
use Rattle.pb_protocol_unfolding.specs.ModelLaws.{ModelsAreUnfolded}
use Rattle.pb_protocol_unfolding.proofs.PutIn.{put_in-value}
use Rattle.pb_protocol_unfolding.proofs.Reading.{definitions_are_put_in}
use Rattle.pb_protocol_unfolding.proofs.States.{terms-values, written-scope, keeps-nowhere, hides-nowhere, tuples-written}
use Rattle.pb_protocol_unfolding.proofs.Formulas.{states-same, formulas_are_unfolded}

module _ (m : Protocol) (hides : HidesNothing m) where
  means-nowhere : Means (data_of m) [] no_forms no_functions
  means-nowhere = record { written = keeps-nowhere m hides; enumerators = hides-nowhere m hides; named = λ x ts. tt }

  -- definitions alone mean what they do without state
  pub means-at-start : Means (data_of m) [] (forms_at_start m) (functions_at_start m)
  means-at-start = definitions_are_put_in (data_of m) [] no_forms no_functions means-nowhere m.definitions

  initial-value : (y : StateVariable) (x : Term) (ks : List Term) →
      value (data_of m) [] (put_in (data_of m) (forms_at_start m) (written y.indices ks) x)
      ≡ meaning (data_of m) (functions_at_start m) (assigned y.indices (values_of m ks) []) x
  initial-value y x ks =
      put_in-value (data_of m) [] (forms_at_start m) (functions_at_start m) means-at-start x (written y.indices ks) ∙
      ap (λ c. meaning (data_of m) (functions_at_start m) c x) (written-scope m y.indices ks)

  initial-here : (ys : List StateVariable) (xs : Terms) → map (value (data_of m) []) (unfolded_initial (data_of m) (forms_at_start m) ys xs) ≡ initial_values (data_of m) (functions_at_start m) ys xs
  initial-here [] xs = refl
  initial-here (y ∷ ys) Terms.NoTerms = refl
  initial-here (y ∷ ys) (Terms.Then x xs) =
      let f : List Term → Term = λ ks. put_in (data_of m) (forms_at_start m) (written y.indices ks) x in
      let g : Tuple → Value = λ vs. meaning (data_of m) (functions_at_start m) (assigned y.indices vs []) x in
      let all = written_tuples (data_of m) y.indices in
      map-append (value (data_of m) []) (map f all) (unfolded_initial (data_of m) (forms_at_start m) ys xs) ∙
      (ap (λ l. l ++ map (value (data_of m) []) (unfolded_initial (data_of m) (forms_at_start m) ys xs)) (each f g all (initial-value y x) ∙ ap (map g) (sym (tuples-written m hides y.indices))) ∙
      ap (λ l. map g (tuples (carriers_of (data_of m) y.indices)) ++ l) (initial-here ys xs))
    where
      each : (f : List Term → Term) (g : Tuple → Value) (all : List (List Term)) → ((ks : List Term) → value (data_of m) [] (f ks) ≡ g (values_of m ks)) →
          map (value (data_of m) []) (map f all) ≡ map g (map (values_of m) all)
      each f g [] h = refl
      each f g (ks ∷ all) h = ap (λ v. v ∷ map (value (data_of m) []) (map f all)) (h ks) ∙ ap (λ vs. g (values_of m ks) ∷ vs) (each f g all h)

  pub initial-state : flat_steps.initial_state (unfolded m) ≡ initial_state m
  initial-state = terms-values m (unfolded_initial (data_of m) (forms_at_start m) m.variables m.initial) ∙ initial-here m.variables m.initial

pub models_are_unfolded : ModelsAreUnfolded
models_are_unfolded m hides = (
  initial-state m hides,
  states-same m hides,
  λ f names.
      ap (λ (s : State). flat_steps.is_state (unfolded m) s && flat_satisfaction.satisfying (unfolded m) no_sets (unfolded_formula m [] f) s) (initial-state m hides) ∙
      (ap (λ b. b && flat_satisfaction.satisfying (unfolded m) no_sets (unfolded_formula m [] f) (initial_state m)) (states-same m hides (initial_state m)) ∙
      ap (λ b. is_state m (initial_state m) && b) (formulas_are_unfolded m hides no_sets f names (initial_state m))),
)
