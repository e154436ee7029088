-- Of variables and steps that are called otherwise none is left where there are no more, or no names.
use Rattle.std.proofs.Common.{◌≡◌, ℕ, zero, suc, ◌≤◌, min, List, [], ◌∷◌, ◌++◌, length, drop, map, refl, sym, ap, ◌∙◌, arith, String, Global}
use Rattle.std.specs.Prelude.{string_bytes}
use Rattle.std.proofs.lemmas.List.{append-nil}
use Rattle.pb_model_tree.specs.declared.step.Step as declared_step
use Rattle.pb_model_tree.specs.Form.{step_form}
use Rattle.pb_model_words.specs.declared.variables.Variable as declared_variable
use Rattle.pb_model_words.specs.Vocabulary.{called_variables, called_steps}
use Rattle.pb_model_words.specs.View.{variable_said}

pub variables-end : (ns : List (String Global)) (xs : List declared_variable.Variable) (k : ℕ)
    → min (length ns) (length xs) ≤ k → called_variables (map string_bytes (drop k ns)) (map variable_said (drop k xs)) ≡ []
variables-end [] xs zero h = refl
variables-end [] xs (suc k) h = refl
variables-end (n ∷ ns) [] zero h = refl
variables-end (n ∷ ns) [] (suc k) h = none (map string_bytes (drop k ns))
  where
    none : (bs : List (List ℕ)) → called_variables bs [] ≡ []
    none [] = refl
    none (b ∷ bs) = refl
variables-end (n ∷ ns) (x ∷ xs) zero h = absurd (omega arith)
variables-end (n ∷ ns) (x ∷ xs) (suc k) h = variables-end ns xs k (omega arith)

pub steps-end : (ns : List (String Global)) (xs : List declared_step.Step) (k : ℕ) → min (length ns) (length xs) ≤ k → called_steps (map string_bytes (drop k ns)) (map step_form (drop k xs)) ≡ []
steps-end [] xs zero h = refl
steps-end [] xs (suc k) h = refl
steps-end (n ∷ ns) [] zero h = refl
steps-end (n ∷ ns) [] (suc k) h = none (map string_bytes (drop k ns))
  where
    none : (bs : List (List ℕ)) → called_steps bs [] ≡ []
    none [] = refl
    none (b ∷ bs) = refl
steps-end (n ∷ ns) (x ∷ xs) zero h = absurd (omega arith)
steps-end (n ∷ ns) (x ∷ xs) (suc k) h = steps-end ns xs k (omega arith)

pub whole-called : {A : Type 0} (so-far rest whole : List A) → so-far ++ rest ≡ whole → rest ≡ [] → so-far ≡ whole
whole-called so-far rest whole e none = sym (append-nil so-far) ∙ ap (λ r. so-far ++ r) (sym none) ∙ e
