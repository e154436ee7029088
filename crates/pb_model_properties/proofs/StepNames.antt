-- What the step at a place is called.
use Rattle.std.proofs.Common.{◌≡◌, ℕ, zero, suc, ◌<◌, ◌≤◌, List, [], ◌∷◌, length, map, get_or, refl, ap, string_bytes, arith, Global}
use Rattle.std.specs.Prelude.{String}
use Rattle.pb_model_tree.specs.declared.step.Step.{Step}
use Rattle.pb_model_tree.specs.Form.{step_form}
use Rattle.pb_model_words.specs.Vocabulary.{called_steps, told_step}
use Rattle.pb_model_properties.specs.Reached.{name_among}

-- by its own name
pub own-name-at : (steps : List Step) (k : ℕ) (a : Step) → k < length steps → a ≡ get_or steps k a → string_bytes a.name.text ≡ name_among (map told_step (map step_form steps)) k
own-name-at [] k a within is = absurd (omega arith)
own-name-at (b ∷ steps) zero a within is = ap (λ (x : Step). string_bytes x.name.text) is
own-name-at (b ∷ steps) (suc k) a within is = own-name-at steps k a (omega arith) is

-- by another one
pub called-name-at : (names : List (String Global)) (steps : List Step) (k : ℕ) (x : String Global) → k < length steps → k < length names → x ≡ get_or names k x
    → string_bytes x ≡ name_among (called_steps (map string_bytes names) (map step_form steps)) k
called-name-at [] steps k x there within is = absurd (omega arith)
called-name-at (y ∷ names) [] k x there within is = absurd (omega arith)
called-name-at (y ∷ names) (b ∷ steps) zero x there within is = ap string_bytes is
called-name-at (y ∷ names) (b ∷ steps) (suc k) x there within is = called-name-at names steps k x (omega arith) (omega arith) is

-- where there is no such name, or no such step
pub no-name-at : (names : List (String Global)) (steps : List Step) (k : ℕ) → length names ≤ k → [] ≡ name_among (called_steps (map string_bytes names) (map step_form steps)) k
no-name-at [] steps k past = refl
no-name-at (y ∷ names) [] k past = refl
no-name-at (y ∷ names) (b ∷ steps) zero past = absurd (omega arith)
no-name-at (y ∷ names) (b ∷ steps) (suc k) past = no-name-at names steps k (omega arith)

pub no-step-at : (names : List (String Global)) (steps : List Step) (k : ℕ) → length steps ≤ k → [] ≡ name_among (called_steps (map string_bytes names) (map step_form steps)) k
no-step-at [] steps k past = refl
no-step-at (y ∷ names) [] k past = refl
no-step-at (y ∷ names) (b ∷ steps) zero past = absurd (omega arith)
no-step-at (y ∷ names) (b ∷ steps) (suc k) past = no-step-at names steps k (omega arith)
