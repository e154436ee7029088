-- Indices of an assignment, behind which there are none.
use Rattle.std.proofs.Common.{◌≡◌, ℕ, ◌≤◌, false, List, [], ◌∷◌, length, drop, refl, ap, ◌∙◌}
use Rattle.std.proofs.Math.ListN.{drop_of_length-le}
use Rattle.pb_text_tree.specs.declared.term.Argument.{Argument}
use Rattle.pb_text_meaning.specs.Syntax.{Name, Variable, Terms}
use Rattle.pb_protocol_symmetry.specs.Steps.{is_index}
use Rattle.pb_protocol_scalar_sets.specs.Terms.{terms_said}

no-terms : (sort x : Name) (zs : List Variable) → is_index sort x zs Terms.NoTerms ≡ false
no-terms sort x [] = refl
no-terms sort x (z ∷ zs) = refl

pub no-index : (sort x : Name) (zs : List Variable) (es : List Argument) (k : ℕ) → length es ≤ k → is_index sort x zs (terms_said (drop k es)) ≡ false
no-index sort x zs es k few = ap (λ (ds : List Argument). is_index sort x zs (terms_said ds)) (drop_of_length-le es few) ∙ no-terms sort x zs
