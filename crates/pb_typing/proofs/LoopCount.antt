-- A formula's quantifiers take as many slots as its width says.
use Rattle.std.proofs.Common.{◌≡◌, ℕ, ◌+◌, List, ◌++◌, length, refl, ◌∙◌, ap}
use Rattle.std.proofs.lemmas.List.{length-append}
use Rattle.pb_text_meaning.specs.Syntax as syntax
use Rattle.pb_text_meaning.specs.Syntax.{Spec}
use Rattle.pb_typing_declarations.specs.Shapes.{Shape}
use Rattle.pb_typing_tree.specs.Loops.{loops, variable_shapes}
use Rattle.pb_typing_tree.specs.Elaboration.{width}
use Rattle.pb_typing_nodes.proofs.SlotLemmas.{length-variables}

join-length : (ss ts : List Shape) (v w : ℕ) → length ss ≡ v → length ts ≡ w → length (ss ++ ts) ≡ v + w
join-length ss ts v w h k = length-append ss ts ∙ (ap (λ (a : ℕ). a + length ts) h ∙ ap (λ (a : ℕ). v + a) k)

-- a shape for each slot
pub length-loops : (spec : Spec) (f : syntax.Formula) → length (loops spec f) ≡ width f
length-loops spec (syntax.Formula.Truth b) = refl
length-loops spec (syntax.Formula.Val x) = refl
length-loops spec (syntax.Formula.Not f) = length-loops spec f
length-loops spec (syntax.Formula.And f g) = join-length (loops spec f) (loops spec g) (width f) (width g) (length-loops spec f) (length-loops spec g)
length-loops spec (syntax.Formula.Or f g) = join-length (loops spec f) (loops spec g) (width f) (width g) (length-loops spec f) (length-loops spec g)
length-loops spec (syntax.Formula.Implies f g) = join-length (loops spec f) (loops spec g) (width f) (width g) (length-loops spec f) (length-loops spec g)
length-loops spec (syntax.Formula.Quantified q xs f) =
    join-length (variable_shapes spec xs) (loops spec f) (length xs) (width f) (length-variables spec xs) (length-loops spec f)
length-loops spec (syntax.Formula.Call X es) = refl
