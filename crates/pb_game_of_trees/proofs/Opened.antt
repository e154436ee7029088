-- What an opening token adds to what stands behind it. Its vertex is n, and those of the brackets within it begin at m.
use Rattle.std.proofs.Common.{◌≡◌, ℕ, suc, ◌+◌, List, [], ◌∷◌, ◌++◌, length, reverse, sym, ap, ◌∙◌, append_assoc, arith}
use Rattle.std.proofs.lemmas.Grind.{reverse_onto}
use Rattle.pb_fixpoint_trees.specs.declared.junction.Junction.{Junction}
use Rattle.pb_fixpoint_trees.specs.Tree.{Operands, BracketThen}
use Rattle.pb_fixpoint_trees.specs.Game.{Vertex, brackets, targets, bracket_vertex, inner_vertices}
use Rattle.pb_game_of_trees.specs.Builder.{rest_targets, rest_starts, rest_vertices}

module _ (at : ℕ → ℕ) (c : Junction) (i a : Operands) (fs : List Operands) (n m : ℕ) (e : m ≡ suc n) where
  behind : m + brackets i ≡ suc (n + brackets i)
  behind = omega arith

  outer : m + brackets i + brackets a ≡ n + suc (brackets i + brackets a)
  outer = omega arith

  pub targets_opened : rest_targets at (a ∷ fs) (m + brackets i) ++ n ∷ [] ≡ rest_targets at (BracketThen c i a ∷ fs) n
  targets_opened =
      append_assoc (rest_targets at fs (m + brackets i + brackets a)) (reverse (targets at a (m + brackets i))) (n ∷ [])
      ∙ (ap (λ k. rest_targets at fs k ++ (reverse (targets at a (m + brackets i)) ++ n ∷ [])) outer
      ∙ (ap (λ k. rest_targets at fs (n + suc (brackets i + brackets a)) ++ (reverse (targets at a k) ++ n ∷ [])) behind
      ∙ ap (λ xs. rest_targets at fs (n + suc (brackets i + brackets a)) ++ xs) (sym (reverse_onto (targets at a (suc (n + brackets i))) n []))))

  pub starts_opened : rest_starts at (a ∷ fs) (m + brackets i) ≡ rest_starts at (BracketThen c i a ∷ fs) n
  starts_opened = ap (λ k. rest_starts at fs k ++ length (rest_targets at fs k) ∷ []) outer

  pub vertices_opened : (vs : List Vertex) →
      bracket_vertex at 0 c i m ∷ (rest_vertices at (i ∷ (a ∷ fs)) m ++ vs) ≡ rest_vertices at (BracketThen c i a ∷ fs) n ++ vs
  vertices_opened vs =
      ap (λ xs. bracket_vertex at 0 c i m ∷ (xs ++ vs))
      (sym (append_assoc (inner_vertices at i m) (inner_vertices at a (m + brackets i)) (rest_vertices at fs (m + brackets i + brackets a))))
      ∙ (ap (λ k. bracket_vertex at 0 c i m ∷ (((inner_vertices at i m ++ inner_vertices at a k) ++ rest_vertices at fs (m + brackets i + brackets a)) ++ vs)) behind
      ∙ (ap (λ k. bracket_vertex at 0 c i m ∷ (((inner_vertices at i m ++ inner_vertices at a (suc (n + brackets i))) ++ rest_vertices at fs k) ++ vs)) outer
      ∙ ap (λ k. bracket_vertex at 0 c i k ∷ (((inner_vertices at i k ++ inner_vertices at a (suc (n + brackets i))) ++ rest_vertices at fs (n + suc (brackets i + brackets a))) ++ vs)) e))
