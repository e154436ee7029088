-- How many vertices trees have.
use Rattle.std.proofs.Common.{◌≡◌, ℕ, suc, ◌+◌, length, refl, ap, ◌∙◌, length-append}
use Rattle.pb_fixpoint_trees.specs.Tree.{Operands, End, LeafThen, BracketThen, Tree, Single, Root}
use Rattle.pb_fixpoint_trees.specs.Game.{brackets, inner, inner_vertices, tree_vertices}

pub length-inner_vertices : (at : ℕ → ℕ) (f : Operands) (n : ℕ) → length (inner_vertices at f n) ≡ brackets f
length-inner_vertices at End n = refl
length-inner_vertices at (LeafThen l after) n = length-inner_vertices at after n
length-inner_vertices at (BracketThen c inside after) n =
    ap suc (length-append (inner_vertices at inside (suc n)) (inner_vertices at after (suc (n + brackets inside)))
    ∙ (ap (λ m. m + length (inner_vertices at after (suc (n + brackets inside)))) (length-inner_vertices at inside (suc n))
    ∙ ap (λ m. brackets inside + m) (length-inner_vertices at after (suc (n + brackets inside)))))

pub length-tree_vertices : (at : ℕ → ℕ) (p : ℕ) (tree : Tree) (n : ℕ) → length (tree_vertices at p tree n) ≡ suc (inner tree)
length-tree_vertices at p (Single l) n = refl
length-tree_vertices at p (Root c f) n = ap suc (length-inner_vertices at f (suc n))
