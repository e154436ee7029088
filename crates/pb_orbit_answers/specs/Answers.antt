-- The answer to a module by representatives of its instances.
use Rattle.std.specs.Prelude.{◌≡◌, ℕ, Bool, map}
use Rattle.pb_fixpoint_trees.specs.Tree.{Tree}
use Rattle.pb_fixpoint_trees.specs.Reached.{AreRowsOf}
use Rattle.pb_fixpoint_symmetry.specs.Trees.{MayBeCalledFor}
use Rattle.pb_sorts.specs.declared.counting.Counting.{Counting}
use Rattle.pb_bytecode.specs.Contents.{Contents}
use Rattle.pb_bytecode.specs.Meaning.{AreTrees, answer, signature_of}
use Rattle.pb_exploration_orbits.specs.Laws.{AreSymmetries, is_declared}
use Rattle.pb_exploration_orbits.specs.Represented.{HasManyRepresentatives, IsExplored}
use Rattle.pb_exploration_orbits.specs.declared.exploration.Explored.{Explored}
use Rattle.pb_game_of_trees.specs.TreeGame.{HasTooManyVertices}
use Rattle.pb_game_of_trees.specs.VertexLimit.{vertex_limit}

-- a map of the family carries each instance to those that are related to it
abbrev pub AreCarried : {S : Type 0} → Contents → (S → ℕ → ℕ) → (ℕ → ℕ → Type 0) → Type 0
AreCarried m family R = (n k : ℕ) → R n k → MayBeCalledFor (is_declared m) family n k

-- where symmetries of the module do so, the truth is the module's answer
abbrev pub IsAnswerBySymmetry : Type 0 → Contents → (ℕ → ℕ → Type 0) → Bool → Type 0
IsAnswerBySymmetry S m R truth =
    (trees : ℕ → Tree) → AreTrees m trees → (family : S → ℕ → ℕ) → AreSymmetries m trees family
    → AreCarried m family R → truth ≡ answer m trees

-- More representatives are reached than a game may have vertices, or the vertices of their game are
-- more than that.
pub data HasManyOrbits (counting : Counting) (m : Contents) (R : ℕ → ℕ → Type 0) : Type 0 where
  ManyReached : HasManyRepresentatives m R (vertex_limit counting) → HasManyOrbits counting m R
  LargeGame : (x : Explored) → IsExplored m R x
      → ((trees : ℕ → Tree) → AreRowsOf (map signature_of m.equations) trees x.rows
      → HasTooManyVertices counting (map signature_of m.equations) trees x.rows)
      → HasManyOrbits counting m R
