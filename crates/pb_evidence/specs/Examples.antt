-- An instance that rests on itself: evidence of truth for nu, and of falsity for mu. And what a
-- choice between two calls names.
use Rattle.std.specs.Prelude.{ℕ, true, false, [], ◌∷◌}
use Rattle.pb_fixpoint_trees.specs.declared.junction.Junction.TheVariants.{Disjunction}
use Rattle.pb_fixpoint_trees.specs.Tree.{Tree, Call, Single, Root, LeafThen, End}
use Rattle.pb_fixpoint_trees.specs.Examples.{mu, nu, tree_at}
use Rattle.pb_evidence.specs.ProofGraphs.{Graph, IsProofGraph}
use Rattle.pb_evidence.specs.Supports.{IsSupport}

-- X = X
abbrev pub itself : ℕ → Tree
itself = tree_at (Single (Call 0) ∷ [])

abbrev pub loop : Graph
loop = record { instances = 0 ∷ []; dependencies = λ n. 0 ∷ [] }

-- the same, with no dependencies
abbrev pub bare : Graph
bare = record { instances = 0 ∷ []; dependencies = λ n. [] }

pub record ProvedSelfReference : Type 0 where
  pub greatest : IsProofGraph (nu 1 ∷ []) itself true loop
  pub greatest_isnt_false : ¬ IsProofGraph (nu 1 ∷ []) itself false loop
  pub least : IsProofGraph (mu 1 ∷ []) itself false loop
  pub least_isnt_true : ¬ IsProofGraph (mu 1 ∷ []) itself true loop
  pub not_without : ¬ IsProofGraph (nu 1 ∷ []) itself true bare

-- X0 || X1
abbrev pub either : Tree
either = Root Disjunction (LeafThen (Call 0) (LeafThen (Call 1) End))

-- it is true by one of the two and not by both, and false by both and not by one
pub record OneOfTwo : Type 0 where
  pub one : IsSupport true either (1 ∷ [])
  pub not_both : ¬ IsSupport true either (0 ∷ (1 ∷ []))
  pub both : IsSupport false either (1 ∷ (0 ∷ []))
  pub not_one : ¬ IsSupport false either (1 ∷ [])
