-- The equations of a system whose instances have trees, as the solution reads them. Instances are
-- numbered by equation, in order: each equation owns the next numbers, as many as its predicate
-- variable has instances.
use Rattle.std.specs.Prelude.{ℕ, ◌+◌, List, [], ◌∷◌, ◌&&◌, nat_le, nat_lt}
use Rattle.pb_fixpoint.specs.declared.Sign.{Sign}
use Rattle.pb_fixpoint.specs.Solution.{Environment, Equation, empty, solution}
use Rattle.pb_fixpoint_trees.specs.Tree.{Tree, tree_truth}

-- an equation's sign, and how many instances its predicate variable has
pub record Signature : Type 0 where
  pub sign : Sign
  pub size : ℕ

-- how many instances there are in all
abbrev pub total : List Signature → ℕ
total [] = 0
total (s ∷ signatures) = s.size + total signatures

-- the equation that owns the numbers from first on, each instance's right side being its tree
abbrev pub equation : ℕ → Signature → (ℕ → Tree) → Equation ℕ
equation first s trees = record {
  sign = s.sign;
  owns = λ n. nat_le first n && nat_lt n (first + s.size);
  size = s.size;
  holds = λ n t. tree_truth t (trees n);
}

-- the equations whose numbers begin at first
abbrev pub numbered : ℕ → List Signature → (ℕ → Tree) → List (Equation ℕ)
numbered first [] trees = []
numbered first (s ∷ signatures) trees =
    equation first s trees ∷ numbered (first + s.size) signatures trees

-- the instances that are true in the solution of the whole system, nothing being true outside
abbrev pub solved : List Signature → (ℕ → Tree) → Environment ℕ
solved signatures trees = solution (numbered 0 signatures trees) empty
