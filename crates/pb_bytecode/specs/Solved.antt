-- What the equations of a module get in the solution that gives its answer.
use Rattle.std.specs.Prelude.{ℕ, ◌+◌, List, map}
use Rattle.pb_fixpoint.specs.Solution.{Environment, Equation, operator, value_of}
use Rattle.pb_fixpoint.specs.Fixpoint.{IsFixpoint, IsExtreme}
use Rattle.pb_fixpoint_trees.specs.Tree.{Tree}
use Rattle.pb_fixpoint_trees.specs.Equations.{equation, numbered}
use Rattle.pb_bytecode.specs.Contents.{EquationContents}
use Rattle.pb_bytecode.specs.Meaning.{signature_of}

-- an equation of a module whose numbers begin at first, and those behind it, as the solution reads
-- them
abbrev pub read_at : ℕ → EquationContents → (ℕ → Tree) → Equation ℕ
read_at first e trees = equation first (signature_of e) trees

abbrev pub behind : ℕ → EquationContents → List EquationContents → (ℕ → Tree) → List (Equation ℕ)
behind first e after trees = numbered (first + (signature_of e).size) (map signature_of after) trees

-- the set that the equation gets is a fixpoint of its operator, the least where the module says
-- `mu` and the greatest where it says `nu`
pub record IsSolvedBySign (first : ℕ) (e : EquationContents) (after : List EquationContents)
    (trees : ℕ → Tree) (t : Environment ℕ) : Type 0 where
  pub fixpoint : IsFixpoint (read_at first e trees)
      (operator (read_at first e trees) (behind first e after trees) t)
      (value_of (read_at first e trees) (behind first e after trees) t)
  pub extreme : IsExtreme e.sign (read_at first e trees)
      (operator (read_at first e trees) (behind first e after trees) t)
      (value_of (read_at first e trees) (behind first e after trees) t)

-- each equation of each module gets such a set
abbrev pub EquationsAreSolvedBySign : Type 0
EquationsAreSolvedBySign =
    (first : ℕ) (e : EquationContents) (after : List EquationContents) (trees : ℕ → Tree)
    (t : Environment ℕ) →
    IsSolvedBySign first e after trees t
