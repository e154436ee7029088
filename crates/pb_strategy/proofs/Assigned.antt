-- What an environment says where an equation's set was put into it, at numbers before the equation's and at its own.
use Rattle.std.proofs.Common.{◌≡◌, ℕ, ◌+◌, ◌<◌, ◌≤◌, true, arith}
use Rattle.std.proofs.lemmas.Bool.{and_from, le-leb, lt-ltb}
use Rattle.std.proofs.lemmas.Bool.Decides.{nat_tests}
use Rattle.std.specs.Prelude.{nat_le, nat_lt}
use Rattle.pb_fixpoint.specs.Solution.{Environment, assign}
use Rattle.pb_fixpoint_trees.specs.Tree.{Tree}
use Rattle.pb_fixpoint_trees.specs.Equations.{Signature, equation}

module _ (first : ℕ) (s : Signature) (trees : ℕ → Tree) where
  pub owns : (n : ℕ) → first ≤ n → n < first + s.size → (equation first s trees).owns n ≡ true
  owns n l m = and_from (nat_le first n) (nat_lt n (first + s.size)) (le-leb first n l) (lt-ltb n (first + s.size) m)

  pub assign_before : (t f : Environment ℕ) (n : ℕ) → n < first → assign t (equation first s trees) f n ≡ t n
  assign_before t f n h = grind (arith, nat_tests)

  pub assign_within : (t f : Environment ℕ) (n : ℕ) → first ≤ n → n < first + s.size → assign t (equation first s trees) f n ≡ f n
  assign_within t f n l m = grind (arith, nat_tests)
