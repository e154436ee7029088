-- The equations of trees are monotone, and own as many numbers as they say, so that their sets are extreme fixpoints.
use Rattle.std.proofs.Common.{◌≡◌, ℕ, zero, suc, ◌+◌, ◌<◌, ◌≤◌, true, List, [], ◌∷◌, length, inl, inr, refl, ap, arith, Contains}
use Rattle.std.specs.Prelude.{nat_le, nat_lt}
use Rattle.std.proofs.lemmas.Bool.{and_parts, leb-true, ltb-true, cases_lt}
use Rattle.pb_fixpoint.specs.Fixpoint.{IsMonotone, AreMonotone, AreInstances}
use Rattle.pb_fixpoint.proofs.Solved.{value_of-solved}
use Rattle.pb_fixpoint_trees.specs.Tree.{Tree}
use Rattle.pb_fixpoint_trees.specs.Equations.{Signature, equation, numbered}
use Rattle.pb_fixpoint_trees.specs.Laws.{EquationsAreSolved}
use Rattle.pb_fixpoint_trees.proofs.Monotone.{tree_truth-keeps}

-- the numbers that an equation owns
pub owned : (first : ℕ) (s : Signature) (trees : ℕ → Tree) (n : ℕ) → (equation first s trees).owns n ≡ true → (first ≤ n) × (n < first + s.size)
owned first s trees n e =
    let both = and_parts (nat_le first n) (nat_lt n (first + s.size)) e in
    (leb-true first n both.0, ltb-true n (first + s.size) both.1)

interval : ℕ → ℕ → List ℕ
interval first zero = []
interval first (suc size) = first ∷ interval (suc first) size

length-interval : (first size : ℕ) → length (interval first size) ≡ size
unfolding interval
length-interval first zero = refl
length-interval first (suc size) = ap suc (length-interval (suc first) size)

interval-contains : (first size n : ℕ) → first ≤ n → n < first + size → Contains (interval first size) n
unfolding interval
interval-contains first zero n l m = absurd (omega arith)
interval-contains first (suc size) n l m = elim (cases_lt first n) [
  | inl below ↦ let c = interval-contains (suc first) size n (omega arith) (omega arith) in let within = c.1 in (suc c.0, omega arith, c.2)
  | inr here ↦ (0, omega arith, omega arith)
]

pub equation-monotone : (first : ℕ) (s : Signature) (trees : ℕ → Tree) → IsMonotone (equation first s trees)
equation-monotone first s trees = record { keeps = λ t u h n e. tree_truth-keeps true t u h (trees n) e }

pub numbered-monotone : (first : ℕ) (signatures : List Signature) (trees : ℕ → Tree) → AreMonotone (numbered first signatures trees)
numbered-monotone first [] trees = tt
numbered-monotone first (s ∷ signatures) trees = (equation-monotone first s trees, numbered-monotone (first + s.size) signatures trees)

equation-instances : (first : ℕ) (s : Signature) (trees : ℕ → Tree) → AreInstances (equation first s trees) (interval first s.size)
equation-instances first s trees = record {
  all = λ n e. let at = owned first s trees n e in interval-contains first s.size n at.0 at.1;
  count = length-interval first s.size;
}

pub equations_are_solved : EquationsAreSolved
equations_are_solved first s rest trees t =
    value_of-solved (equation first s trees) (numbered (first + s.size) rest trees)
    (equation-monotone first s trees) (numbered-monotone (first + s.size) rest trees) t (interval first s.size) (equation-instances first s trees)
