-- How many of the first vertices have a priority.
use Rattle.std.proofs.Common.{ℕ, zero, suc, ◌+◌, ◌≤◌, ◌==◌, if◌then◌else◌, Bool, true, false, arith}
use Rattle.pb_game.specs.declared.Game.{Game}
use Rattle.pb_game.specs.Games.{priority_of}
use Rattle.pb_lifting.specs.Measures.{vertices_upto}

pub counted_within : (g : Game) (q n : ℕ) → vertices_upto g q n ≤ n
counted_within g q zero = omega arith
counted_within g q (suc n) = by_test (priority_of g n == q) (counted_within g q n)
  where
    by_test : (b : Bool) → vertices_upto g q n ≤ n → (if b then vertices_upto g q n + 1 else vertices_upto g q n) ≤ suc n
    by_test true h = omega arith
    by_test false h = omega arith
