use Rattle.pb_game_of_trees.proofs.solved.Solved.new.Goals as goal

pub invariant_of-result : goal.invariant_of-result
invariant_of-result c = record { certificate = ∣ c.requires ∣₁ }
