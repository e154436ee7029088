use Rattle.std.proofs.Common.{◌≡◌, ◌++◌, ◌-◌, map, take, drop}
use Rattle.pb_game_of_trees.proofs.draft.subtract_from.Given as goal

abbrev pub invariant-loop-number : goal.invariant-loop-number
invariant-loop-number l = l.numbers ≡ map (λ n. l.total - n) (take l.number-index l.fn.numbers) ++ drop l.number-index l.fn.numbers
