use Rattle.std.proofs.Common.{ℕ, ◌-◌, get_or, arith}
use Rattle.std.proofs.lemmas.List.{get_or_default}
use Rattle.std.proofs.lemmas.List.Edits.{map_over_more}
use Rattle.pb_game_of_trees.proofs.draft.subtract_from.Goals as goal

pub loop-number-preserved : goal.loop-number-preserved
loop-number-preserved c =
    let l = c.loop-number in
    map_over_more (λ (n : ℕ). c.args.total - n) c.args.numbers.now l.numbers l.number-index (get_or l.numbers l.number-index 0) (omega arith) l.invariant
    (get_or_default l.numbers l.number-index 0 (get_or l.numbers l.number-index 0) (omega arith))
