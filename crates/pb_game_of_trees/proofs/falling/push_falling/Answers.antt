use Rattle.std.proofs.Common.{◌≡◌, ◌++◌, OnOk, reverse, ℕ, List, ap, ◌∙◌, subst}
use Rattle.std.proofs.lemmas.List.Sorted.{IsPermutation-trans}
use Rattle.pb_fixpoint_trees.specs.Game.{rising}
use Rattle.pb_game_of_trees.proofs.Rising.{rising-turned}
use Rattle.pb_game_of_trees.proofs.falling.push_falling.Goals as goal
use Rattle.pb_game_of_trees.proofs.falling.push_falling.Goals.{then-not-is_falling, else-not-is_falling}

pub returns : goal.returns
returns c =
    let same : rising (reverse c.if-not-is_falling.numbers) ≡ rising (reverse c.args.numbers.now) =
    elim c.if-not-is_falling.branch [
      | then-not-is_falling w ↦ ap (λ (xs : List ℕ). rising (reverse xs)) w.numbers-is
          ∙ rising-turned _ _ (IsPermutation-trans _ _ _ w.sort_unstable.ensures.permutation w.reverse.ensures.permutation)
      | else-not-is_falling w ↦ ap (λ (xs : List ℕ). rising (reverse xs)) w.numbers-is
    ] in
    subst (λ (r : List ℕ). OnOk c.push_each_once.result (c.push_each_once.new.list.items ≡ c.args.list.now.items ++ reverse r)) same c.push_each_once.ensures
