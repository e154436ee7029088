use Rattle.std.proofs.Common.{ℕ, ◌+◌, ◌-◌, List, ◌++◌, ◌∷◌, [], map, take, drop, get_or, ap, ◌∙◌, append_assoc, arith}
use Rattle.pb_game_of_trees.proofs.Appending.{sums_step}
use Rattle.pb_game_of_trees.proofs.draft.append_sums.Goals as goal

pub loop-k-preserved : goal.loop-k-preserved
loop-k-preserved c =
    let k = c.loop-k.k in
    let xs = c.args.others.now in
    let f = λ (n : ℕ). c.args.behind + n in
    let i = c.loop-k.invariant in
    record {
      begun = omega (arith, i.begun);
      appended = c.in_ok-push.ensures.ok ∙ (ap (λ (ns : List ℕ). ns ++ f (get_or xs k 0) ∷ []) i.appended
          ∙ (append_assoc c.args.sums.now.items (map f (take (k - 1) (drop 1 xs))) (f (get_or xs k 0) ∷ [])
          ∙ ap (λ (ns : List ℕ). c.args.sums.now.items ++ ns) (sums_step f xs k i.begun c.loop-k-test.true)));
    }
