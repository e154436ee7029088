use Rattle.std.proofs.Common.{◌≡◌, ◌-◌, length, vec_len}
use Rattle.pb_sorts.specs.Layout.{count_of}
use Rattle.pb_typing_plain_solver.proofs.Solving.{IsUnderway}
use Rattle.pb_typing_plain_solver.proofs.solver.+solve_from.Given as goal

abbrev pub decreases-solve_from : goal.decreases-solve_from
decreases-solve_from l = length l.typed.now.layout - l.first

-- after so many steps the set has been approached, and what is kept bounds the sets behind it
abbrev pub invariant-loop-step : goal.invariant-loop-step
invariant-loop-step l = record {
  kept : vec_len l.kept ≡ count_of l.typed.layout;
  underway : IsUnderway l.typed l.first l.fn.truths l._step l.truths l.kept.items;
}
