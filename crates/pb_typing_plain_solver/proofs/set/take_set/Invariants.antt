use Rattle.std.proofs.Common.{get_or, false}
use Rattle.pb_sorts.specs.Instance.{first_of}
use Rattle.pb_sorts.specs.Layout.{carriers_of}
use Rattle.pb_typing_plain_solver.proofs.Ranges.{IsMixed}
use Rattle.pb_typing_plain_solver.proofs.set.take_set.Given as goal

-- below the number the truths are those in `from`
abbrev pub invariant-loop-number : goal.invariant-loop-number
invariant-loop-number l = IsMixed (first_of (carriers_of l.turn.typed.now.layout) l.turn.equation) l.number (λ n. get_or l.from n false) l.fn.truths l.truths
